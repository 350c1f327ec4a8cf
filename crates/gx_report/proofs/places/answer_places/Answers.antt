use Rattle.std.proofs.Common.{rules}
use Rattle.gx_report.proofs.Noting.{places-next}
use Rattle.gx_report.proofs.places.answer_places.Goals as goal

-- src/places.rt:21:5
pub loop-step-preserved : goal.loop-step-preserved
loop-step-preserved c =
    places-next c.args.sessions c.args.steps.now c.loop-step.step c.at.result _ _ (search rules) (c.at.ensures _) c.loop-step.invariant (search rules)
