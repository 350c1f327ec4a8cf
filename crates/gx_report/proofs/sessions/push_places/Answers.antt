use Rattle.std.proofs.Common.{rules}
use Rattle.gx_report.specs.Places.{text_at}
use Rattle.gx_report.proofs.Adding.{added-next}
use Rattle.gx_report.proofs.sessions.push_places.Goals as goal

pub loop-place-preserved : goal.loop-place-preserved
loop-place-preserved c =
    added-next (text_at c.args.name.now c.args.steps.now) c.args.places.now c.loop-place.place-index _ _ _ _ c.loop-place-test.true (search rules) c.loop-place.invariant c.in_ok-push_place.ensures
