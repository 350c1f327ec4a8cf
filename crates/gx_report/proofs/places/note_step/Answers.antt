use Rattle.std.proofs.Common.{rules}
use Rattle.gx_report.proofs.Noting.{noted-next, places_among-next}
use Rattle.gx_report.proofs.places.note_step.Goals as goal

-- src/places.rt:41:5
pub loop-mark-preserved : goal.loop-mark-preserved
loop-mark-preserved c =
    noted-next _ _ _ _ _ _ c.loop-mark.invariant c.in_ok-note_mark.ensures (λ session. places_among-next session c.args.step c.args.marks.now c.loop-mark.mark c.index-marks-mark.result (search rules) c.index-marks-mark.is)
