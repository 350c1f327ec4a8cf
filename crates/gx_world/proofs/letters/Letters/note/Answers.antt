use Rattle.std.proofs.Common.{rules}
use Rattle.gx_store.specs.Journals.{is_same_node}
use Rattle.gx_world.proofs.Places.{link-next, places-next}
use Rattle.gx_world.proofs.letters.Letters.note.Goals as goal

-- src/letters.rt:46:9
pub loop-mark-preserved : goal.loop-mark-preserved
loop-mark-preserved g c = (
  c.in_ok-note_mark.ensures.long,
  λ f t.
      link-next (is_same_node f c.args.node) _ _ _ _ _ _ (c.loop-mark.invariant.1 f t) (c.in_ok-note_mark.ensures.links f t)
      (places-next c.args.step t c.args.marks.now c.loop-mark.mark c.index-marks-mark.result (search rules) c.index-marks-mark.is),
)
