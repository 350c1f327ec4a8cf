use Rattle.std.proofs.Common.{◌∙◌, ◌-◌, [], ◌∷◌, sym, take}
use Rattle.gx_store.specs.Marks.{is_aborted}
use Rattle.gx_legal.proofs.Backward.{met, passed}
use Rattle.gx_legal.proofs.Lasts.{aborted-last}
use Rattle.gx_legal.proofs.marks.is_aborted.Goals as goal

pub returns-then-is_abort : goal.returns-then-is_abort
returns-then-is_abort c =
    let ms = c.args.marks.now in
    let m = c.index-marks-place.result in
    let g = c.args.gxid in
    met (λ xs. is_aborted xs g) ms c.loop-place.place m (is_aborted (m ∷ []) g) c.loop-place-test.true c.loop-place.auto.place c.index-marks-place.is c.loop-place.invariant
    (aborted-last (take (c.loop-place.place - 1) ms) m g) (sym c.is_abort.ensures ∙ c.if-is_abort.true)

pub loop-place-preserved : goal.loop-place-preserved
loop-place-preserved c =
    let ms = c.args.marks.now in
    let m = c.index-marks-place.result in
    let g = c.args.gxid in
    passed (λ xs. is_aborted xs g) ms c.loop-place.place m (is_aborted (m ∷ []) g) c.loop-place-test.true c.loop-place.auto.place c.index-marks-place.is c.loop-place.invariant
    (aborted-last (take (c.loop-place.place - 1) ms) m g) (sym c.is_abort.ensures ∙ c.if-is_abort.false)
