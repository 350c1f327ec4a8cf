use Rattle.std.proofs.Common.{◌∙◌, ◌-◌, [], ◌∷◌, sym, take}
use Rattle.gx_store.specs.Marks.{is_snapped}
use Rattle.gx_legal.proofs.Backward.{met, passed}
use Rattle.gx_legal.proofs.Lasts.{snapped-last}
use Rattle.gx_legal.proofs.marks.is_snapped.Goals as goal

pub returns-then-is_own_snap : goal.returns-then-is_own_snap
returns-then-is_own_snap c =
    let ms = c.args.marks.now in
    let m = c.index-marks-place.result in
    let g = c.args.gxid in
    let d = c.args.cid in
    met (λ xs. is_snapped xs g d) ms c.loop-place.place m (is_snapped (m ∷ []) g d) c.loop-place-test.true c.loop-place.auto.place c.index-marks-place.is c.loop-place.invariant
    (snapped-last (take (c.loop-place.place - 1) ms) m g d) (sym c.is_own_snap.ensures ∙ c.if-is_own_snap.true)

pub loop-place-preserved : goal.loop-place-preserved
loop-place-preserved c =
    let ms = c.args.marks.now in
    let m = c.index-marks-place.result in
    let g = c.args.gxid in
    let d = c.args.cid in
    passed (λ xs. is_snapped xs g d) ms c.loop-place.place m (is_snapped (m ∷ []) g d) c.loop-place-test.true c.loop-place.auto.place c.index-marks-place.is c.loop-place.invariant
    (snapped-last (take (c.loop-place.place - 1) ms) m g d) (sym c.is_own_snap.ensures ∙ c.if-is_own_snap.false)
