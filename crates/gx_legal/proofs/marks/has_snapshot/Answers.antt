use Rattle.std.proofs.Common.{◌∙◌, ◌-◌, [], ◌∷◌, sym, take}
use Rattle.gx_store.specs.Marks.{has_snapshot}
use Rattle.gx_legal.proofs.Backward.{met, passed}
use Rattle.gx_legal.proofs.Lasts.{snapshot-last}
use Rattle.gx_legal.proofs.marks.has_snapshot.Goals as goal

pub returns-then-is_snap : goal.returns-then-is_snap
returns-then-is_snap c =
    let ms = c.args.marks.now in
    let m = c.index-marks-place.result in
    let g = c.args.gxid in
    met (λ xs. has_snapshot xs g) ms c.loop-place.place m (has_snapshot (m ∷ []) g) c.loop-place-test.true c.loop-place.auto.place c.index-marks-place.is c.loop-place.invariant
    (snapshot-last (take (c.loop-place.place - 1) ms) m g) (sym c.is_snap.ensures ∙ c.if-is_snap.true)

pub loop-place-preserved : goal.loop-place-preserved
loop-place-preserved c =
    let ms = c.args.marks.now in
    let m = c.index-marks-place.result in
    let g = c.args.gxid in
    passed (λ xs. has_snapshot xs g) ms c.loop-place.place m (has_snapshot (m ∷ []) g) c.loop-place-test.true c.loop-place.auto.place c.index-marks-place.is c.loop-place.invariant
    (snapshot-last (take (c.loop-place.place - 1) ms) m g) (sym c.is_snap.ensures ∙ c.if-is_snap.false)
