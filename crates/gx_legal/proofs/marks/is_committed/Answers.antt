use Rattle.std.proofs.Common.{◌∙◌, ◌-◌, [], ◌∷◌, sym, take}
use Rattle.gx_store.specs.Marks.{is_committed}
use Rattle.gx_legal.proofs.Backward.{met, passed}
use Rattle.gx_legal.proofs.Lasts.{committed-last}
use Rattle.gx_legal.proofs.marks.is_committed.Goals as goal

pub returns-then-is_commit : goal.returns-then-is_commit
returns-then-is_commit c =
    let ms = c.args.marks.now in
    let m = c.index-marks-place.result in
    let g = c.args.gxid in
    met (λ xs. is_committed xs g) ms c.loop-place.place m (is_committed (m ∷ []) g) c.loop-place-test.true c.loop-place.auto.place c.index-marks-place.is c.loop-place.invariant
    (committed-last (take (c.loop-place.place - 1) ms) m g) (sym c.is_commit.ensures ∙ c.if-is_commit.true)

pub loop-place-preserved : goal.loop-place-preserved
loop-place-preserved c =
    let ms = c.args.marks.now in
    let m = c.index-marks-place.result in
    let g = c.args.gxid in
    passed (λ xs. is_committed xs g) ms c.loop-place.place m (is_committed (m ∷ []) g) c.loop-place-test.true c.loop-place.auto.place c.index-marks-place.is c.loop-place.invariant
    (committed-last (take (c.loop-place.place - 1) ms) m g) (sym c.is_commit.ensures ∙ c.if-is_commit.false)
