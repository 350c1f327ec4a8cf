use Rattle.std.proofs.Common.{◌≡◌, ◌∙◌, ◌↔◌, IsTrue, List, Some, get_or, slice_get, sym, subst, take}
use Rattle.std.proofs.lemmas.Option.{slice_get-get_or}
use Rattle.std.proofs.lemmas.Result.{IfOk-weaker}
use Rattle.std.specs.Prelude.{IfOk}
use Rattle.gx_lemmas.proofs.Options.{some-same}
use Rattle.gx_store.specs.declared.mark.Mark.{Mark}
use Rattle.gx_legal.specs.Causes.{FaultsBy}
use Rattle.gx_legal.specs.Moments.{point_of}
use Rattle.gx_legal.proofs.faulted.is_fault_at.Goals as goal

pub returns : goal.returns
returns c =
    let a = c.args in
    let k = a.command in
    let bs = a.moment.now.before.now in
    let x = get_or bs a.place c.index-moment-place.result in
    let at : slice_get bs a.place ≡ Some x = slice_get-get_or bs a.place c.index-moment-place.result c.requires in
    let Faults : List Mark → Mark → Type 0 = λ ms. FaultsBy a.why.2 (point_of a.moment.now) (take a.place ms) a.place a.stmt.now k.level k.gxid k.cid a.why.0 a.why.1 in
    let Holds : List Mark → Type 0 = λ ms. IfOk c.is_fault_by.result (λ is. IsTrue is ↔ ((mark : Mark) × (slice_get ms a.place ≡ Some mark) × Faults ms mark)) in
    subst Holds a.moment.now.whole
    (IfOk-weaker c.is_fault_by.result _ _ (λ is by. (λ t. (x, at, by.0 t), λ has. by.1 (subst (Faults bs) (some-same has.0 x (sym has.1 ∙ at)) has.2))) c.is_fault_by.ensures)
