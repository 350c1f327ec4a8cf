use Rattle.std.proofs.Common.{List, Option, subst, sym}
use Rattle.gx_tree.specs.declared.value.Value.{Value}
use Rattle.gx_tree.specs.declared.cond.Cond.{Cond}
use Rattle.gx_slices.specs.Changing.{IsRightImage, IsTypedFor}
use Rattle.gx_slices.proofs.RightChanges.{typed-row}
use Rattle.gx_slices.proofs.changing_row.change_if_true.Goals as goal

pub is_true-requires : goal.is_true-requires
is_true-requires g c =
    let k = c.args.change.now in
    let w = k.writer in
    let may = c.requires.0 in
    let right = subst (λ (o : Option (List Value)). IsRightImage g.stage.found.tables w.table o) c.in-Some.is c.requires.1.1.1 in
    subst (λ (cond : Option Cond). IsTypedFor cond c.in-Some.old) (sym c.get.ensures) (typed-row g.stage.found.tables w.gxid w.cid w.table k.set k.cond may.right c.in-Some.old right)
