use Rattle.std.proofs.Common.{◌+◌, ◌∙◌, List, ap, drop, sym}
use Rattle.gx_store.specs.Writes.{set_from}
use Rattle.gx_tree.specs.declared.value.Value.{Value}
use Rattle.gx_legal.proofs.Along.{assign-faults, assign-sets}
use Rattle.gx_legal.proofs.setting.set_all.Goals as goal

pub returns-in-Err : goal.returns-in-Err
returns-in-Err c =
    let a = c.args in
    assign-faults a.old.now c.loop-assign.new.items c.loop-assign.assign-index a.assigns.now c.assign-item.result (set_from a.old.now a.new.now.items a.assigns.now) c.in-Err.fault
    c.loop-assign-test.true c.assign-item.is c.loop-assign.invariant (sym c.in_ok-value.ensures ∙ c.in-Err.is)

pub loop-assign-preserved : goal.loop-assign-preserved
loop-assign-preserved c =
    let a = c.args in
    let k = c.loop-assign.assign-index in
    ap (λ (items : List Value). set_from a.old.now items (drop (k + 1) a.assigns.now)) c.put.ensures
    ∙ assign-sets a.old.now c.loop-assign.new.items k a.assigns.now c.assign-item.result (set_from a.old.now a.new.now.items a.assigns.now) c.in-Ok.value
    c.loop-assign-test.true c.assign-item.is c.loop-assign.invariant (sym c.in_ok-value.ensures ∙ c.in-Ok.is)
