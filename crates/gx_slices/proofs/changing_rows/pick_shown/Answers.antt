use Rattle.std.proofs.Common.{Option, subst, sym}
use Rattle.gx_tree.specs.declared.cond.Cond.{Cond}
use Rattle.gx_rules.specs.Shown.{shown}
use Rattle.gx_slices.specs.Picked.{AreTypedOn, IsPicked}
use Rattle.gx_slices.proofs.Counting.{HasNoDead-open, HasNoneBelow-alive}
use Rattle.gx_slices.proofs.Closing.{IsStored-held}
use Rattle.gx_slices.proofs.Enough.{IsPicked-enough}
use Rattle.gx_slices.proofs.Looked.{enough-shown}
use Rattle.gx_slices.proofs.RightChanges.{typed-shown}
use Rattle.gx_slices.proofs.Rightness.{right-shown}
use Rattle.gx_slices.proofs.changing_rows.pick_shown.Goals as goal

pub pick-requires : goal.pick-requires
pick-requires g c =
    let held = c.args.held.now in
    let is = c.requires.0 in
    let may = c.requires.1.0 in
    let k = c.args.change.now in
    let w = k.writer in
    let cond = c.get-cond.result.now in
    let all = shown g.found.start k.snapshot w.gxid w.cid w.table in
    let typed = subst (λ (x : Option Cond). AreTypedOn x all) (sym c.get-cond.ensures) (typed-shown g.found.tables w.gxid w.cid w.table k.set k.cond may.right all (right-shown g.found.tables w.table g.found.start k.snapshot w.gxid w.cid is.typed)) in
    (enough-shown held.store g.found.start (IsStored-held g.found.tables held g.found.start is) k.snapshot w.gxid w.cid (HasNoDead-open g.found.start w.gxid w.cid c.requires.1.1) (HasNoneBelow-alive g.found.start w.gxid w.cid may.alive) w.table cond c.in_ok-rows.rows.items c.in_ok-rows.ensures.rising c.in_ok-rows.ensures.images typed).typed

pub returns : goal.returns
returns g c =
    let held = c.args.held.now in
    let is = c.requires.0 in
    let may = c.requires.1.0 in
    let k = c.args.change.now in
    let w = k.writer in
    let cond = c.get-cond.result.now in
    let all = shown g.found.start k.snapshot w.gxid w.cid w.table in
    let typed = subst (λ (x : Option Cond). AreTypedOn x all) (sym c.get-cond.ensures) (typed-shown g.found.tables w.gxid w.cid w.table k.set k.cond may.right all (right-shown g.found.tables w.table g.found.start k.snapshot w.gxid w.cid is.typed)) in
    let enough = enough-shown held.store g.found.start (IsStored-held g.found.tables held g.found.start is) k.snapshot w.gxid w.cid (HasNoDead-open g.found.start w.gxid w.cid c.requires.1.1) (HasNoneBelow-alive g.found.start w.gxid w.cid may.alive) w.table cond c.in_ok-rows.rows.items c.in_ok-rows.ensures.rising c.in_ok-rows.ensures.images typed in
    subst (λ (x : Option Cond). IsPicked x all c.in_ok-picked.picked) c.get-cond.ensures (IsPicked-enough all c.in_ok-rows.rows.items cond c.in_ok-picked.picked enough c.in_ok-picked.ensures)
