use Rattle.std.proofs.Common.{◌≡◌, ℕ, ◌+◌, ◌≤◌, sym, subst, arith}
use Rattle.std.specs.Prelude.{None}
use Rattle.std.specs.BTreeMap.{get}
use Rattle.gx_rows.specs.Xids.{Xids, gxid_cmp, lxid_of}
use Rattle.gx_rows.specs.Keys.{IsWhole}
use Rattle.gx_rows.proofs.XidEntries.{IsWhole-assigned, IsWhole-same}
use Rattle.gx_rows.proofs.map.XidMap.assign.Goals as goal

pub invariant_of-self : goal.invariant_of-self
invariant_of-self c =
    IsWhole-same c.self.inside.horizon c.self.inside.given c.self.inside.lxids c.add_entry.new.lxids c.self.inside.entries c.add_entry.new.entries c.self.invariant c.in_err-add_entry.ensures.lxids_stay c.in_err-add_entry.ensures.entries_stay

pub invariant_of-self-2 : goal.invariant_of-self-2
invariant_of-self-2 c =
    let m = c.self.inside.lxids in
    let fresh : get gxid_cmp m c.args.gxid ≡ None = subst (λ (x : Xids). lxid_of x c.args.gxid ≡ None) (sym c.self.view_is) c.requires.fresh in
    let high : c.self.inside.horizon.0 ≤ c.args.gxid.0 = subst (λ (x : Xids). x.horizon.0 ≤ c.args.gxid.0) (sym c.self.view_is) c.requires.high in
    let next : c.in-Some.given ≡ c.self.inside.given + 1 = grind (arith, c.checked_add.ensures, c.in-Some.is) in
    subst
    (λ (n : ℕ). IsWhole c.self.inside.horizon c.add_entry.new.lxids c.add_entry.new.entries n)
    (sym next)
    (IsWhole-assigned c.self.inside.horizon c.self.inside.given m c.add_entry.new.lxids c.self.inside.entries c.add_entry.new.entries c.args.gxid (record { 0 = c.in-Some.given }) c.self.invariant fresh high next c.in_ok-add_entry.ensures.found c.in_ok-add_entry.ensures.back)
