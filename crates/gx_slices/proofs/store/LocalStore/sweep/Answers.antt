use Rattle.std.proofs.Common.{◌≡◌, ◌≢◌, subst}
use Rattle.gx_ids.specs.declared.ids.Table.{Table}
use Rattle.gx_ids.specs.declared.rid.Rid.{Rid}
use Rattle.gx_slices.specs.Filed.{store_of}
use Rattle.gx_slices.specs.Store.{Store, swept, writes_of}
use Rattle.gx_slices.proofs.SweptRows.{IsKeyed-swept, writes_of-swept, writes_of-swept_row, writes_of-swept_table}
use Rattle.gx_slices.proofs.store.LocalStore.sweep.Goals as goal

abbrev new : goal.After-sweep_in → Store
new c = store_of c.sweep_in.new.tables.entries c.self.inside.xids

pub invariant_of-self : goal.invariant_of-self
invariant_of-self c =
    let e = c.sweep_in.ensures in
    IsKeyed-swept c.self.inside.tables.entries c.sweep_in.new.tables.entries c.self.inside.xids c.args.table c.args.rid e.swept e.rows e.tables c.self.inside.dists.items c.self.inside.index c.self.invariant

pub returns-clause-swept : goal.returns-clause-swept
returns-clause-swept c =
    let e = c.sweep_in.ensures in
    subst
    (λ (s : Store). writes_of (new c) c.args.table c.args.rid ≡ swept s (writes_of s c.args.table c.args.rid))
    c.self.view_is
    (writes_of-swept c.self.inside.tables.entries c.sweep_in.new.tables.entries c.self.inside.xids c.args.table c.args.rid e.swept e.rows e.tables c.self.invariant.sound)

pub returns-clause-rows : goal.returns-clause-rows
returns-clause-rows c =
    let e = c.sweep_in.ensures in
    subst
    (λ (s : Store). (r : Rid) → r ≢ c.args.rid → writes_of (new c) c.args.table r ≡ writes_of s c.args.table r)
    c.self.view_is
    (writes_of-swept_row c.self.inside.tables.entries c.sweep_in.new.tables.entries c.self.inside.xids c.args.table c.args.rid e.swept e.rows e.tables)

pub returns-clause-tables : goal.returns-clause-tables
returns-clause-tables c =
    let e = c.sweep_in.ensures in
    subst
    (λ (s : Store). (t : Table) (r : Rid) → t ≢ c.args.table → writes_of (new c) t r ≡ writes_of s t r)
    c.self.view_is
    (writes_of-swept_table c.self.inside.tables.entries c.sweep_in.new.tables.entries c.self.inside.xids c.args.table c.args.rid e.swept e.rows e.tables)
