use Rattle.std.proofs.Common.{◌≡◌, ◌≢◌, ◌++◌, ◌∷◌, [], ◌⊎◌, ◌≤◌, List, slice_get, subst, sym}
use Rattle.std.specs.Prelude.{OnOk, OnErr, Some, unwrap_or}
use Rattle.gx_ids.specs.declared.ids.Gxid.{Gxid}
use Rattle.gx_ids.specs.declared.ids.Table.{Table}
use Rattle.gx_ids.specs.declared.rid.Rid.{Rid}
use Rattle.gx_tree.specs.declared.schema.Dist.{Dist}
use Rattle.gx_rows.specs.declared.status.LocalStatus.TheVariants.{Running}
use Rattle.gx_slices.specs.Store.{Store, status_of, writes_of}
use Rattle.gx_slices.specs.Filed.{store_of}
use Rattle.gx_slices.specs.Keyed.{IsUnder}
use Rattle.gx_slices.proofs.Keyed.{IsIndexed-tried}
use Rattle.gx_slices.proofs.Writes.{IsSound-tried, OnErr-status, OnErr-writes, OnOk-weaker, status_of-tried_other, status_of-writer, writes_of-written, writes_of-written_row, writes_of-written_table}
use Rattle.gx_slices.proofs.store.LocalStore.write.Goals as goal

abbrev new : goal.After-write_keyed → Store
new c = store_of c.write_keyed.new.tables.entries c.write_keyed.new.xids

high : (c : goal.After-write_keyed) → c.self.inside.xids.horizon.0 ≤ c.args.gxid.0
high c = subst (λ (s : Store). s.horizon.0 ≤ c.args.gxid.0) (sym c.self.view_is) c.requires

pub invariant_of-self : goal.invariant_of-self
invariant_of-self c =
    let e = c.write_keyed.ensures in
    let was = c.self.invariant in record {
      sound = IsSound-tried _ _ _ _ c.args.gxid c.args.cid c.args.table c.args.rid c.args.image (high c) was.sound c.write_keyed.result e.ok e.err e.tried;
      indexed =
          IsIndexed-tried _ c.self.inside.index c.write_keyed.new.index c.self.inside.tables.entries c.write_keyed.new.tables.entries c.self.inside.xids c.write_keyed.new.xids c.args.gxid c.args.cid c.args.table c.args.rid c.args.image c.write_keyed.result was.indexed e.kept e.ok e.err
          (subst (λ (dists : List Dist). OnOk c.write_keyed.result (IsUnder c.write_keyed.new.index (slice_get dists c.args.table.0) c.args.table c.args.rid c.args.image)) c.as_slice.ensures.value e.under);
    }

pub returns-clause-written : goal.returns-clause-written
returns-clause-written c =
    subst
    (λ (s : Store). OnOk c.write_keyed.result (writes_of (new c) c.args.table c.args.rid ≡ writes_of s c.args.table c.args.rid ++ (record { writer = Some c.args.gxid; cid = c.args.cid; status = unwrap_or (status_of s c.args.gxid) Running; image = c.args.image }) ∷ []))
    c.self.view_is
    (OnOk-weaker c.write_keyed.result (λ w. writes_of-written _ _ _ _ c.args.gxid c.args.cid c.args.table c.args.rid c.args.image (high c) c.self.invariant.sound w) c.write_keyed.ensures.ok)

pub returns-clause-rows : goal.returns-clause-rows
returns-clause-rows c =
    subst
    (λ (s : Store). OnOk c.write_keyed.result ((r : Rid) → r ≢ c.args.rid → writes_of (new c) c.args.table r ≡ writes_of s c.args.table r))
    c.self.view_is
    (OnOk-weaker c.write_keyed.result (λ w. writes_of-written_row _ _ _ _ c.args.gxid c.args.cid c.args.table c.args.rid c.args.image (high c) c.self.invariant.sound w) c.write_keyed.ensures.ok)

pub returns-clause-tables : goal.returns-clause-tables
returns-clause-tables c =
    subst
    (λ (s : Store). OnOk c.write_keyed.result ((t : Table) (r : Rid) → t ≢ c.args.table → writes_of (new c) t r ≡ writes_of s t r))
    c.self.view_is
    (OnOk-weaker c.write_keyed.result (λ w. writes_of-written_table _ _ _ _ c.args.gxid c.args.cid c.args.table c.args.rid c.args.image (high c) c.self.invariant.sound w) c.write_keyed.ensures.ok)

pub returns-clause-status : goal.returns-clause-status
returns-clause-status c =
    subst
    (λ (s : Store). OnOk c.write_keyed.result (status_of (new c) c.args.gxid ≡ Some (unwrap_or (status_of s c.args.gxid) Running)))
    c.self.view_is
    (OnOk-weaker c.write_keyed.result (λ w. status_of-writer c.self.inside.tables.entries c.write_keyed.new.tables.entries c.self.inside.xids c.write_keyed.new.xids c.args.gxid c.args.cid c.args.table c.args.rid c.args.image (high c) c.self.invariant.sound w.writer) c.write_keyed.ensures.ok)

pub returns-clause-others : goal.returns-clause-others
returns-clause-others c =
    let e = c.write_keyed.ensures in
    subst
    (λ (s : Store). (g : Gxid) → g.0 ≢ c.args.gxid.0 → status_of (new c) g ≡ status_of s g)
    c.self.view_is
    (status_of-tried_other _ _ _ _ c.args.gxid c.args.cid c.args.table c.args.rid c.args.image (high c) c.self.invariant.sound c.write_keyed.result e.ok e.err e.tried)

pub returns-clause-err : goal.returns-clause-err
returns-clause-err c =
    let e = c.write_keyed.ensures in
    subst
    (λ (s : Store). OnErr c.write_keyed.result ((t : Table) (r : Rid) → writes_of (new c) t r ≡ writes_of s t r))
    c.self.view_is
    (OnErr-writes _ _ _ _ c.args.gxid c.args.cid c.args.table c.args.rid c.args.image (high c) c.self.invariant.sound c.write_keyed.result e.err e.tried)

pub returns-clause-tried : goal.returns-clause-tried
returns-clause-tried c =
    let e = c.write_keyed.ensures in
    subst
    (λ (s : Store). OnErr c.write_keyed.result ((status_of (new c) c.args.gxid ≡ status_of s c.args.gxid) ⊎ (status_of (new c) c.args.gxid ≡ Some (unwrap_or (status_of s c.args.gxid) Running))))
    c.self.view_is
    (OnErr-status _ _ _ _ c.args.gxid c.args.cid c.args.table c.args.rid c.args.image (high c) c.self.invariant.sound c.write_keyed.result e.err e.tried)
