use Rattle.std.proofs.Common.{◌≡◌, ◌∙◌, map, sym, ap, subst}
use Rattle.std.specs.Prelude.{option_map}
use Rattle.gx_ids.specs.declared.ids.Table.{Table}
use Rattle.gx_ids.specs.declared.rid.Rid.{Rid}
use Rattle.gx_rows.specs.Xids.{Xids, lxid_of}
use Rattle.gx_slices.specs.Store.{Store, kept_at, status_of, with_status, writes_of}
use Rattle.gx_slices.specs.Filed.{IsSound, store_of, with_status_at, write_of}
use Rattle.gx_slices.proofs.KeptVersions.{kept_at-map}
use Rattle.gx_slices.proofs.Statuses.{IsSound-set, status_of-set, status_of-set_other, writes_set}
use Rattle.gx_slices.proofs.store.LocalStore.set_status.Goals as goal

pub invariant_of-self : goal.invariant_of-self
invariant_of-self c =
    let tables = c.self.inside.tables.entries in
    record {
      sound = subst (IsSound tables) (sym c.set_status_in.ensures) (IsSound-set tables c.self.inside.xids c.args.gxid c.args.status c.self.invariant.sound);
      indexed = c.self.invariant.indexed;
    }

pub returns-clause-set : goal.returns-clause-set
returns-clause-set c =
    ap (λ (x : Xids). status_of (store_of c.self.inside.tables.entries x) c.args.gxid) c.set_status_in.ensures
    ∙ status_of-set c.self.inside.tables.entries c.self.inside.xids c.args.gxid c.args.status c.self.invariant.sound
    ∙ ap (λ (s : Store). option_map (λ _. c.args.status) (status_of s c.args.gxid)) c.self.view_is

pub returns-clause-others : goal.returns-clause-others
returns-clause-others c = λ q other.
    ap (λ (x : Xids). status_of (store_of c.self.inside.tables.entries x) q) c.set_status_in.ensures
    ∙ status_of-set_other c.self.inside.tables.entries c.self.inside.xids c.args.gxid c.args.status c.self.invariant.sound q other
    ∙ ap (λ (s : Store). status_of s q) c.self.view_is

pub returns-clause-writes : goal.returns-clause-writes
returns-clause-writes c =
    let tables = c.self.inside.tables.entries in
    let x = c.self.inside.xids in
    subst
    (λ (s : Store). (t : Table) (r : Rid) → writes_of (store_of tables c.set_status_in.new.xids) t r ≡ map (with_status c.args.gxid c.args.status) (writes_of s t r))
    c.self.view_is
    (λ t r.
    ap (λ (y : Xids). writes_of (store_of tables y) t r) c.set_status_in.ensures
    ∙ kept_at-map (write_of (with_status_at (lxid_of x c.args.gxid) x c.args.status)) r tables t
    ∙ writes_set tables x c.args.gxid c.args.status c.self.invariant.sound (kept_at tables t r)
    ∙ ap (map (with_status c.args.gxid c.args.status)) (sym (kept_at-map (write_of x) r tables t)))
