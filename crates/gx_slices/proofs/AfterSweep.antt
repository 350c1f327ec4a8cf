-- A row that a command comes to is swept: what is held still stands for the rule's data.
use Rattle.std.proofs.Common.{◌≡◌, ◌≢◌, ⊎_elim, Bool, true, false, eqb, ltb, not, ◌&&◌, if◌then◌else◌, refl, List, Option, Some, None, filter, sym, ap, ◌∙◌, subst}
use Rattle.std.specs.Prelude.{is_some}
use Rattle.gx_dsnap.specs.Gxids.{is_below}
use Rattle.std.specs.Map.{lookup}
use Rattle.std.specs.BTreeMap.{is_at}
use Rattle.gx_ids.specs.declared.ids.Gxid.{Gxid}
use Rattle.gx_ids.specs.declared.ids.Table.{Table}
use Rattle.gx_ids.specs.declared.rid.Rid.{Rid}
use Rattle.gx_rows.specs.Counts.{is_committed}
use Rattle.gx_rows.specs.Rows.{is_unaborted}
use Rattle.gx_rows.specs.Xids.{gxid_cmp}
use Rattle.gx_sweep.specs.Swept.{is_past}
use Rattle.gx_rules.specs.Segments.{Seg, Version}
use Rattle.gx_store.specs.declared.mark.Mark.{Mark}
use Rattle.gx_slices.specs.Apart.{IsApart, IsStored}
use Rattle.gx_slices.specs.Changing.{IsAt, Stage}
use Rattle.gx_slices.specs.Left as left
use Rattle.gx_slices.specs.Left.{AreLeft, IsOf, is_of_row}
use Rattle.gx_slices.specs.Store.{Store, Write, has_aborted, is_settled, passes, status_of, swept, writes_of}
use Rattle.gx_slices.specs.declared.held.Entry.{Entry}
use Rattle.gx_slices.specs.declared.held.Held.{Held}
use Rattle.gx_slices.proofs.Left.{left-living}
use Rattle.gx_slices.proofs.Writes.{rid_cases, table_cases}

module _ (store store' : Store) (s : Seg) (is : IsStored store s) (table : Table) (rid : Rid) (here : writes_of store' table rid ≡ swept store (writes_of store table rid)) (rows : (r : Rid) → r ≢ rid → writes_of store' table r ≡ writes_of store table r) (others : (t : Table) (r : Rid) → t ≢ table → writes_of store' t r ≡ writes_of store t r) (writers : store'.writers ≡ store.writers) (horizon : store'.horizon ≡ store.horizon) where
  same_status : (g : Gxid) → status_of store' g ≡ status_of store g
  same_status g = ap (lookup (is_at (gxid_cmp g))) writers

  -- what is dead by the store is dead by the data
  gone : (w : Write) (v : Version) → IsOf s w v → has_aborted w ≡ true → left.has_aborted s v ≡ true
  gone w v its e = sym (ap not its.unaborted) ∙ e

  is_past-kept : (v : Version) (b : Bool) → ltb v.gxid.0 s.horizon.0 ≡ b → is_past s.horizon (if b then None else Some v.gxid) ≡ is_below s.horizon v.gxid
  is_past-kept v true e = sym e
  is_past-kept v false e = refl

  past : (w : Write) (v : Version) → IsOf s w v → is_settled store.horizon w ≡ true → left.is_settled s v ≡ true
  past w v its e =
      ap (λ (b : Bool). b && is_below s.horizon v.gxid) (sym its.committed)
      ∙ ap (λ (b : Bool). is_committed w.status && b) (sym (is_past-kept v (ltb v.gxid.0 s.horizon.0) refl) ∙ ap (is_past s.horizon) (sym its.writer) ∙ ap (λ (h : Gxid). is_past h w.writer) (sym is.horizon))
      ∙ e

  swept_here : AreLeft s table rid (writes_of store' table rid)
  swept_here =
      subst (λ (ws : List Write). AreLeft s table rid ws) (sym here)
      (left-living (IsOf s) (left.has_aborted s) (left.is_settled s) has_aborted (is_settled store.horizon) gone past (writes_of store table rid) (filter (is_of_row table rid) s.versions) (is.writes table rid))

  in_table : (r : Rid) → AreLeft s table r (writes_of store' table r)
  in_table r =
      ⊎_elim
      (λ (e : r ≡ rid). subst (λ (q : Rid). AreLeft s table q (writes_of store' table q)) (sym e) swept_here)
      (λ (other : r ≢ rid). subst (λ (ws : List Write). AreLeft s table r ws) (sym (rows r other)) (is.writes table r))
      (rid_cases r rid)

  all_left : (t : Table) (r : Rid) → AreLeft s t r (writes_of store' t r)
  all_left t r =
      ⊎_elim
      (λ (e : t ≡ table). subst (λ (u : Table). AreLeft s u r (writes_of store' u r)) (sym e) (in_table r))
      (λ (other : t ≢ table). subst (λ (ws : List Write). AreLeft s t r ws) (sym (others t r other)) (is.writes t r))
      (table_cases t table)

  pub IsStored-swept : IsStored store' s
  IsStored-swept = record {
    horizon = horizon ∙ is.horizon;
    writes = all_left;
    wrote = λ g up. ap is_some (same_status g) ∙ is.wrote g up;
    committed = λ g up. ap (passes is_committed) (same_status g) ∙ is.committed g up;
    unaborted = λ g up. ap (passes is_unaborted) (same_status g) ∙ is.unaborted g up;
  }

module _ (stage : Stage) (g : Gxid) (held : Held) (entry : Entry) (marks : List Mark) (at : IsAt stage g held entry marks) where
  pub IsAt-stored : (store : Store) → IsStored store stage.moved.seg → IsAt stage g (record held { store = store }) entry marks
  IsAt-stored store stored = let is = at.apart in record {
    apart = record {
      stored = stored;
      locks = is.locks;
      entries = is.entries;
      holders = is.holders;
      local = is.local;
      kept = is.kept;
      open_here = is.open_here;
      node = is.node;
      horizon = is.horizon;
      owned = is.owned;
      alive = is.alive;
      writers = is.writers;
      waiting = is.waiting;
      other_waits = is.other_waits;
      other_locals = is.other_locals;
      other_rows = is.other_rows;
      other_versions = is.other_versions;
    };
    told = at.told;
    typed = at.typed;
  }
