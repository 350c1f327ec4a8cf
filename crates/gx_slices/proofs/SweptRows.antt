-- A row of the store that is swept.
use Rattle.std.proofs.Common.{◌≡◌, ◌≢◌, ⊎_elim, Bool, true, false, cond, if◌then◌else◌, ltb, not, ◌&&◌, ◌||◌, List, [], ◌∷◌, Option, Some, None, map, length, refl, sym, ap, ◌∙◌, subst}
use Rattle.std.specs.BTreeMap.{insert_entry, is_at}
use Rattle.std.specs.List.{AllByRecursion, list_any}
use Rattle.std.specs.List.Sorted.{IsStrictlySortedBy}
use Rattle.std.specs.Map.{keys_of, lookup, set_value}
use Rattle.std.specs.Prelude.{option_and_then, slice_get, unwrap_or}
use Rattle.gx_ids.specs.declared.ids.Gxid.{Gxid}
use Rattle.gx_ids.specs.declared.ids.Table.{Table}
use Rattle.gx_ids.specs.declared.rid.Rid.{Rid}
use Rattle.gx_tree.specs.declared.schema.Dist.{Dist}
use Rattle.gx_rows.proofs.Entries.{lookup-insert_entry_other, lookup-insert_entry_same, set_value-insert_entry}
use Rattle.gx_rows.specs.Counts.{is_committed}
use Rattle.gx_rows.specs.Rows.{is_unaborted, versions_of}
use Rattle.gx_rows.specs.Xids.{Xids}
use Rattle.gx_rows.specs.declared.status.LocalStatus.{LocalStatus}
use Rattle.gx_rows.specs.declared.version.Version.{Version}
use Rattle.gx_sweep.specs.Swept as lists
use Rattle.gx_sweep.specs.Swept.{is_dead, is_past, living}
use Rattle.gx_sweep.specs.declared.index.KeyIndex.{KeyIndex}
use Rattle.gx_slices.specs.Filed.{IsFiled, IsSound, store_of, versions_in, write_of}
use Rattle.gx_slices.specs.Keyed.{IsIndexed, IsKeyed, IsUnder}
use Rattle.gx_slices.specs.Store.{has_aborted, is_settled, kept_at, swept, table_cmp, writes_of}
use Rattle.gx_slices.proofs.KeptVersions.{kept_at-map, table_cmp-total, tables_apart}
use Rattle.gx_slices.proofs.Writes.{rid_cases, table_cases}

-- ANY LIST
-- what holds of all holds of those that are left
pub all-living : {X : Type 0} (P : X → Type 0) (aborted settled : X → Bool) (xs : List X) → AllByRecursion P xs → AllByRecursion P (living aborted settled xs)
all-living P aborted settled [] all = tt
all-living P aborted settled (x ∷ xs) all = either (is_dead aborted settled x xs) (all-living P aborted settled xs all.1)
  where
    either : (b : Bool) → AllByRecursion P (living aborted settled xs) → AllByRecursion P (if b then living aborted settled xs else x ∷ living aborted settled xs)
    either true more = more
    either false more = (all.0, more)

-- by tests that agree
module _ {X Y : Type 0} (f : X → Y) (P : X → Type 0) (a s : X → Bool) (a' s' : Y → Bool) (same_a : (x : X) → P x → a x ≡ a' (f x)) (same_s : (x : X) → P x → s x ≡ s' (f x)) where
  any-mapped : (xs : List X) → AllByRecursion P xs → list_any s xs ≡ list_any s' (map f xs)
  any-mapped [] all = refl
  any-mapped (x ∷ xs) all = ap (λ (b : Bool). b || list_any s xs) (same_s x all.0) ∙ ap (λ (b : Bool). s' (f x) || b) (any-mapped xs all.1)

  mapped_once : (x : X) (xs : List X) (b : Bool) → map f (living a s xs) ≡ living a' s' (map f xs) → map f (if b then living a s xs else x ∷ living a s xs) ≡ (if b then living a' s' (map f xs) else f x ∷ living a' s' (map f xs))
  mapped_once x xs true same = same
  mapped_once x xs false same = ap (λ (ys : List Y). f x ∷ ys) same

  pub map-living : (xs : List X) → AllByRecursion P xs → map f (living a s xs) ≡ living a' s' (map f xs)
  map-living [] all = refl
  map-living (x ∷ xs) all =
      mapped_once x xs (is_dead a s x xs) (map-living xs all.1)
      ∙ ap (λ (b : Bool). if b then living a' s' (map f xs) else f x ∷ living a' s' (map f xs))
      (ap (λ (b : Bool). b || list_any s xs) (same_a x all.0) ∙ ap (λ (b : Bool). a' (f x) || b) (any-mapped xs all.1))

-- what a sweep leaves, told without lxids
writes-swept : (tables : List (Table × List (Rid × List Version))) (x : Xids) (table : Table) (vs : List Version) → AllByRecursion (IsFiled x table) vs → map (write_of x) (lists.swept x x.horizon vs) ≡ swept (store_of tables x) (map (write_of x) vs)
writes-swept tables x table vs all =
    map-living (write_of x) (IsFiled x table) (lists.has_aborted x) (lists.is_settled x x.horizon) has_aborted (is_settled x.horizon) (λ v filed. refl) (λ v filed. refl) vs all

-- ONE TABLE
module _ (tables tables' : List (Table × List (Rid × List Version))) (table : Table) (rows rows' : List (Rid × List Version)) (sorted : IsStrictlySortedBy table_cmp (keys_of tables)) (found : Some rows ≡ lookup (is_at (table_cmp table)) tables) (written : tables' ≡ set_value (is_at (table_cmp table)) tables rows') where
  inserted : tables' ≡ insert_entry table_cmp tables table rows'
  inserted = written ∙ set_value-insert_entry table_cmp-total table rows' rows tables sorted (sym found)

  pub kept_at-here : (r : Rid) → kept_at tables' table r ≡ versions_of rows' r
  kept_at-here r =
      ap (λ (ts : List (Table × List (Rid × List Version))). kept_at ts table r) inserted
      ∙ ap (λ (o : Option (List (Rid × List Version))). versions_of (unwrap_or o []) r) (lookup-insert_entry_same table_cmp-total table rows' tables)

  pub kept_at-was : (r : Rid) → kept_at tables table r ≡ versions_of rows r
  kept_at-was r = ap (λ (o : Option (List (Rid × List Version))). versions_of (unwrap_or o []) r) (sym found)

  pub kept_at-there : (t : Table) (r : Rid) → t ≢ table → kept_at tables' t r ≡ kept_at tables t r
  kept_at-there t r other =
      ap (λ (ts : List (Table × List (Rid × List Version))). kept_at ts t r) inserted
      ∙ ap (λ (o : Option (List (Rid × List Version))). versions_of (unwrap_or o []) r) (lookup-insert_entry_other table_cmp-total table rows' t tables (tables_apart t table other))

pub kept_at-missing : (tables : List (Table × List (Rid × List Version))) (table : Table) (r : Rid) → lookup (is_at (table_cmp table)) tables ≡ None → kept_at tables table r ≡ []
kept_at-missing tables table r missing = ap (λ (o : Option (List (Rid × List Version))). versions_of (unwrap_or o []) r) missing

-- THE STORE
module _ (tables tables' : List (Table × List (Rid × List Version))) (x : Xids) (table : Table) (rid : Rid) (here : kept_at tables' table rid ≡ lists.swept x x.horizon (kept_at tables table rid)) (rows : (r : Rid) → r ≢ rid → kept_at tables' table r ≡ kept_at tables table r) (others : (t : Table) (r : Rid) → t ≢ table → kept_at tables' t r ≡ kept_at tables t r) where
  -- what holds of each version of a row holds of those that are left
  still : (P : Table → Rid → Version → Type 0) → ((t : Table) (r : Rid) → AllByRecursion (P t r) (kept_at tables t r)) → (t : Table) (r : Rid) → AllByRecursion (P t r) (kept_at tables' t r)
  still P all t r =
      ⊎_elim
      (λ (e : t ≡ table). subst (λ (u : Table). AllByRecursion (P u r) (kept_at tables' u r)) (sym e) in_table)
      (λ (other : t ≢ table). subst (AllByRecursion (P t r)) (sym (others t r other)) (all t r))
      (table_cases t table)
    where
      in_table : AllByRecursion (P table r) (kept_at tables' table r)
      in_table =
          ⊎_elim
          (λ (e : r ≡ rid). subst (λ (q : Rid). AllByRecursion (P table q) (kept_at tables' table q)) (sym e) (subst (AllByRecursion (P table rid)) (sym here) (all-living (P table rid) (lists.has_aborted x) (lists.is_settled x x.horizon) (kept_at tables table rid) (all table rid))))
          (λ (other : r ≢ rid). subst (AllByRecursion (P table r)) (sym (rows r other)) (all table r))
          (rid_cases r rid)

  pub IsKeyed-swept : (dists : List Dist) (index : KeyIndex) → IsKeyed dists index tables x → IsKeyed dists index tables' x
  IsKeyed-swept dists index was = record {
    sound = record { there = was.sound.there; back = was.sound.back; given = was.sound.given; high = was.sound.high; filed = still (λ t r v. IsFiled x t v) was.sound.filed };
    indexed = still (λ t r v. IsUnder index (slice_get dists t.0) t r v.image) was.indexed;
  }

  told : (ts : List (Table × List (Rid × List Version))) (t : Table) (r : Rid) → writes_of (store_of ts x) t r ≡ map (write_of x) (kept_at ts t r)
  told ts t r = kept_at-map (write_of x) r ts t

  pub writes_of-swept : IsSound tables x → writes_of (store_of tables' x) table rid ≡ swept (store_of tables x) (writes_of (store_of tables x) table rid)
  writes_of-swept sound =
      told tables' table rid
      ∙ ap (map (write_of x)) here
      ∙ writes-swept tables x table (kept_at tables table rid) (sound.filed table rid)
      ∙ ap (swept (store_of tables x)) (sym (told tables table rid))

  pub writes_of-swept_row : (r : Rid) → r ≢ rid → writes_of (store_of tables' x) table r ≡ writes_of (store_of tables x) table r
  writes_of-swept_row r other = told tables' table r ∙ ap (map (write_of x)) (rows r other) ∙ sym (told tables table r)

  pub writes_of-swept_table : (t : Table) (r : Rid) → t ≢ table → writes_of (store_of tables' x) t r ≡ writes_of (store_of tables x) t r
  writes_of-swept_table t r other = told tables' t r ∙ ap (map (write_of x)) (others t r other) ∙ sym (told tables t r)
