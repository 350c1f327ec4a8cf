-- Rows that are found by a value of their distribution column.
use Rattle.std.proofs.Common.{◌≡◌, ◌≢◌, ◌++◌, inl, inr, ⊎_elim, ℕ, List, [], ◌∷◌, Bool, true, false, cond, ◌||◌, Option, Some, None, slice_get, refl, sym, ap, ◌∙◌, subst}
use Rattle.std.specs.Prelude.{option_and_then, IfSome, Result, Ok, Err, OnOk, OnErr}
use Rattle.std.specs.List.{AllByRecursion, flat_map, list_any}
use Rattle.std.specs.BTreeMap.{is_at}
use Rattle.std.specs.Option.{option_or}
use Rattle.gx_ids.specs.declared.ids.Cid.{Cid}
use Rattle.gx_ids.specs.declared.ids.Gxid.{Gxid}
use Rattle.gx_ids.specs.declared.ids.Lxid.{Lxid}
use Rattle.gx_ids.specs.declared.ids.Table.{Table}
use Rattle.gx_ids.specs.declared.memory.OutOfMemory.{OutOfMemory}
use Rattle.gx_ids.specs.declared.rid.Rid.{Rid}
use Rattle.gx_tree.specs.declared.cond.Cond.{Cond}
use Rattle.gx_tree.specs.declared.row.KeyedRow.{KeyedRow}
use Rattle.gx_tree.specs.declared.schema.Dist.{Dist}
use Rattle.gx_tree.specs.declared.value.Value.{Value}
use Rattle.gx_dsnap.specs.declared.snapshot.Snapshot.{Snapshot}
use Rattle.gx_rows.specs.Counts.{counts, shown_of}
use Rattle.gx_rows.specs.Rids.{rid_cmp}
use Rattle.gx_rows.specs.Rows.{last_passing}
use Rattle.gx_rows.specs.Xids.{Xids}
use Rattle.gx_rows.specs.declared.version.Version.{Version}
use Rattle.gx_store.specs.Marks.{is_same_rid}
use Rattle.gx_store.specs.Rows.{row_at}
use Rattle.gx_sweep.specs.Index.{has_under, key_at, rids_under}
use Rattle.gx_sweep.specs.declared.index.KeyIndex.{KeyIndex}
use Rattle.gx_sweep.specs.declared.table_key.TableKey.{TableKey}
use Rattle.gx_slices.specs.Filed.{IsWritten, filed, image_at, keyed, rows_at, versions_in}
use Rattle.gx_slices.specs.Keyed.{IsIndexed, IsKeyed, IsShownFor, IsUnder, IsWanted, key_column, key_in, value_in}
use Rattle.gx_slices.specs.Store.{kept_at}
use Rattle.gx_slices.proofs.KeptVersions.{kept_at-filed, kept_at-filed_row, kept_at-filed_table}
use Rattle.gx_slices.proofs.Lists.{all_map, last_passing-cons}
use Rattle.gx_slices.proofs.Lxids.{AllByRecursion-push}
use Rattle.gx_slices.proofs.Shown.{row_at-keyed, row_at-rows_at, same_order}
use Rattle.gx_slices.proofs.Writes.{rid_cases, table_cases}

-- THE LAST VERSION OF SOME
module _ (P : Option (List Value) → Type 0) (p : Version → Bool) (v : Version) where
  or_first : (o : Option Version) (b : Bool) → IfSome o (λ w. P w.image) → P v.image → IfSome (option_or o (cond b (Some v) None)) (λ w. P w.image)
  or_first (Some w) b later now = later
  or_first None true later now = now
  or_first None false later now = tt

last_is : (P : Option (List Value) → Type 0) (p : Version → Bool) (vs : List Version) → AllByRecursion (λ v. P v.image) vs → IfSome (last_passing p vs) (λ v. P v.image)
last_is P p [] all = tt
last_is P p (v ∷ vs) all = subst (λ (o : Option Version). IfSome o (λ w. P w.image)) (sym (last_passing-cons p v vs)) (or_first P p v (last_passing p vs) (p v) (last_is P p vs all.1) all.0)

-- its image, or none
image_is : (P : Option (List Value) → Type 0) → P None → (o : Option Version) → IfSome o (λ v. P v.image) → P (option_and_then (λ v. v.image) o)
image_is P none None all = none
image_is P none (Some v) all = all

-- ROWS THAT AREN'T UNDER THE KEY
any_same : (f g : Rid → Bool) → ((r : Rid) → f r ≡ g r) → (rs : List Rid) → list_any f rs ≡ list_any g rs
any_same f g same [] = refl
any_same f g same (r ∷ rs) = ap (λ (b : Bool). b || list_any f rs) (same r) ∙ ap (λ (b : Bool). g r || b) (any_same f g same rs)

differ : true ≡ false → ⊥
differ e = cc

module _ (index : KeyIndex) (table : Table) (column : ℕ) (value : Value) (q : Rid) where
  abbrev IsThere : Option (List Value) → Type 0
  IsThere image = IfSome (value_in image (Some column)) (λ key. has_under index (key_at table key) q ≡ true)

  -- such a row has another value
  lacks : (row : List Value) → IsThere (Some row) → has_under index (key_at table value) q ≡ false → slice_get row column ≢ Some value
  lacks row there missing same = differ (sym (subst (λ (o : Option Value). IfSome o (λ key. has_under index (key_at table key) q ≡ true)) same there) ∙ missing)

  -- so the condition that wants this one is false on it
  left_out : (c : Option Cond) → IsWanted c column value → (image row : Option (List Value)) → IsThere image → has_under index (key_at table value) q ≡ false → row ≡ None → IsShownFor c image row
  left_out None law image row there missing e = absurd law
  left_out (Some c) law None row there missing e = inl e
  left_out (Some c) law (Some r) row there missing e = inr (e, λ typed. law r typed (lacks r there missing))

module _ (dists : List Dist) (index : KeyIndex) (tables : List (Table × List (Rid × List Version))) (x : Xids) (is : IsKeyed dists index tables x) (table : Table) (column : ℕ) (key : key_column (slice_get dists table.0) ≡ Some column) (value : Value) (snap : Snapshot) (own : Option Lxid) (cid : Cid) where
  abbrev image : Rid → Option (List Value)
  image rid = image_at (versions_in tables table) x snap own cid rid

  versions_there : (q : Rid) → AllByRecursion (λ v. IsThere index table column value q v.image) (kept_at tables table q)
  versions_there q = subst (λ (k : Option ℕ). AllByRecursion (λ v. IfSome (value_in v.image k) (λ key. has_under index (key_at table key) q ≡ true)) (kept_at tables table q)) key (is.indexed table q)

  image_there : (q : Rid) → IsThere index table column value q (image q)
  image_there q =
      image_is (IsThere index table column value q) tt (shown_of (kept_at tables table q) x snap own cid)
      (last_is (IsThere index table column value q) (λ v. counts v x snap own cid) (kept_at tables table q) (versions_there q))

  -- those under the value that the condition wants are enough
  pub shown_under : (c : Option Cond) → IsWanted c column value → (q : Rid) → IsShownFor c (image q) (row_at (flat_map (λ rid. keyed rid (image rid)) (rids_under index (key_at table value))) q)
  shown_under c law q = either (list_any (λ p. is_same_rid p q) (rids_under index (key_at table value))) refl
    where
      row : row_at (flat_map (λ rid. keyed rid (image rid)) (rids_under index (key_at table value))) q ≡ cond (list_any (λ p. is_same_rid p q) (rids_under index (key_at table value))) (image q) None
      row = row_at-keyed image (rids_under index (key_at table value)) q

      either : (b : Bool) → list_any (λ p. is_same_rid p q) (rids_under index (key_at table value)) ≡ b → IsShownFor c (image q) (row_at (flat_map (λ rid. keyed rid (image rid)) (rids_under index (key_at table value))) q)
      either true is = inl (row ∙ ap (λ (b : Bool). cond b (image q) None) is)
      either false is =
          let missing : has_under index (key_at table value) q ≡ false = any_same (is_at (rid_cmp q)) (λ p. is_same_rid p q) (λ p. same_order q p) (rids_under index (key_at table value)) ∙ is in
          left_out index table column value q c law (image q) _ (image_there q) missing (row ∙ ap (λ (b : Bool). cond b (image q) None) is)

-- a table without versions shows no row
pub keyed-none : (versions : List (Rid × List Version)) (x : Xids) (snap : Snapshot) (own : Option Lxid) (cid : Cid) → versions ≡ [] → (rids : List Rid) → flat_map (λ rid. keyed rid (image_at versions x snap own cid rid)) rids ≡ []
keyed-none versions x snap own cid none [] = refl
keyed-none versions x snap own cid none (r ∷ rs) =
    ap (λ (vs : List (Rid × List Version)). keyed r (image_at vs x snap own cid r) ++ flat_map (λ rid. keyed rid (image_at versions x snap own cid rid)) rs) none
    ∙ keyed-none versions x snap own cid none rs

-- WHAT A CONDITION IS SHOWN
module _ (dists : List Dist) (index : KeyIndex) (tables : List (Table × List (Rid × List Version))) (x : Xids) (is : IsKeyed dists index tables x) (table : Table) (snap : Snapshot) (own : Option Lxid) (cid : Cid) (condition : Option Cond) (rows : List KeyedRow) where
  pub shown_all : rows ≡ rows_at (versions_in tables table) x table snap own cid → (rid : Rid) → IsShownFor condition (image_at (versions_in tables table) x snap own cid rid) (row_at rows rid)
  shown_all whole rid = inl (ap (λ (items : List KeyedRow). row_at items rid) whole ∙ row_at-rows_at (versions_in tables table) x table snap own cid rid (is.sound.filed table rid))

  pub shown_with : (column : ℕ) (key : key_column (slice_get dists table.0) ≡ Some column) (value : Value) → IsWanted condition column value → rows ≡ flat_map (λ rid. keyed rid (image_at (versions_in tables table) x snap own cid rid)) (rids_under index (key_at table value)) → (rid : Rid) → IsShownFor condition (image_at (versions_in tables table) x snap own cid rid) (row_at rows rid)
  shown_with column key value law whole rid =
      subst (λ (items : List KeyedRow). IsShownFor condition (image_at (versions_in tables table) x snap own cid rid) (row_at items rid)) (sym whole) (shown_under dists index tables x is table column key value snap own cid condition law rid)

-- A WRITE
module _ (dists : List Dist) (index index' : KeyIndex) (kept : (at : TableKey) (q : Rid) → has_under index at q ≡ true → has_under index' at q ≡ true) where
  some_kept : (table : Table) (rid : Rid) (o : Option Value) → IfSome o (λ key. has_under index (key_at table key) rid ≡ true) → IfSome o (λ key. has_under index' (key_at table key) rid ≡ true)
  some_kept table rid None under = tt
  some_kept table rid (Some key) under = kept (key_at table key) rid under

  -- an index that has grown finds all rows
  pub IsIndexed-kept : (tables : List (Table × List (Rid × List Version))) → IsIndexed dists index tables → IsIndexed dists index' tables
  IsIndexed-kept tables all table rid = all_map (λ v under. some_kept table rid (key_in (slice_get dists table.0) v.image) under) (kept_at tables table rid) (all table rid)

module _ (dists : List Dist) (index : KeyIndex) (tables : List (Table × List (Rid × List Version))) (table : Table) (rid : Rid) (v : Version) (all : IsIndexed dists index tables) (new : IsUnder index (slice_get dists table.0) table rid v.image) where
  abbrev Under : Table → Rid → Version → Type 0
  Under t r w = IsUnder index (slice_get dists t.0) t r w.image

  in_table : (r : Rid) → AllByRecursion (Under table r) (kept_at (filed tables table rid v) table r)
  in_table r =
      ⊎_elim
      (λ (e : r ≡ rid).
      subst
      (λ (q : Rid). AllByRecursion (Under table q) (kept_at (filed tables table rid v) table q))
      (sym e)
      (subst (AllByRecursion (Under table rid)) (sym (kept_at-filed tables table rid v)) (AllByRecursion-push (Under table rid) (kept_at tables table rid) v (all table rid) new)))
      (λ (other : r ≢ rid). subst (AllByRecursion (Under table r)) (sym (kept_at-filed_row tables table rid v r other)) (all table r))
      (rid_cases r rid)

  -- with a version more, whose row stands under its key
  IsIndexed-filed : IsIndexed dists index (filed tables table rid v)
  IsIndexed-filed t r =
      ⊎_elim
      (λ (e : t ≡ table). subst (λ (u : Table). AllByRecursion (Under u r) (kept_at (filed tables table rid v) u r)) (sym e) (in_table r))
      (λ (other : t ≢ table). subst (AllByRecursion (Under t r)) (sym (kept_at-filed_table tables table rid v t r other)) (all t r))
      (table_cases t table)

module _ (dists : List Dist) (index index' : KeyIndex) (tables tables' : List (Table × List (Rid × List Version))) (x x' : Xids) (g : Gxid) (c : Cid) (table : Table) (rid : Rid) (image : Option (List Value)) where
  -- the index finds all rows after a try to write, whatever came of it
  pub IsIndexed-tried : (o : Result (Unit {0}) OutOfMemory) → IsIndexed dists index tables → ((at : TableKey) (q : Rid) → has_under index at q ≡ true → has_under index' at q ≡ true) → OnOk o (IsWritten tables tables' x x' g c table rid image) → OnErr o (tables' ≡ tables) → OnOk o (IsUnder index' (slice_get dists table.0) table rid image) → IsIndexed dists index' tables'
  IsIndexed-tried (Ok u) all kept w same under =
      let v : Version = record { image = image; table = table; lxid = w.lxid; cid = c } in
      subst (IsIndexed dists index') (sym w.version) (IsIndexed-filed dists index' tables table rid v (IsIndexed-kept dists index index' kept tables all) under)
  IsIndexed-tried (Err e) all kept w same under = subst (IsIndexed dists index') (sym same) (IsIndexed-kept dists index index' kept tables all)
