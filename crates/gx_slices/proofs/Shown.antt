-- The rows that a table shows: what stands at a rid, and their order.
use Rattle.std.proofs.Common.{◌≡◌, List, [], ◌∷◌, ◌++◌, map, refl, sym, ap, ◌∙◌, subst, Bool, true, false, cond, eqb, arith, ◌&&◌, ◌||◌, filter}
use Rattle.std.proofs.lemmas.Bool.Decides.{nat_tests}
use Rattle.std.proofs.lemmas.List.Kept.{IsStrictlySortedBy-filter}
use Rattle.std.specs.Prelude.{Option, None, Some, is_some, unwrap_or, option_and_then}
use Rattle.std.specs.List.{flat_map, list_any, AllByRecursion}
use Rattle.std.specs.List.Sorted.{IsStrictlySortedBy}
use Rattle.std.specs.Map.{lookup}
use Rattle.std.specs.BTreeMap.{is_at}
use Rattle.std.specs.Ordering.{is_eq}
use Rattle.gx_ids.specs.declared.ids.Cid.{Cid}
use Rattle.gx_ids.specs.declared.ids.Gxid.{Gxid}
use Rattle.gx_ids.specs.declared.ids.Lxid.{Lxid}
use Rattle.gx_ids.specs.declared.ids.Table.{Table}
use Rattle.gx_ids.specs.declared.rid.Rid.{Rid}
use Rattle.gx_tree.specs.declared.row.KeyedRow.{KeyedRow}
use Rattle.gx_tree.specs.declared.value.Value.{Value}
use Rattle.gx_dsnap.specs.declared.snapshot.Snapshot.{Snapshot}
use Rattle.gx_rows.specs.Xids.{Xids}
use Rattle.gx_rows.specs.Counts.{shown_of}
use Rattle.gx_rows.specs.declared.version.Version.{Version}
use Rattle.gx_rows.specs.Rids.{rid_cmp}
use Rattle.gx_rows.specs.Rows.{is_of_table, rids_of, versions_of}
use Rattle.gx_meaning.specs.Answer.{AreRising}
use Rattle.gx_store.specs.Marks.{is_same_rid}
use Rattle.gx_store.specs.Rows.{row_at}
use Rattle.gx_slices.specs.Filed.{IsFiled, image_at, keyed, rows_at}

nothing_rises : IsStrictlySortedBy rid_cmp []
unfolding IsStrictlySortedBy
nothing_rises = tt

pub AreRising-nil : (rows : List KeyedRow) → rows ≡ [] → AreRising rows
AreRising-nil rows none = subst AreRising (sym none) nothing_rises

module _ (f : Rid → Option (List Value)) where
  rids_once : (r : Rid) (rs : List Rid) (o : Option (List Value)) → map (λ row. row.rid) (keyed r o ++ flat_map (λ q. keyed q (f q)) rs) ≡ cond (is_some o) (r ∷ map (λ row. row.rid) (flat_map (λ q. keyed q (f q)) rs)) (map (λ row. row.rid) (flat_map (λ q. keyed q (f q)) rs))
  rids_once r rs None = refl
  rids_once r rs (Some row) = refl

  -- the rids with a row, in order
  rids_kept : (rs : List Rid) → map (λ row. row.rid) (flat_map (λ q. keyed q (f q)) rs) ≡ filter (λ r. is_some (f r)) rs
  rids_kept [] = refl
  rids_kept (r ∷ rs) = rids_once r rs (f r) ∙ ap (λ (kept : List Rid). cond (is_some (f r)) (r ∷ kept) kept) (rids_kept rs)

  pub AreRising-keyed : (rids : List Rid) → IsStrictlySortedBy rid_cmp rids → AreRising (flat_map (λ q. keyed q (f q)) rids)
  AreRising-keyed rids sorted = subst (IsStrictlySortedBy rid_cmp) (sym (rids_kept rids)) (IsStrictlySortedBy-filter rid_cmp (λ r. is_some (f r)) rids sorted)

  same_rid : (r q : Rid) → is_same_rid r q ≡ true → r ≡ q
  same_rid r q e = grind (arith, nat_tests)

  -- at a rid of the list stands its row, and nowhere else
  row_once : (q r : Rid) (rs : List Rid) (o : Option (List Value)) (b : Bool) → is_same_rid r q ≡ b → f r ≡ o → row_at (flat_map (λ p. keyed p (f p)) rs) q ≡ cond (list_any (λ p. is_same_rid p q) rs) (f q) None → row_at (keyed r o ++ flat_map (λ p. keyed p (f p)) rs) q ≡ cond (b || list_any (λ p. is_same_rid p q) rs) (f q) None
  row_once q r rs (Some row) true same is more = ap (λ (c : Bool). cond c (Some row) (row_at (flat_map (λ p. keyed p (f p)) rs) q)) same ∙ sym is ∙ ap f (same_rid r q same)
  row_once q r rs (Some row) false other is more = ap (λ (c : Bool). cond c (Some row) (row_at (flat_map (λ p. keyed p (f p)) rs) q)) other ∙ more
  row_once q r rs None true same is more = more ∙ none_too (list_any (λ p. is_same_rid p q) rs) (f q) (ap f (sym (same_rid r q same)) ∙ is)
    where
      none_too : (b : Bool) (o : Option (List Value)) → o ≡ None → cond b o None ≡ o
      none_too true o e = refl
      none_too false o e = sym e
  row_once q r rs None false other is more = more

  pub row_at-keyed : (rids : List Rid) (q : Rid) → row_at (flat_map (λ p. keyed p (f p)) rids) q ≡ cond (list_any (λ p. is_same_rid p q) rids) (f q) None
  row_at-keyed [] q = refl
  row_at-keyed (r ∷ rs) q = row_once q r rs (f r) (is_same_rid r q) refl refl (row_at-keyed rs q)

-- A ROW THAT THE TABLE LACKS
pub same_order : (q r : Rid) → is_eq (rid_cmp q r) ≡ is_same_rid r q
same_order q r = grind (arith, nat_tests)

module _ (x : Xids) (table : Table) (q : Rid) where
  -- versions of the table, of which none is in the table
  empty : (vs : List Version) → list_any (λ v. eqb v.table.0 table.0) vs ≡ false → AllByRecursion (IsFiled x table) vs → vs ≡ []
  empty [] none all = refl
  empty (v ∷ vs) none all = absurd (first v vs all.0.0 none)
    where
      first : (v : Version) (vs : List Version) → v.table.0 ≡ table.0 → list_any (λ v. eqb v.table.0 table.0) (v ∷ vs) ≡ false → ⊥
      first v vs same none = grind (arith, nat_tests)

  listed_once : (e : Rid × List Version) (es : List (Rid × List Version)) (c : Bool) → list_any (λ p. is_same_rid p q) (map (λ e. e.0) (cond c (e ∷ filter (is_of_table table) es) (filter (is_of_table table) es))) ≡ ((c && is_eq (rid_cmp q e.0)) || list_any (λ p. is_same_rid p q) (rids_of es table))
  listed_once e es true = ap (λ (d : Bool). d || list_any (λ p. is_same_rid p q) (rids_of es table)) (sym (same_order q e.0))
  listed_once e es false = refl

  missing_once : (vs : List Version) (es : List (Rid × List Version)) (b c : Bool) → list_any (λ v. eqb v.table.0 table.0) vs ≡ c → AllByRecursion (IsFiled x table) (unwrap_or (cond b (Some vs) (lookup (is_at (rid_cmp q)) es)) []) → ((c && b) || list_any (λ p. is_same_rid p q) (rids_of es table)) ≡ false → (AllByRecursion (IsFiled x table) (versions_of es q) → list_any (λ p. is_same_rid p q) (rids_of es table) ≡ false → versions_of es q ≡ []) → unwrap_or (cond b (Some vs) (lookup (is_at (rid_cmp q)) es)) [] ≡ []
  missing_once vs es true true tests filed missing more = absurd (cc)
  missing_once vs es true false tests filed missing more = empty vs tests filed
  missing_once vs es false true tests filed missing more = more filed missing
  missing_once vs es false false tests filed missing more = more filed missing

  -- a row that isn't among the rids of the table has no version
  pub versions_of-missing : (es : List (Rid × List Version)) → AllByRecursion (IsFiled x table) (versions_of es q) → list_any (λ p. is_same_rid p q) (rids_of es table) ≡ false → versions_of es q ≡ []
  versions_of-missing [] filed missing = refl
  versions_of-missing (e ∷ es) filed missing =
      missing_once e.1 es (is_eq (rid_cmp q e.0)) (is_of_table table e) refl filed (sym (listed_once e es (is_of_table table e)) ∙ missing) (versions_of-missing es)

-- at each rid stands the row that its versions show
pub row_at-rows_at : (versions : List (Rid × List Version)) (x : Xids) (table : Table) (snap : Snapshot) (own : Option Lxid) (cid : Cid) (q : Rid) → AllByRecursion (IsFiled x table) (versions_of versions q) → row_at (rows_at versions x table snap own cid) q ≡ image_at versions x snap own cid q
row_at-rows_at versions x table snap own cid q filed =
    row_at-keyed (image_at versions x snap own cid) (rids_of versions table) q ∙ either (list_any (λ p. is_same_rid p q) (rids_of versions table)) refl
  where
    either : (b : Bool) → list_any (λ p. is_same_rid p q) (rids_of versions table) ≡ b → cond b (image_at versions x snap own cid q) None ≡ image_at versions x snap own cid q
    either true is = refl
    either false missing = sym (ap (λ (vs : List Version). option_and_then (λ v. v.image) (shown_of vs x snap own cid)) (versions_of-missing x table q versions filed missing))
