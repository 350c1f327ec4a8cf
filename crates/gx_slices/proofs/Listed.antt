-- The rows that the lists of a table's versions show, in order, are those that their rids show.
use Rattle.std.proofs.Common.{◌≡◌, ◌∙◌, List, [], ◌∷◌, ◌++◌, Bool, true, false, cond, map, filter, refl, sym, ap}
use Rattle.std.specs.Prelude.{Option, Some, unwrap_or}
use Rattle.std.specs.declared.cmp.Ordering.TheVariants.{Less}
use Rattle.std.specs.List.{flat_map, AllByRecursion}
use Rattle.std.specs.List.Sorted.{IsStrictlySortedBy}
use Rattle.std.specs.Map.{lookup}
use Rattle.std.specs.BTreeMap.{is_at}
use Rattle.gx_ids.specs.declared.ids.Cid.{Cid}
use Rattle.gx_ids.specs.declared.ids.Lxid.{Lxid}
use Rattle.gx_ids.specs.declared.ids.Table.{Table}
use Rattle.gx_ids.specs.declared.rid.Rid.{Rid}
use Rattle.gx_tree.specs.declared.row.KeyedRow.{KeyedRow}
use Rattle.gx_tree.specs.declared.value.Value.{Value}
use Rattle.gx_dsnap.specs.declared.snapshot.Snapshot.{Snapshot}
use Rattle.gx_rows.specs.Xids.{Xids}
use Rattle.gx_rows.specs.declared.version.Version.{Version}
use Rattle.gx_rows.specs.Rids.{rid_cmp}
use Rattle.gx_rows.specs.Rows.{is_of_table, versions_of}
use Rattle.gx_store.proofs.Rows.{is_same_rid-refl}
use Rattle.gx_rules.proofs.RowOrder.{less_apart_back}
use Rattle.gx_slices.specs.Filed.{image_of, keyed, listed_rows, rows_at}
use Rattle.gx_slices.proofs.Shown.{same_order}

-- in a rising list an entry is what is found at its rid
found_behind : (x : Rid × List Version) (all ys : List (Rid × List Version)) → AllByRecursion (λ r. rid_cmp x.0 r ≡ Less) (map (λ e. e.0) ys) → AllByRecursion (λ e. versions_of all e.0 ≡ e.1) ys → AllByRecursion (λ e. versions_of (x ∷ all) e.0 ≡ e.1) ys
found_behind x all [] above at = tt
found_behind x all (y ∷ ys) above at =
    (ap (λ (b : Bool). unwrap_or (cond b (Some x.1) (lookup (is_at (rid_cmp y.0)) all)) []) (same_order y.0 x.0 ∙ less_apart_back x.0 y.0 above.0) ∙ at.0, found_behind x all ys above.1 at.1)

each_found : (es : List (Rid × List Version)) → IsStrictlySortedBy rid_cmp (map (λ e. e.0) es) → AllByRecursion (λ e. versions_of es e.0 ≡ e.1) es
unfolding IsStrictlySortedBy
each_found [] rising = tt
each_found (x ∷ xs) rising =
    (ap (λ (b : Bool). unwrap_or (cond b (Some x.1) (lookup (is_at (rid_cmp x.0)) xs)) []) (same_order x.0 x.0 ∙ is_same_rid-refl x.0), found_behind x xs xs rising.0 (each_found xs rising.1))

module _ (all : List (Rid × List Version)) (f : List Version → Option (List Value)) (p : Rid × List Version → Bool) where
  abbrev by_entry : List (Rid × List Version) → List KeyedRow
  by_entry es = flat_map (λ e. cond (p e) (keyed e.0 (f e.1)) []) es

  abbrev by_rid : List Rid → List KeyedRow
  by_rid rids = flat_map (λ rid. keyed rid (f (versions_of all rid))) rids

  once : (e : Rid × List Version) (es : List (Rid × List Version)) (b : Bool) → versions_of all e.0 ≡ e.1 → by_entry es ≡ by_rid (map (λ e. e.0) (filter p es)) → cond b (keyed e.0 (f e.1)) [] ++ by_entry es ≡ by_rid (map (λ e. e.0) (cond b (e ∷ filter p es) (filter p es)))
  once e es true at more =
      ap (λ (rows : List KeyedRow). keyed e.0 (f e.1) ++ rows) more ∙ ap (λ (vs : List Version). keyed e.0 (f vs) ++ by_rid (map (λ e. e.0) (filter p es))) (sym at)
  once e es false at more = more

  each : (es : List (Rid × List Version)) → AllByRecursion (λ e. versions_of all e.0 ≡ e.1) es → by_entry es ≡ by_rid (map (λ e. e.0) (filter p es))
  each [] at = refl
  each (e ∷ es) at = once e es (p e) at.0 (each es at.1)

pub listed_rows-rows_at : (versions : List (Rid × List Version)) (x : Xids) (table : Table) (snap : Snapshot) (own : Option Lxid) (cid : Cid) → IsStrictlySortedBy rid_cmp (map (λ e. e.0) versions) → listed_rows versions x table snap own cid ≡ rows_at versions x table snap own cid
listed_rows-rows_at versions x table snap own cid rising = each versions (λ vs. image_of vs x snap own cid) (is_of_table table) versions (each_found versions rising)
