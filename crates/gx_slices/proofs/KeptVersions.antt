-- What stands at a row of a table, when a version is added, and when its versions are told by gxids.
use Rattle.std.proofs.Common.{◌≡◌, ◌≢◌, List, [], ◌∷◌, ◌++◌, refl, ap, ◌∙◌, false, arith, map}
use Rattle.std.proofs.lemmas.Bool.Decides.{nat_tests}
use Rattle.std.proofs.lemmas.Cmp.{nat_cmp_total, on_total}
use Rattle.std.proofs.lemmas.Map.Made.{lookup-map_values}
use Rattle.std.specs.Cmp.{IsTotalOrder}
use Rattle.std.specs.Prelude.{Option, None, Some, option_map, unwrap_or}
use Rattle.std.specs.Map.{lookup}
use Rattle.std.specs.BTreeMap.{is_at}
use Rattle.std.specs.Ordering.{is_eq}
use Rattle.gx_ids.specs.declared.ids.Table.{Table}
use Rattle.gx_ids.specs.declared.rid.Rid.{Rid}
use Rattle.gx_rows.specs.declared.version.Version.{Version}
use Rattle.gx_rows.specs.Rids.{rid_cmp}
use Rattle.gx_rows.specs.Rows.{versions_of, added}
use Rattle.gx_rows.proofs.Entries.{rid_cmp-total, lookup-insert_entry_same, lookup-insert_entry_other}
use Rattle.gx_slices.specs.Store.{Write, table_cmp, kept_at}
use Rattle.gx_slices.specs.Filed.{versions_in, filed}

pub table_cmp-total : IsTotalOrder table_cmp
table_cmp-total = on_total (λ (t : Table). t.0) nat_cmp_total

pub tables_apart : (t u : Table) → t ≢ u → is_eq (table_cmp t u) ≡ false
tables_apart t u other = grind (arith, nat_tests)

rids_apart : (q r : Rid) → q ≢ r → is_eq (rid_cmp q r) ≡ false
rids_apart q r other = grind (arith, nat_tests)

module _ (tables : List (Table × List (Rid × List Version))) (table : Table) (rid : Rid) (v : Version) where
  in_table : (r : Rid) → kept_at (filed tables table rid v) table r ≡ versions_of (added (versions_in tables table) rid v) r
  in_table r =
      ap (λ (rows : Option (List (Rid × List Version))). versions_of (unwrap_or rows []) r) (lookup-insert_entry_same table_cmp-total table (added (versions_in tables table) rid v) tables)

  pub kept_at-filed : kept_at (filed tables table rid v) table rid ≡ kept_at tables table rid ++ v ∷ []
  kept_at-filed =
      in_table rid
      ∙ ap (λ (found : Option (List Version)). unwrap_or found []) (lookup-insert_entry_same rid_cmp-total rid (versions_of (versions_in tables table) rid ++ v ∷ []) (versions_in tables table))

  pub kept_at-filed_row : (r : Rid) → r ≢ rid → kept_at (filed tables table rid v) table r ≡ kept_at tables table r
  kept_at-filed_row r other =
      in_table r
      ∙ ap (λ (found : Option (List Version)). unwrap_or found []) (lookup-insert_entry_other rid_cmp-total rid (versions_of (versions_in tables table) rid ++ v ∷ []) r (versions_in tables table) (rids_apart r rid other))

  pub kept_at-filed_table : (t : Table) (r : Rid) → t ≢ table → kept_at (filed tables table rid v) t r ≡ kept_at tables t r
  kept_at-filed_table t r other =
      ap (λ (rows : Option (List (Rid × List Version))). versions_of (unwrap_or rows []) r) (lookup-insert_entry_other table_cmp-total table (added (versions_in tables table) rid v) t tables (tables_apart t table other))

module _ (f : Version → Write) (rid : Rid) where
  last : (o : Option (List Version)) → unwrap_or (option_map (map f) o) [] ≡ map f (unwrap_or o [])
  last None = refl
  last (Some vs) = refl

  inner : (o : Option (List (Rid × List Version))) → unwrap_or (lookup (is_at (rid_cmp rid)) (unwrap_or (option_map (λ rows. map (λ r. (r.0, map f r.1)) rows) o) [])) [] ≡ map f (unwrap_or (lookup (is_at (rid_cmp rid)) (unwrap_or o [])) [])
  inner None = refl
  inner (Some rows) =
      ap (λ (found : Option (List Write)). unwrap_or found []) (lookup-map_values (map f) (is_at (rid_cmp rid)) rows)
      ∙ last (lookup (is_at (rid_cmp rid)) rows)

  -- the writes to a row are those that its versions tell of
  pub kept_at-map : (tables : List (Table × List (Rid × List Version))) (table : Table) → kept_at (map (λ t. (t.0, map (λ r. (r.0, map f r.1)) t.1)) tables) table rid ≡ map f (kept_at tables table rid)
  kept_at-map tables table =
      ap (λ (rows : Option (List (Rid × List Write))). unwrap_or (lookup (is_at (rid_cmp rid)) (unwrap_or rows [])) []) (lookup-map_values (λ (rows : List (Rid × List Version)). map (λ r. (r.0, map f r.1)) rows) (is_at (table_cmp table)) tables)
      ∙ inner (lookup (is_at (table_cmp table)) tables)
