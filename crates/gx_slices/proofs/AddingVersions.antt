-- A version added to a table that is there.
use Rattle.std.proofs.Common.{◌≡◌, List, sym, ap, ◌∙◌}
use Rattle.std.proofs.lemmas.Map.Steps.{set_value_same}
use Rattle.std.specs.Prelude.{Option, Some, Result, Ok, Err, OnOk, OnErr, unwrap_or, []}
use Rattle.std.specs.List.Sorted.{IsStrictlySortedBy}
use Rattle.std.specs.Map.{keys_of, lookup, set_value}
use Rattle.std.specs.BTreeMap.{is_at, insert_entry}
use Rattle.gx_ids.specs.declared.ids.Table.{Table}
use Rattle.gx_ids.specs.declared.rid.Rid.{Rid}
use Rattle.gx_ids.specs.declared.memory.OutOfMemory.{OutOfMemory}
use Rattle.gx_rows.specs.declared.version.Version.{Version}
use Rattle.gx_rows.specs.Rows.{added}
use Rattle.gx_rows.proofs.Entries.{set_value-insert_entry}
use Rattle.gx_slices.specs.Store.{table_cmp}
use Rattle.gx_slices.specs.Filed.{filed}
use Rattle.gx_slices.proofs.KeptVersions.{table_cmp-total}

module _ (tables tables' : List (Table × List (Rid × List Version))) (table : Table) where
  -- where the version was added to the table's, the tables have the version more
  pub filed_from_add : (rid : Rid) (v : Version) (rows rows' : List (Rid × List Version)) (o : Result (Unit {0}) OutOfMemory) → IsStrictlySortedBy table_cmp (keys_of tables) → Some rows ≡ lookup (is_at (table_cmp table)) tables → OnOk o (rows' ≡ added rows rid v) → tables' ≡ set_value (is_at (table_cmp table)) tables rows' → OnOk o (tables' ≡ filed tables table rid v)
  filed_from_add rid v rows rows' (Ok u) sorted found made written =
      written
      ∙ set_value-insert_entry table_cmp-total table rows' rows tables sorted (sym found)
      ∙ ap (insert_entry table_cmp tables table) (made ∙ ap (λ (o : Option (List (Rid × List Version))). added (unwrap_or o []) rid v) found)
  filed_from_add rid v rows rows' (Err e) sorted found made written = tt

  -- where it wasn't, they are the same
  pub same_from_add : (rows rows' : List (Rid × List Version)) (o : Result (Unit {0}) OutOfMemory) → Some rows ≡ lookup (is_at (table_cmp table)) tables → OnErr o (rows' ≡ rows) → tables' ≡ set_value (is_at (table_cmp table)) tables rows' → OnErr o (tables' ≡ tables)
  same_from_add rows rows' (Ok u) found same written = tt
  same_from_add rows rows' (Err e) found same written = written ∙ ap (set_value (is_at (table_cmp table)) tables) same ∙ set_value_same (is_at (table_cmp table)) tables rows (sym found)
