-- What segments store: rows of their tables.
use Rattle.std.specs.Prelude.{◌≡◌, ◌≤◌, ℕ, true, List, Some}
use Rattle.std.specs.declared.option.Option.{Option}
use Rattle.std.specs.List.{AllByRecursion}
use Rattle.std.specs.Prelude.{slice_get}
use Rattle.gx_ids.specs.declared.ids.Table.{Table}
use Rattle.gx_tree.specs.declared.schema.Schema.{Schema}
use Rattle.gx_tree.specs.declared.value.Value.{Value}
use Rattle.gx_script.specs.declared.Script.{Script}
use Rattle.gx_rules.specs.Fits.{is_right_row, kinds_in}
use Rattle.gx_rules.specs.Machine.{World}
use Rattle.gx_rules.specs.Segments.{Version}

-- a row that isn't gone has a value of each of its table's columns' kinds
abbrev pub IsImageOf : List Schema → Table → Option (List Value) → Type 0
IsImageOf tables table (Some row) = (schema : Schema) × (slice_get tables table.0 ≡ Some schema) × (is_right_row (kinds_in schema) row ≡ true)
IsImageOf tables table _ = Unit {0}

abbrev pub IsStoredRightly : Script → Version → Type 0
IsStoredRightly script v = IsImageOf script.tables v.table v.image

-- at every segment
abbrev pub AreRowsOfTables : Script → World → Type 0
AreRowsOfTables script w = (i : ℕ) → AllByRecursion (IsStoredRightly script) (w.segs i).versions
