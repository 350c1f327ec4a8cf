use Rattle.std.proofs.Common.{◌≡◌, length}
use Rattle.std.specs.Prelude.{map}
use Rattle.gx_tables.specs.Tables.{AreTablesOf}
use Rattle.gx_cells.specs.Views.{data_of}
use Rattle.gx_cells.proofs.showing.tables_by.Given as goal

abbrev pub invariant-loop-number : goal.invariant-loop-number
invariant-loop-number g l = record {
  count : length l.tables.items ≡ l.number;
  are : AreTablesOf (map data_of l.segments) l.snapshot 0 l.tables.items;
}
