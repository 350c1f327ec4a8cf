use Rattle.std.proofs.Common.{◌≡◌, drop}
use Rattle.gx_resolve.specs.Columns.{column_from}
use Rattle.gx_resolve.proofs.columns.find_column.Given as goal

abbrev pub invariant-loop-column : goal.invariant-loop-column
invariant-loop-column l = record {
  counted : l.place ≡ l.column-index;
  rest : column_from l.place l.name (drop l.column-index l.columns) ≡ column_from 0 l.name l.columns;
}
