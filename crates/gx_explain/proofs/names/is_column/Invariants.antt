use Rattle.std.proofs.Common.{◌≡◌, drop}
use Rattle.gx_resolve.specs.Naming.{is_column}
use Rattle.gx_explain.proofs.names.is_column.Given as goal

abbrev pub invariant-loop-column : goal.invariant-loop-column
invariant-loop-column l = is_column (drop l.column-index l.columns) l.name ≡ is_column l.columns l.name
