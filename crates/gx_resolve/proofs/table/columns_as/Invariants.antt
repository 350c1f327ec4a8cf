use Rattle.std.proofs.Common.{◌≡◌, map, take}
use Rattle.gx_resolve.specs.Resolving.{column_as}
use Rattle.gx_resolve.proofs.table.columns_as.Given as goal

abbrev pub invariant-loop-column : goal.invariant-loop-column
invariant-loop-column l = l.all ≡ map column_as (take l.column-index l.columns)
