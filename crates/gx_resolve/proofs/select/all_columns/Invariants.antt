use Rattle.std.proofs.Common.{◌≡◌, ◌++◌, drop}
use Rattle.gx_resolve.specs.Selecting.{columns_from}
use Rattle.gx_resolve.proofs.select.all_columns.Given as goal

abbrev pub invariant-loop-place : goal.invariant-loop-place
invariant-loop-place l = l.items ++ columns_from l.place (drop l.place l.columns) ≡ columns_from 0 l.columns
