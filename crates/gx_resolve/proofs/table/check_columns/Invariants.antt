use Rattle.std.proofs.Common.{◌≡◌, []}
use Rattle.gx_resolve.specs.Resolving.{columns_new}
use Rattle.gx_resolve.proofs.Names.{left_new}
use Rattle.gx_resolve.proofs.table.check_columns.Given as goal

abbrev pub invariant-loop-place : goal.invariant-loop-place
invariant-loop-place l = left_new l.columns l.place ≡ columns_new [] l.columns
