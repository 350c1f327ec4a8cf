use Rattle.std.proofs.Common.{◌≡◌, drop}
use Rattle.gx_coord.specs.Faults.{has_values}
use Rattle.gx_coord.proofs.faults.has_values.Given as goal

abbrev pub invariant-loop-expr : goal.invariant-loop-expr
invariant-loop-expr l = has_values (drop l.expr-index l.tuple) ≡ has_values l.tuple
