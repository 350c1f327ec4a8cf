use Rattle.std.proofs.Common.{◌≡◌, Ok, take}
use Rattle.gx_meaning.specs.Constants.{values_of}
use Rattle.gx_plan.proofs.tuple.tuple_values.Given as goal

abbrev pub invariant-loop-expr : goal.invariant-loop-expr
invariant-loop-expr l = values_of (take l.expr-index l.tuple) ≡ Ok l.values
