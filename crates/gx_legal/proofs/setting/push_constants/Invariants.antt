use Rattle.std.proofs.Common.{◌≡◌, drop}
use Rattle.gx_legal.specs.Numbers.{onto}
use Rattle.gx_meaning.specs.Constants.{constant, each_from, values_of}
use Rattle.gx_legal.proofs.setting.push_constants.Given as goal

abbrev pub invariant-loop-expr : goal.invariant-loop-expr
invariant-loop-expr l = onto l.values.items (each_from constant l.expr-index (drop l.expr-index l.tuple)) ≡ values_of l.tuple
