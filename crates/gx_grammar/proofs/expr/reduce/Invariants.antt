use Rattle.std.proofs.Common.{◌≡◌, length}
use Rattle.gx_grammar.specs.Machine.{reduce}
use Rattle.gx_grammar.specs.Code.{stack}
use Rattle.gx_grammar.proofs.expr.reduce.Given as goal

abbrev pub invariant-loop-frame : goal.invariant-loop-frame
invariant-loop-frame l = reduce l.to l.operand (stack l.frames) ≡ reduce l.to l.fn.operand (stack l.initial.frames)

abbrev pub decreases-loop-frame : goal.decreases-loop-frame
decreases-loop-frame l = length l.frames.items
