use Rattle.std.proofs.Common.{◌≡◌, length, []}
use Rattle.gx_grammar.specs.Machine.{run, Want}
use Rattle.gx_grammar.specs.Code.{stack, mode_of}
use Rattle.gx_grammar.proofs.expr.expr_by_steps.Given as goal

abbrev pub invariant-loop-token : goal.invariant-loop-token
invariant-loop-token l = run l.limits l.rest.tokens.now (mode_of l.wait (stack l.frames)) ≡ run l.limits l.tokens (Want 0 [])

abbrev pub decreases-loop-token : goal.decreases-loop-token
decreases-loop-token l = length l.rest.tokens.now
