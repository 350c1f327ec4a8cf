use Rattle.std.proofs.Common.{◌≡◌, length}
use Rattle.gx_lex.specs.Reader.{Gap, lex_on, lex}
use Rattle.gx_lex.proofs.cut.cut.Given as goal

abbrev pub invariant-loop-byte : goal.invariant-loop-byte
invariant-loop-byte l = lex_on l.rest l.tokens.items Gap ≡ lex l.line

abbrev pub decreases-loop-byte : goal.decreases-loop-byte
decreases-loop-byte l = length l.rest
