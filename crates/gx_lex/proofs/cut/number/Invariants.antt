use Rattle.std.proofs.Common.{◌≡◌, ◌≤◌, ◌-◌, List, Some, length}
use Rattle.gx_lex.specs.declared.token.Token.{Token}
use Rattle.gx_lex.specs.Reader.{InNumber, lex_on}
use Rattle.gx_lex.proofs.cut.number.Given as goal

abbrev pub invariant-loop-byte : goal.invariant-loop-byte
invariant-loop-byte l = record {
  said : (out : List Token) → lex_on l.behind out (InNumber (Some (l.first - 48))) ≡ lex_on l.rest out (InNumber l.number);
  within : length l.rest ≤ length l.behind;
}

abbrev pub decreases-loop-byte : goal.decreases-loop-byte
decreases-loop-byte l = length l.rest
