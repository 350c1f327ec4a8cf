use Rattle.std.proofs.Common.{◌≡◌, nat_eq, drop}
use Rattle.std.specs.Cmp.Lexicographic.{pointwise}
use Rattle.gx_lex.specs.Lexing.{smalls}
use Rattle.gx_lex.proofs.word.is_spelled.Given as goal

abbrev pub invariant-loop-byte : goal.invariant-loop-byte
invariant-loop-byte l = pointwise nat_eq l.spelling (smalls (drop l.byte-index l.word)) ≡ pointwise nat_eq l.fn.spelling (smalls l.word)
