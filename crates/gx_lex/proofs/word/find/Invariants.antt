use Rattle.std.proofs.Common.{◌≡◌, drop}
use Rattle.gx_lex.specs.Lexing.{smalls}
use Rattle.gx_lex.specs.Words.{find}
use Rattle.gx_lex.proofs.word.find.Given as goal

abbrev pub invariant-loop-keyword : goal.invariant-loop-keyword
invariant-loop-keyword l = find (smalls l.word) (drop l.keyword-index l.words) ≡ find (smalls l.word) l.words
