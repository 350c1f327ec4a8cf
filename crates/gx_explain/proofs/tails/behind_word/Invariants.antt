use Rattle.std.proofs.Common.{length}
use Rattle.gx_lex.specs.Lexing.{is_word_byte}
use Rattle.gx_explain.proofs.Bytes.{IsInRun}
use Rattle.gx_explain.proofs.tails.behind_word.Given as goal

abbrev pub invariant-loop-byte : goal.invariant-loop-byte
invariant-loop-byte l = IsInRun is_word_byte l.behind l.rest

abbrev pub decreases-loop-byte : goal.decreases-loop-byte
decreases-loop-byte l = length l.rest
