use Rattle.std.proofs.Common.{◌≡◌, ◌+◌, drop, not}
use Rattle.std.specs.List.{prefix_len}
use Rattle.gx_grammar.specs.Tokens.{is_word}
use Rattle.gx_explain.proofs.parts.before_word.Given as goal

abbrev pub invariant-loop-count : goal.invariant-loop-count
invariant-loop-count l = l.count + prefix_len (λ y. not (is_word l.word y)) (drop l.count l.tokens) ≡ prefix_len (λ y. not (is_word l.word y)) l.tokens
