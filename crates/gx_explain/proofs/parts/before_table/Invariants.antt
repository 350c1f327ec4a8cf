use Rattle.std.proofs.Common.{◌≡◌, ◌+◌, drop, not}
use Rattle.std.specs.List.{prefix_len}
use Rattle.gx_explain.specs.Parts.{is_table_word}
use Rattle.gx_explain.proofs.parts.before_table.Given as goal

abbrev pub invariant-loop-count : goal.invariant-loop-count
invariant-loop-count l = l.count + prefix_len (λ y. not (is_table_word y)) (drop l.count l.tokens) ≡ prefix_len (λ y. not (is_table_word y)) l.tokens
