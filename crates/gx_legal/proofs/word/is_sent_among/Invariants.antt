use Rattle.std.proofs.Common.{ℕ, ◌<◌}
use Rattle.gx_legal.specs.Words.{SendsAt}
use Rattle.gx_legal.proofs.word.is_sent_among.Given as goal

abbrev pub invariant-loop-mark : goal.invariant-loop-mark
invariant-loop-mark l = (place : ℕ) → place < l.mark-index → SendsAt l.report.gxid l.report.word l.report.to l.number l.marks place → ⊥
