use Rattle.std.proofs.Common.{ℕ, ◌<◌}
use Rattle.gx_legal.specs.Words.{IsHeardAt}
use Rattle.gx_legal.proofs.heard.is_heard_among.Given as goal

abbrev pub invariant-loop-mark : goal.invariant-loop-mark
invariant-loop-mark l = (place : ℕ) → place < l.mark-index → IsHeardAt l.report.gxid l.report.word l.report.from l.report.to l.later l.marks place → ⊥
