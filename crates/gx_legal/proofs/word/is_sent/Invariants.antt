use Rattle.std.proofs.Common.{ℕ, ◌≤◌}
use Rattle.gx_legal.specs.Words.{SendsInStep}
use Rattle.gx_legal.proofs.word.is_sent.Given as goal

abbrev pub invariant-loop-place : goal.invariant-loop-place
invariant-loop-place l = (place : ℕ) → l.place ≤ place → SendsInStep l.report.gxid l.report.word l.report.from l.report.to l.number l.steps place → ⊥
