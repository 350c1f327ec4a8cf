use Rattle.std.proofs.Common.{ℕ, ◌≤◌}
use Rattle.gx_legal.specs.Words.{IsHeardSince}
use Rattle.gx_legal.proofs.heard.has_heard_before.Given as goal

abbrev pub invariant-loop-number : goal.invariant-loop-number
invariant-loop-number l = (place : ℕ) → l.number ≤ place → IsHeardSince l.report.gxid l.report.word l.report.from l.report.to l.steps place → ⊥
