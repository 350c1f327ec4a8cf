use Rattle.std.proofs.Common.{ℕ, ◌<◌}
use Rattle.gx_legal.specs.Words.{ReceivesAt}
use Rattle.gx_legal.proofs.heard.is_received.Given as goal

abbrev pub invariant-loop-step : goal.invariant-loop-step
invariant-loop-step l = (place : ℕ) → place < l.step-index → ReceivesAt l.report.from l.report.to l.number l.steps place → ⊥
