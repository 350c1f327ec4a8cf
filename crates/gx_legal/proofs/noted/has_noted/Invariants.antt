use Rattle.std.proofs.Common.{ℕ, ◌<◌}
use Rattle.gx_legal.specs.Causes.{NotesInStep}
use Rattle.gx_legal.proofs.noted.has_noted.Given as goal

abbrev pub invariant-loop-step : goal.invariant-loop-step
invariant-loop-step l = (place : ℕ) → place < l.step-index → NotesInStep l.evaluation.gxid l.evaluation.cid l.evaluation.rid l.evaluation.image.now l.node l.steps place → ⊥
