use Rattle.std.proofs.Common.{ℕ, ◌<◌}
use Rattle.gx_store.specs.declared.mark.Mark.TheVariants.{Fault}
use Rattle.gx_legal.specs.Causes.{StandsAt}
use Rattle.gx_legal.proofs.noted.is_note_among.Given as goal

abbrev pub invariant-loop-mark : goal.invariant-loop-mark
invariant-loop-mark l = (place : ℕ) → place < l.mark-index → StandsAt (Fault l.evaluation.gxid l.evaluation.cid l.evaluation.rid l.evaluation.image.now) l.marks place → ⊥
