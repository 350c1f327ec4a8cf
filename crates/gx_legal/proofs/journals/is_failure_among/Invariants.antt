use Rattle.std.proofs.Common.{ℕ, ◌<◌}
use Rattle.gx_store.specs.declared.mark.Mark.TheVariants.{JournalFailed}
use Rattle.gx_legal.specs.Causes.{StandsAt}
use Rattle.gx_legal.proofs.journals.is_failure_among.Given as goal

abbrev pub invariant-loop-mark : goal.invariant-loop-mark
invariant-loop-mark l = (place : ℕ) → place < l.mark-index → StandsAt (JournalFailed l.node l.gxid) l.marks place → ⊥
