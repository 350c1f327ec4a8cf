use Rattle.std.proofs.Common.{ℕ, ◌<◌}
use Rattle.gx_legal.specs.Causes.{NamesAt}
use Rattle.gx_legal.proofs.named.names_among.Given as goal

abbrev pub invariant-loop-mark : goal.invariant-loop-mark
invariant-loop-mark l = (place : ℕ) → place < l.mark-index → NamesAt l.round l.gxid l.marks place → ⊥
