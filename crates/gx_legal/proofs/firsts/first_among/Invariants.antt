use Rattle.std.proofs.Common.{◌≡◌, ◌<◌, ℕ, Some, slice_get}
use Rattle.gx_store.specs.declared.mark.Mark.{Mark}
use Rattle.gx_legal.specs.Firsts.{SendsWord}
use Rattle.gx_legal.proofs.firsts.first_among.Given as goal

abbrev pub invariant-loop-place : goal.invariant-loop-place
invariant-loop-place l = (place : ℕ) → place < l.place → (mark : Mark) → slice_get l.marks place ≡ Some mark → SendsWord l.report.gxid l.report.word l.report.to mark → ⊥
