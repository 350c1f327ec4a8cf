use Rattle.std.proofs.Common.{◌≡◌, ◌<◌, ◌+◌, ℕ, Some}
use Rattle.std.specs.Prelude.{slice_get}
use Rattle.gx_cells.specs.Views.{SegmentView}
use Rattle.gx_threads.proofs.threads.are_in_order.Given as goal

abbrev pub invariant-loop-place : goal.invariant-loop-place
invariant-loop-place g l = (k : ℕ) (s : SegmentView) → k < l.place → slice_get l.segments k ≡ Some s → s.node.0 ≡ k + 1
