use Rattle.std.specs.Prelude.{map}
use Rattle.gx_merge.specs.Merging.{AreMerged, left_in}
use Rattle.gx_merge.proofs.merging.merged.Given as goal

abbrev pub invariant-loop-front : goal.invariant-loop-front
invariant-loop-front l = AreMerged (map (λ h. h.steps) l.histories) l.fronts.items l.steps

abbrev pub decreases-loop-front : goal.decreases-loop-front
decreases-loop-front l = left_in (map (λ h. h.steps) l.histories) l.fronts.items
