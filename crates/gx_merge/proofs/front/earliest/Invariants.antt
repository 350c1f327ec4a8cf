use Rattle.std.specs.Prelude.{map}
use Rattle.gx_merge.specs.Merging.{IsEarliest}
use Rattle.gx_merge.proofs.front.earliest.Given as goal

abbrev pub invariant-loop-place : goal.invariant-loop-place
invariant-loop-place l = IsEarliest (map (λ h. h.steps) l.histories) l.fronts l.place l.earliest
