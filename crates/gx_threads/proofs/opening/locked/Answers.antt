use Rattle.gx_threads.specs.Sets.{IsItsSegment}
use Rattle.gx_threads.proofs.Closing.{all-head, all-rest}
use Rattle.gx_threads.proofs.opening.locked.Goals as goal

pub new-requires : goal.new-requires
new-requires g c = all-head (IsItsSegment g.N.SetName.segments) _ _ _ c.in-Some.ensures.steps.0 c.loop-segment.invariant.2

pub loop-segment-preserved : goal.loop-segment-preserved
loop-segment-preserved g c = (tt, tt, all-rest (IsItsSegment g.N.SetName.segments) _ _ _ c.in-Some.ensures.steps.0 c.loop-segment.invariant.2)
