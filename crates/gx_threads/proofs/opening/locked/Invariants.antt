use Rattle.std.proofs.Common.{All}
use Rattle.std.specs.Vec.Iter.{into_iter_items}
use Rattle.gx_threads.specs.Sets.{IsItsSegment}
use Rattle.gx_threads.proofs.opening.locked.Given as goal

abbrev pub invariant-loop-segment : goal.invariant-loop-segment
invariant-loop-segment g l =
    (goal.iterator-loop-segment g).can_next l.segment-iterator
    × (goal.iterator-loop-segment g).is_finite l.segment-iterator
    × All (IsItsSegment g.N.SetName.segments) (into_iter_items l.segment-iterator)
