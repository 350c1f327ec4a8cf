use Rattle.std.proofs.Common.{List, length}
use Rattle.std.specs.Prelude.{Contains}
use Rattle.gx_ids.specs.declared.ids.Gxid.{Gxid}
use Rattle.gx_waits.specs.declared.placed_edge.PlacedEdge.{PlacedEdge}
use Rattle.gx_waits.specs.Closed.{IsNamed}
use Rattle.gx_detect.specs.declared.place.Aim.TheVariants.{Core}
use Rattle.gx_detect.specs.Settled.{IsLargest, IsSettled, left_in}
use Rattle.gx_detect.proofs.Turns.{AreRising, IsUnderWay}
use Rattle.gx_detect.proofs.choice.in_turn.Given as goal

abbrev pub invariant-loop-name : goal.invariant-loop-name
invariant-loop-name l = record {
  settled : IsSettled Core l.core;
  rising : AreRising l.names.items;
  named : (w : Gxid) → IsNamed (left_in l.core) w → Contains l.names.items w;
  way : (edges : List PlacedEdge) → IsLargest Core edges (left_in l.initial.core) → IsUnderWay edges (left_in l.core) l.victims.items;
}

abbrev pub decreases-loop-name : goal.decreases-loop-name
decreases-loop-name l = length l.names.items
