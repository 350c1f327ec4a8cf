use Rattle.std.proofs.Common.{◌≡◌, take}
use Rattle.std.specs.Prelude.{Contains}
use Rattle.gx_waits.specs.declared.placed_edge.PlacedEdge.{PlacedEdge}
use Rattle.gx_detect.specs.declared.place.Place.{Place}
use Rattle.gx_detect.specs.Place.{Needs}
use Rattle.gx_detect.specs.Reducing.{IsCounted, rest_of}
use Rattle.gx_detect.specs.Tally.{count_at}
use Rattle.gx_detect.proofs.rest.Rest.new.Given as goal

abbrev pub invariant-loop-edge : goal.invariant-loop-edge
invariant-loop-edge l = record {
  counted : IsCounted l.edges l.rest;
  all : rest_of l.edges l.rest ≡ l.edges;
  noted : (e : PlacedEdge) → Contains (take l.edge-index l.edges) e → (p : Place) → Needs l.fn.aim e p → count_at l.rest.tally p ≡ 0 → Contains l.rest.freed.items p;
}
