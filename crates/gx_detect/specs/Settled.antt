-- A reduction at its end.
use Rattle.std.specs.Prelude.{◌≡◌, List, Contains, length}
use Rattle.gx_waits.specs.declared.placed_edge.PlacedEdge.{PlacedEdge}
use Rattle.gx_waits.specs.Closed.{IsStuck}
use Rattle.gx_detect.specs.declared.place.Aim.{Aim}
use Rattle.gx_detect.specs.declared.reduced.Reduced.{Reduced}
use Rattle.gx_detect.specs.Reducing.{AreAmong, IsBacked, IsCounted, IsDone, rest_of}
use Rattle.gx_detect.specs.Wants.{AreListed}

-- the edges that are left
abbrev pub left_in : Reduced → List PlacedEdge
left_in reduced = rest_of reduced.edges.items reduced.rest

-- it is at its end, and more may be taken out
pub record IsSettled (aim : Aim) (reduced : Reduced) : Type 0 where
  pub aims : reduced.wants.aim ≡ aim
  pub counted : IsCounted reduced.edges.items reduced.rest
  pub listed : AreListed reduced.edges.items (length reduced.edges.items) reduced.wants
  pub done : IsDone aim reduced.edges.items reduced.rest

-- this part has in it what each of its edges needs, and holds all such parts
pub record IsLargest (aim : Aim) (edges part : List PlacedEdge) : Type 0 where
  pub among : AreAmong part edges
  pub backed : IsBacked aim part
  pub whole : (set : List PlacedEdge) → IsBacked aim set → AreAmong set edges → AreAmong set part

-- some of the edges, and all that are stuck
pub record HasStuck (edges part : List PlacedEdge) : Type 0 where
  pub among : AreAmong part edges
  pub stuck : (e : PlacedEdge) → IsStuck edges e → Contains part e
