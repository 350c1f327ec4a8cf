-- The core of what is stuck.
use Rattle.std.specs.Prelude.{◌<◌, ℕ, List, [], ◌∷◌, Bool, Contains, AllPairs, nat_lt, filter, not}
use Rattle.gx_ids.specs.declared.ids.Gxid.{Gxid}
use Rattle.gx_waits.specs.declared.placed_edge.PlacedEdge.{PlacedEdge}
use Rattle.gx_waits.specs.Edge.{names}
use Rattle.gx_waits.specs.Closed.{IsClosed, IsNamed}
use Rattle.gx_waits.specs.Victims.{IsCorePart, IsInCore}
use Rattle.gx_detect.specs.declared.place.Place.{Place}
use Rattle.gx_detect.specs.declared.place.Place.TheVariants.{Anywhere}

-- these edges are the whole core: the largest part in which each waiter is waited for. It is closed
pub record IsCore (edges core : List PlacedEdge) : Type 0 where
  pub part : IsCorePart edges core
  pub whole : (e : PlacedEdge) → IsInCore edges e → Contains core e
  pub closed : IsClosed core

-- these are the transactions that the edges name, rising, each once
pub record AreNamed (edges : List PlacedEdge) (names : List Gxid) : Type 0 where
  pub all_of_them : (v : Gxid) → IsNamed edges v → Contains names v
  pub no_others : (v : Gxid) → Contains names v → IsNamed edges v
  pub rising : AllPairs (λ v w. v.0 < w.0) names

-- each victim is named in a closed core of the edges that the victims before it don't name
abbrev pub HaveClosedCores : List PlacedEdge → List Gxid → Type 0
HaveClosedCores edges [] = Unit {0}
HaveClosedCores edges (v ∷ victims) = ((core : List PlacedEdge) × IsCore edges core × IsNamed core v) × HaveClosedCores (filter (λ e. not (names v e.edge)) edges) victims

-- the edge's waiter waits, by the counts
unfoldable pub waiter_is_left : (Place → ℕ) → PlacedEdge → Bool
waiter_is_left count e = nat_lt 0 (count (Anywhere e.edge.waiter))
