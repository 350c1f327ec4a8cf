-- What is left of graphs.
use Rattle.std.specs.Prelude.{Bool, filter, nat_lt, ℕ}
use Rattle.gx_waits.specs.declared.graph.LocalGraph.{LocalGraph}
use Rattle.gx_waits.specs.declared.placed_edge.PlacedEdge.{PlacedEdge}
use Rattle.gx_detect.specs.declared.place.Place.{Place}
use Rattle.gx_detect.specs.Place.{need_of}

-- the graph with those of its edges that pass the test, in their order
abbrev pub kept_edges : (PlacedEdge → Bool) → LocalGraph → LocalGraph
kept_edges test graph = record graph { edges = filter (λ edge. test (record { node = graph.node; edge = edge })) graph.edges }

-- some edge counts in the place that the edge needs
unfoldable pub is_left : (Place → ℕ) → PlacedEdge → Bool
is_left count e = nat_lt 0 (count (need_of e))
