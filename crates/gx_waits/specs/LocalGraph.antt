use Rattle.std.specs.Prelude.{◌≡◌, List, [], ◌∷◌, ◌++◌, ◌⊎◌, map, filter, not, Contains}
use Rattle.std.specs.List.{flat_map}
use Rattle.gx_ids.specs.declared.ids.Gxid.{Gxid}
use Rattle.gx_waits.specs.declared.edge.Edge.{Edge}
use Rattle.gx_waits.specs.declared.graph.LocalGraph.{LocalGraph}
use Rattle.gx_waits.specs.declared.placed_edge.PlacedEdge.{PlacedEdge}
use Rattle.gx_waits.specs.Edge.{names}

-- the edge is there and nothing changes, or it isn't and comes to stand at the end
abbrev pub AddsOnce : List Edge → List Edge → Edge → Type 0
AddsOnce old new edge = (Contains old edge × (new ≡ old)) ⊎ ((Contains old edge → ⊥) × (new ≡ old ++ edge ∷ []))

-- the graph without the edges that name the transaction
abbrev pub without_edges_of : Gxid → LocalGraph → LocalGraph
without_edges_of v graph = record graph { edges = filter (λ edge. not (names v edge)) graph.edges }

-- the edges of graphs, each with its node
abbrev pub edges_of : List LocalGraph → List PlacedEdge
edges_of graphs = flat_map (λ graph. map (λ edge. record { node = graph.node; edge = edge }) graph.edges) graphs
