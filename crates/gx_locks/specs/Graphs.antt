-- Who waits for whom at a node, by its locks.
use Rattle.std.specs.Prelude.{List, fold}
use Rattle.gx_waits.specs.Graph.{edges_at, with_hold}
use Rattle.gx_waits.specs.declared.claim.Claim.{Claim}
use Rattle.gx_waits.specs.declared.edge.Edge.{Edge}
use Rattle.gx_waits.specs.declared.graph.LocalGraph.{LocalGraph}
use Rattle.gx_locks.specs.Locks.{Locks}

-- the graph of a node with these locks
abbrev pub graph_at : Locks → LocalGraph
graph_at locks = record { node = locks.node; edges = edges_at locks.waits locks.holds }

-- the edges with those from a wait to these claims
abbrev pub with_holds : List Claim → List Edge → Claim → List Edge
with_holds claims edges wait = fold (with_hold wait) edges claims
