-- Which waits stand for ever. The edges of all nodes are one list.
use Rattle.std.specs.Prelude.{◌≡◌, List, IsTrue, All, Any, Contains, ◌⊎◌}
use Rattle.gx_ids.specs.declared.ids.Node.{Node}
use Rattle.gx_ids.specs.declared.ids.Gxid.{Gxid}
use Rattle.gx_waits.specs.declared.placed_edge.PlacedEdge.{PlacedEdge}

-- the transaction waits: it is the waiter of some edge
abbrev pub Waits : List PlacedEdge → Gxid → Type 0
Waits edges v = Any (λ e. e.edge.waiter ≡ v) edges

-- it is the waiter of some edge on that node
abbrev pub WaitsAt : List PlacedEdge → Node → Gxid → Type 0
WaitsAt edges node v = Any (λ e. (e.node ≡ node) × (e.edge.waiter ≡ v)) edges

-- each holder waits in the set, and the holder of each dotted edge waits in it on the edge's node
pub record IsClosed (edges : List PlacedEdge) : Type 0 where
  pub holders_wait : All (λ e. Waits edges e.edge.holder) edges
  pub dotted_holders_wait_there : All (λ e. IsTrue e.edge.dotted → WaitsAt edges e.node e.edge.holder) edges

-- each of the first is one of the second
abbrev pub IsWithin : List PlacedEdge → List PlacedEdge → Type 0
IsWithin part edges = All (λ e. Contains edges e) part

-- the edge is in the union of all closed sets of these edges
pub record IsStuck (edges : List PlacedEdge) (e : PlacedEdge) : Type 0 where
  pub set : List PlacedEdge
  pub closed : IsClosed set
  pub within : IsWithin set edges
  pub member : Contains set e

-- the transaction is the waiter or the holder of an edge
abbrev pub IsNamedIn : PlacedEdge → Gxid → Type 0
IsNamedIn e v = (e.edge.waiter ≡ v) ⊎ (e.edge.holder ≡ v)

-- the transaction is named by one of the edges
abbrev pub IsNamed : List PlacedEdge → Gxid → Type 0
IsNamed edges v = (e : PlacedEdge) × Contains edges e × IsNamedIn e v

-- it is so of a stuck edge
abbrev pub IsNamedInStuck : List PlacedEdge → Gxid → Type 0
IsNamedInStuck edges v = (e : PlacedEdge) × IsStuck edges e × IsNamedIn e v
