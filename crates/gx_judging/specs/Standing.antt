-- The locks that are held and waited for behind marks, as they are kept by node, and whether the waits of a round's core stand.
use Rattle.std.specs.Prelude.{◌≡◌, ◌==◌, ◌&&◌, not, ℕ, Bool, true, if◌then◌else◌, List, [], ◌∷◌, ◌++◌, length, slice_get, unwrap_or, filter, Contains}
use Rattle.std.specs.List.{list_any}
use Rattle.gx_ids.specs.declared.ids.Gxid.{Gxid}
use Rattle.gx_ids.specs.declared.ids.Node.{Node}
use Rattle.gx_waits.specs.Claim.{ahead, edge_of, in_the_way, is_ahead, meets}
use Rattle.gx_waits.specs.Graph.{same_edge}
use Rattle.gx_waits.specs.declared.claim.Claim.{Claim}
use Rattle.gx_waits.specs.declared.edge.Edge.{Edge}
use Rattle.gx_waits.specs.declared.placed_edge.PlacedEdge.{PlacedEdge}
use Rattle.gx_store.specs.declared.mark.Mark.{Mark}
use Rattle.gx_store.specs.Waits.{holds_from, waits_from}
use Rattle.gx_judging.specs.declared.locks.Locks.{Locks}

abbrev pub node_at : ℕ → Node
node_at n = record { 0 = n }

-- those of a node
abbrev pub claims_at : List (List Claim) → ℕ → List Claim
claims_at lists node = unwrap_or (slice_get lists node) []

pub record IsLong (locks : Locks) : Type 0 where
  pub holds : 256 ≡ length locks.holds.items
  pub waits : 256 ≡ length locks.waits.items

-- they are what stands behind the marks
pub record AreLocks (marks : List Mark) (locks : Locks) : Type 0 where
  pub long : IsLong locks
  pub holds : (n : ℕ) → claims_at locks.holds.items n ≡ holds_from (node_at n) [] marks
  pub waits : (n : ℕ) → claims_at locks.waits.items n ≡ waits_from (node_at n) [] marks

-- whether the edge is that of a wait that meets some of these claims
abbrev pub is_edge_to : Claim → Edge → Claim → Bool
is_edge_to wait edge claim = meets wait claim && same_edge edge (edge_of wait claim)

abbrev pub is_edge_of : List Claim → List Claim → Edge → Claim → Bool
is_edge_of holds waits edge wait = list_any (is_edge_to wait edge) (in_the_way holds waits wait)

abbrev pub is_edge : List Claim → List Claim → Edge → Bool
is_edge holds waits edge = list_any (is_edge_of holds waits edge) waits

-- the edge stands at its node, if its waiter is one of these
abbrev pub StandsIfNamed : List Gxid → Locks → PlacedEdge → Type 0
StandsIfNamed named locks e = Contains named e.edge.waiter → is_edge (claims_at locks.holds.items e.node.0) (claims_at locks.waits.items e.node.0) e.edge ≡ true
