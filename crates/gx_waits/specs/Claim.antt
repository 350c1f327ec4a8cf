-- The edges of given holds and waits at one node (PostgreSQL manual, 13.3: a request waits for the transactions that
-- hold a conflicting mode on the same object; here it also waits for those that wait ahead of it for one).
use Rattle.std.specs.Prelude.{◌≡◌, ◌≢◌, ◌==◌, ◌&&◌, not, Bool, true, false, if◌then◌else◌, List, [], ◌∷◌, ◌++◌, filter, IsTrue, Any, AllPairs, Contains}
use Rattle.std.specs.List.{list_any}
use Rattle.gx_modes.specs.Table.{conflict, number_of}
use Rattle.gx_waits.specs.declared.edge.Edge.{Edge}
use Rattle.gx_waits.specs.declared.object.Object.{Object}
use Rattle.gx_waits.specs.declared.object.Object.TheVariants.{Relation, Tuple, Transaction}
use Rattle.gx_waits.specs.declared.claim.Claim.{Claim}

-- a claim meets another that is held, or waited for: it is of another transaction, on the same object, in a mode that conflicts
pub record Meets (wait hold : Claim) : Type 0 where
  pub other : wait.gxid ≢ hold.gxid
  pub same_object : wait.object ≡ hold.object
  pub conflicting : IsTrue (conflict wait.mode hold.mode)

-- the same as tests: whether two objects are one
abbrev pub same_object : Object → Object → Bool
same_object (Relation t) (Relation u) = t.0 == u.0
same_object (Relation t) (Tuple q) = false
same_object (Relation t) (Transaction h) = false
same_object (Tuple r) (Relation u) = false
same_object (Tuple r) (Tuple q) = (r.gxid.0 == q.gxid.0) && ((r.cid.0 == q.cid.0) && (r.ordinal == q.ordinal))
same_object (Tuple r) (Transaction h) = false
same_object (Transaction g) (Relation u) = false
same_object (Transaction g) (Tuple q) = false
same_object (Transaction g) (Transaction h) = g.0 == h.0

-- whether a claim meets another
abbrev pub meets : Claim → Claim → Bool
meets claim hold = not (claim.gxid.0 == hold.gxid.0) && (same_object claim.object hold.object && conflict claim.mode hold.mode)

-- whether two claims are one
abbrev pub same_claim : Claim → Claim → Bool
same_claim a b = (a.gxid.0 == b.gxid.0) && (same_object a.object b.object && (number_of a.mode == number_of b.mode))

abbrev pub is_tuple : Object → Bool
is_tuple (Relation table) = false
is_tuple (Tuple rid) = true
is_tuple (Transaction gxid) = false

-- the edge from a wait to what it meets: dotted exactly for a tuple
abbrev pub edge_of : Claim → Claim → Edge
edge_of wait hold = record { waiter = wait.gxid; holder = hold.gxid; dotted = is_tuple wait.object }

-- THE QUEUE
-- the waits that came before a claim; all, where it doesn't stand among them
abbrev pub ahead : Claim → List Claim → List Claim
ahead claim [] = []
ahead claim (wait ∷ waits) = if same_claim claim wait then [] else wait ∷ ahead claim waits

-- a wait stands ahead of a claim, unless it meets a hold of the claim's own transaction
abbrev pub is_ahead : List Claim → Claim → Claim → Bool
is_ahead holds claim wait = not (list_any (λ hold. (hold.gxid.0 == claim.gxid.0) && meets wait hold) holds)

-- what a claim may meet: all that is held, and what is waited for ahead of it
abbrev pub in_the_way : List Claim → List Claim → Claim → List Claim
in_the_way holds waits claim = holds ++ filter (is_ahead holds claim) (ahead claim waits)

-- EDGES
-- an edge of one wait stands where it meets some of these claims
abbrev pub IsEdgeOf : Claim → List Claim → Edge → Type 0
IsEdgeOf wait claims edge = Any (λ claim. Meets wait claim × (edge ≡ edge_of wait claim)) claims

-- an edge stands where some wait meets something in its way
abbrev pub IsEdge : List Claim → List Claim → Edge → Type 0
IsEdge waits holds edge = Any (λ wait. IsEdgeOf wait (in_the_way holds waits wait) edge) waits

-- these are the edges of the waits and holds, each once
pub record AreEdges (waits holds : List Claim) (edges : List Edge) : Type 0 where
  pub all_of_them : (edge : Edge) → IsEdge waits holds edge → Contains edges edge
  pub no_others : (edge : Edge) → Contains edges edge → IsEdge waits holds edge
  pub once : AllPairs (λ a b. a ≢ b) edges
