-- What a round comes to, as a function of all edges and of who may still be cancelled: edges go where nobody needs them, and of what
-- is left the youngest is chosen, again and again.
use Rattle.std.specs.Prelude.{ℕ, zero, suc, ◌==◌, nat_lt, Bool, not, if◌then◌else◌, List, [], ◌∷◌, Option, None, Some, filter, fold, length}
use Rattle.std.specs.List.{flat_map, list_any}
use Rattle.gx_ids.specs.declared.ids.Gxid.{Gxid}
use Rattle.gx_waits.specs.declared.placed_edge.PlacedEdge.{PlacedEdge}
use Rattle.gx_waits.specs.declared.verdict.Verdict.{Verdict}
use Rattle.gx_waits.specs.declared.verdict.Verdict.TheVariants.{Dropped}
use Rattle.gx_waits.specs.Edge.{names}
use Rattle.gx_detect.specs.Deadlocks.{naming}
use Rattle.gx_detect.specs.Inactive.{with_waiter}
use Rattle.gx_detect.specs.Place.{need_of, waits_in}

-- AGAIN AND AGAIN
-- those of the edges that stay among the others, so many times over
abbrev pub stay_for : ℕ → (List PlacedEdge → PlacedEdge → Bool) → List PlacedEdge → List PlacedEdge
stay_for zero stays edges = edges
stay_for (suc n) stays edges = stay_for n stays (filter (stays edges) edges)

-- those that stay at last: each time some edge goes or all stay, so there are times enough
abbrev pub that_stay : (List PlacedEdge → PlacedEdge → Bool) → List PlacedEdge → List PlacedEdge
that_stay stays edges = stay_for (length edges) stays edges

-- STUCK EDGES
-- an edge is needed while its holder waits, for a dotted edge on the edge's own node
abbrev pub is_needed : List PlacedEdge → PlacedEdge → Bool
is_needed edges e = list_any (waits_in (need_of e)) edges

abbrev pub stuck_of : List PlacedEdge → List PlacedEdge
stuck_of edges = that_stay is_needed edges

-- THE CORE
-- somebody waits for the edge's waiter
abbrev pub is_waited_for : List PlacedEdge → PlacedEdge → Bool
is_waited_for edges e = list_any (λ f. f.edge.holder.0 == e.edge.waiter.0) edges

abbrev pub core_of : List PlacedEdge → List PlacedEdge
core_of edges = that_stay is_waited_for (stuck_of edges)

-- VICTIMS
abbrev pub named_in : List PlacedEdge → List Gxid
named_in edges = flat_map (λ e. e.edge.waiter ∷ e.edge.holder ∷ []) edges

abbrev pub greater : Gxid → Gxid → Gxid
greater g h = if nat_lt g.0 h.0 then h else g

abbrev pub greatest_of : List Gxid → Option Gxid
greatest_of [] = None
greatest_of (g ∷ gs) = Some (fold greater g gs)

-- the edges that don't name the transaction
abbrev pub edges_without : Gxid → List PlacedEdge → List PlacedEdge
edges_without v edges = filter (λ e. not (names v e.edge)) edges

-- one, where there is one, and then those who are chosen behind it
abbrev pub chosen : Option Gxid → (Gxid → List Gxid) → List Gxid
chosen None behind = []
chosen (Some v) behind = v ∷ behind v

-- the youngest of the core, and then the victims of the edges without it, at most so many
abbrev pub victims_among : ℕ → List PlacedEdge → List Gxid
victims_among zero edges = []
victims_among (suc n) edges = chosen (greatest_of (named_in (core_of edges))) (λ v. victims_among n (edges_without v edges))

-- each victim takes an edge with it, so there are no more
abbrev pub victims_of : List PlacedEdge → List Gxid
victims_of edges = victims_among (length edges) edges

-- THE VERDICT
-- the least stuck transaction that can't be cancelled any more
abbrev pub least_inactive : List PlacedEdge → List Gxid → Option Gxid
least_inactive edges active = fold (with_waiter active) None (stuck_of edges)

abbrev pub unless_dropped : Option Gxid → List Gxid → Verdict
unless_dropped None victims = naming victims
unless_dropped (Some v) victims = Dropped v

abbrev pub verdict_of : List PlacedEdge → List Gxid → Verdict
verdict_of edges active = unless_dropped (least_inactive edges active) (victims_of edges)
