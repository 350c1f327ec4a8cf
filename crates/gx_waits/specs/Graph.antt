-- The edges of given waits and holds at one node, as a list.
use Rattle.std.specs.Prelude.{◌==◌, Bool, not, if◌then◌else◌, ◌&&◌, List, [], ◌∷◌, ◌++◌, fold}
use Rattle.std.specs.List.{list_any}
use Rattle.gx_waits.specs.Claim.{edge_of, in_the_way, meets}
use Rattle.gx_waits.specs.declared.claim.Claim.{Claim}
use Rattle.gx_waits.specs.declared.edge.Edge.{Edge}

-- whether two edges are one
abbrev pub same_edge : Edge → Edge → Bool
same_edge a b = (a.waiter.0 == b.waiter.0) && ((a.holder.0 == b.holder.0) && (if a.dotted then b.dotted else not b.dotted))

-- the edges with one more; an edge that is there already isn't added again
abbrev pub with_edge : List Edge → Edge → List Edge
with_edge edges edge = if list_any (same_edge edge) edges then edges else edges ++ edge ∷ []

-- the edges with the one from a wait to another claim, where it meets that
abbrev pub with_hold : Claim → List Edge → Claim → List Edge
with_hold wait edges hold = if meets wait hold then with_edge edges (edge_of wait hold) else edges

-- the edges with those from a wait, by what is in its way
abbrev pub with_wait : List Claim → List Claim → List Edge → Claim → List Edge
with_wait holds waits edges wait = fold (with_hold wait) edges (in_the_way holds waits wait)

-- the edges of waits and holds, by wait and then by what is in its way, each once
abbrev pub edges_at : List Claim → List Claim → List Edge
edges_at waits holds = fold (with_wait holds waits) [] waits
