-- Who stands in the way of a claim.
use Rattle.std.specs.Prelude.{Bool, ◌&&◌, List, filter, fold}
use Rattle.gx_waits.specs.Claim.{ahead, is_ahead, meets}
use Rattle.gx_waits.specs.Graph.{with_hold}
use Rattle.gx_waits.specs.declared.claim.Claim.{Claim}
use Rattle.gx_waits.specs.declared.edge.Edge.{Edge}

-- a wait that came before a claim holds it up: the claim meets it, and it stands ahead
abbrev pub holds_up : List Claim → Claim → Claim → Bool
holds_up holds claim wait = meets claim wait && is_ahead holds claim wait

-- the waits that stand ahead of a claim
abbrev pub queue_of : List Claim → List Claim → Claim → List Claim
queue_of holds waits claim = filter (is_ahead holds claim) (ahead claim waits)

-- the edges with those from a wait, by the waits that stand ahead of it
abbrev pub with_queue : List Claim → List Claim → List Edge → Claim → List Edge
with_queue holds waits edges wait = fold (with_hold wait) edges (queue_of holds waits wait)
