-- The least of the waiters that aren't active.
use Rattle.std.specs.Prelude.{◌==◌, Bool, nat_lt, if◌then◌else◌, List, Option, None, Some}
use Rattle.std.specs.List.{list_any}
use Rattle.gx_ids.specs.declared.ids.Gxid.{Gxid}
use Rattle.gx_waits.specs.declared.placed_edge.PlacedEdge.{PlacedEdge}

-- the transaction is one of these
abbrev pub is_in : List Gxid → Gxid → Bool
is_in gxids v = list_any (λ w. w.0 == v.0) gxids

-- the lesser of two, of which the first may be missing
abbrev pub lesser : Option Gxid → Gxid → Gxid
lesser None v = v
lesser (Some w) v = if nat_lt w.0 v.0 then w else v

-- the least of what was seen and an edge's waiter, where that isn't active
abbrev pub with_waiter : List Gxid → Option Gxid → PlacedEdge → Option Gxid
with_waiter active seen e = if is_in active e.edge.waiter then seen else Some (lesser seen e.edge.waiter)
