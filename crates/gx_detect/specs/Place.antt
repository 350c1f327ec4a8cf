use Rattle.std.specs.Prelude.{◌≡◌, ℕ, Bool, true, false, ◌==◌, ◌&&◌, ◌⊎◌, if◌then◌else◌}
use Rattle.gx_waits.specs.declared.placed_edge.PlacedEdge.{PlacedEdge}
use Rattle.gx_detect.specs.declared.place.Aim.{Aim}
use Rattle.gx_detect.specs.declared.place.Aim.TheVariants.{Stuck, Core}
use Rattle.gx_detect.specs.declared.place.Place.{Place}
use Rattle.gx_detect.specs.declared.place.Place.TheVariants.{Anywhere, At, Awaited}

-- the edge counts in the place: its waiter waits there, or its holder is waited for
abbrev pub waits_in : Place → PlacedEdge → Bool
waits_in (Anywhere v) e = e.edge.waiter.0 == v.0
waits_in (At node v) e = (e.node.0 == node.0) && (e.edge.waiter.0 == v.0)
waits_in (Awaited v) e = e.edge.holder.0 == v.0

-- where somebody has to wait, so that the edge stays: its holder, on its node where it is dotted
abbrev pub need_of : PlacedEdge → Place
need_of e = if e.edge.dotted then At e.node e.edge.holder else Anywhere e.edge.holder

-- in the place an edge has to count, so that this one stays: in the core its waiter is waited for too
abbrev pub Needs : Aim → PlacedEdge → Place → Type 0
Needs Stuck e p = need_of e ≡ p
Needs Core e p = (need_of e ≡ p) ⊎ (Awaited e.edge.waiter ≡ p)

abbrev pub bit : Bool → ℕ
bit true = 1
bit false = 0
