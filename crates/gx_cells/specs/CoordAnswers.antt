-- How the coordinator's cell answers.
use Rattle.std.specs.Prelude.{◌≡◌, ◌&&◌, true, false, Bool, if◌then◌else◌, List}
use Rattle.gx_store.specs.declared.event.Event.{Event}
use Rattle.gx_store.specs.declared.node.NodeEvent.{NodeEvent}
use Rattle.gx_store.specs.declared.node.NodeEvent.TheVariants as node
use Rattle.gx_store.specs.declared.event.Event.TheVariants as event
use Rattle.gx_store.specs.declared.run.Step.{Step}
use Rattle.gx_store.specs.Groups.{lets}
use Rattle.gx_store.specs.Refusals.{the_coordinator}
use Rattle.gx_script.specs.declared.Script.{Script}
use Rattle.gx_rules.specs.AtCoordinator.{coord_can}
use Rattle.gx_rules.specs.Coordinators.{Coord}
use Rattle.gx_coord.specs.Room.{has_room}
use Rattle.gx_cells.specs.Receipts.{IsLongerIf}
use Rattle.gx_cells.specs.declared.looked.Looked.{Looked}
use Rattle.gx_cells.specs.declared.looked.Looked.TheVariants.{Stepped, NotNow, Worn}

-- what the coordinator does by itself, as an event
abbrev pub event_of : NodeEvent → Event
event_of (node.Resume g) = event.Resume the_coordinator g
event_of (node.Start s) = event.Start s
event_of (node.End s) = event.End s
event_of (node.Resend i g) = event.Resend i g
event_of _ = event.Round

-- which it does by itself: no message brings it
abbrev pub is_own : NodeEvent → Bool
is_own (node.Deliver from envelope) = false
is_own _ = true

-- where it admits it, and the groups let it behind its steps, it is done unless numbers are worn
abbrev pub own_answer : Script → List Step → Coord → NodeEvent → Looked
own_answer script steps c here = if lets script steps (event_of here) && coord_can script c here then (if has_room script c then Stepped else Worn) else NotNow

-- so it answers, and the history has that step more
pub record HasActed (script : Script) (c : Coord) (here : NodeEvent) (old new : List Step) (looked : Looked) : Type 0 where
  pub answer : looked ≡ own_answer script old c here
  pub steps : IsLongerIf looked (event_of here) old new
