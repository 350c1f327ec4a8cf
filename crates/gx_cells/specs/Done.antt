-- What comes of an action, at each node.
use Rattle.std.specs.Prelude.{◌≡◌, ℕ, zero, suc, ◌==◌, Bool, true, false, List, slice_get, slice_set, Some, None}
use Rattle.std.specs.declared.option.Option.{Option}
use Rattle.gx_locks.specs.Locks.{next_ready}
use Rattle.gx_store.specs.Refusals.{the_coordinator}
use Rattle.gx_store.specs.declared.node.NodeEvent.{NodeEvent}
use Rattle.gx_store.specs.declared.node.NodeEvent.TheVariants as node
use Rattle.gx_coord.specs.Room as coordinator
use Rattle.gx_segment.specs.Room as segment
use Rattle.gx_cells.specs.Closed.{firsts_of}
use Rattle.gx_cells.specs.CoordAnswers.{HasActed}
use Rattle.gx_cells.specs.CoordReceipts.{HasHeardFrom}
use Rattle.gx_cells.specs.CoordViews.{CoordView, IsSameNode, coord_data, coord_sight}
use Rattle.gx_cells.specs.Receipts.{HasReceived, HasResumed}
use Rattle.gx_cells.specs.Views.{IsSameCell, SegmentView, data_of, sight_of}
use Rattle.gx_cells.specs.declared.action.Action.{Action}
use Rattle.gx_cells.specs.declared.action.Action.TheVariants as action
use Rattle.gx_cells.specs.declared.looked.Looked.{Looked}
use Rattle.gx_cells.specs.declared.looked.Looked.TheVariants.{NotNow}

-- an event by itself, which leaves the inboxes
abbrev pub HasActedHere : NodeEvent → CoordView → CoordView → Looked → Type 0
HasActedHere here old new looked = (new.inboxes ≡ old.inboxes) × HasActed old.script (coord_data old) here old.steps new.steps looked

abbrev pub HasDoneHere : Action → CoordView → CoordView → Looked → Type 0
HasDoneHere (action.Receive from) old new looked = HasHeardFrom old.script (coord_data old) from (coord_sight old) (coord_sight new) looked
HasDoneHere action.Resume old new looked =
    (new.inboxes ≡ old.inboxes) × HasResumed the_coordinator (next_ready (coord_data old).locks) (coordinator.has_room old.script (coord_data old)) old.steps new.steps looked
HasDoneHere (action.Start session) old new looked = HasActedHere (node.Start session) old new looked
HasDoneHere (action.End session) old new looked = HasActedHere (node.End session) old new looked
HasDoneHere (action.Resend i gxid) old new looked = HasActedHere (node.Resend i gxid) old new looked
HasDoneHere action.Round old new looked = HasActedHere node.Round old new looked

-- it isn't to be done now, and changes nothing
abbrev pub IsNotNow : SegmentView → SegmentView → Looked → Type 0
IsNotNow old new looked = (looked ≡ NotNow) × (new ≡ old)

-- a segment receives from the coordinator and from no other node
abbrev pub HasReceivedFrom : Bool → SegmentView → SegmentView → Looked → Type 0
HasReceivedFrom true old new looked = HasReceived old.script the_coordinator old.node (segment.has_room (data_of old)) (sight_of old) (sight_of new) looked
HasReceivedFrom false old new looked = IsNotNow old new looked

abbrev pub HasDoneThere : Action → SegmentView → SegmentView → Looked → Type 0
HasDoneThere (action.Receive from) old new looked = HasReceivedFrom (from.0 == 0) old new looked
HasDoneThere action.Resume old new looked = (new.source ≡ old.source) × (new.again ≡ old.again) × HasResumed old.node (next_ready (data_of old).locks) (segment.has_room (data_of old)) old.steps new.steps looked
HasDoneThere _ old new looked = IsNotNow old new looked

-- ALL NODES
pub record CellsView : Type 0 where
  pub coord : CoordView
  pub segments : List SegmentView

-- a segment does it, if there is one of this place, and the others are as they were
abbrev pub HasDoneBy : Action → ℕ → CellsView → CellsView → Looked → Option SegmentView → Type 0
HasDoneBy action place old new looked None = (looked ≡ NotNow) × (new ≡ old)
HasDoneBy action place old new looked (Some was) =
    (is : SegmentView) × (new ≡ record { coord = old.coord; segments = slice_set old.segments place is }) × IsSameCell was is × HasDoneThere action was is looked

-- the node of this number does it
abbrev pub HasDoneAt : Action → ℕ → CellsView → CellsView → Looked → Type 0
HasDoneAt action zero old new looked = (new.segments ≡ old.segments) × IsSameNode old.coord new.coord × HasDoneHere action old.coord new.coord looked
HasDoneAt action (suc place) old new looked = HasDoneBy action place old new looked (slice_get old.segments place)

-- the node of this number is spent, and the others are as before
abbrev pub IsSpentBy : ℕ → CellsView → CellsView → Option SegmentView → Type 0
IsSpentBy place old new None = ⊥
IsSpentBy place old new (Some was) = (is : SegmentView) × (new ≡ record { coord = old.coord; segments = slice_set old.segments place is }) × IsSameCell was is × (is.spent ≡ true)

abbrev pub IsSpentAt : ℕ → CellsView → CellsView → Type 0
IsSpentAt zero old new = (new.segments ≡ old.segments) × IsSameNode old.coord new.coord × (new.coord.spent ≡ true)
IsSpentAt (suc place) old new = IsSpentBy place old new (slice_get old.segments place)

-- what no node's action changes: the script, and how often the journals had failed at first
abbrev pub AreSameCells : CellsView → CellsView → Type 0
AreSameCells old new = (new.coord.script ≡ old.coord.script) × (firsts_of new.coord new.segments ≡ firsts_of old.coord old.segments)
