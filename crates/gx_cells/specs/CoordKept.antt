-- What a coordinator apart keeps of its history.
use Rattle.std.specs.Prelude.{◌≡◌, ℕ, zero, suc, ◌+◌, ◌≤◌, false, List, [], Some, None, length, slice_get}
use Rattle.std.specs.declared.option.Option.{Option}
use Rattle.gx_agenda.specs.OwnSlots.{AreOwnSlots}
use Rattle.gx_coord.specs.Steps.{IsCoord}
use Rattle.gx_coord.specs.declared.coord.Coord.{Coord}
use Rattle.gx_links.specs.Ends.{OutEnd}
use Rattle.gx_msg.specs.declared.message.Envelope.{Envelope}
use Rattle.gx_outside.specs.Shelves.{Shelf}
use Rattle.gx_script.specs.declared.Script.{Script}
use Rattle.gx_store.specs.Groups.{AreStartsLet}
use Rattle.gx_store.specs.Refusals.{the_coordinator}
use Rattle.gx_store.specs.declared.run.Step.{Step}
use Rattle.gx_rules.specs.Coordinators as rule
use Rattle.gx_rules.specs.Coordinators.{new_coordinator}
use Rattle.gx_law_merge.specs.Apart.{Post, coordinators_rule, holds_after, sent_to}
use Rattle.gx_cells.specs.Kept.{IsHistory, IsToCome, heard_at}
use Rattle.gx_cells.specs.declared.coord_history.CoordHistory.{CoordHistory}
use Rattle.gx_cells.specs.declared.inbox.Inbox.{Inbox}

-- WHAT HAS COME
abbrev pub heard_in : Option Inbox → List Envelope
heard_in None = []
heard_in (Some inbox) = inbox.source.received

-- the inbox of each segment, by its number, from 1
abbrev pub inbox_from : List Inbox → ℕ → Option Inbox
inbox_from inboxes zero = None
inbox_from inboxes (suc k) = slice_get inboxes k

-- what has come from it to the coordinator
abbrev pub from_segment : List Inbox → ℕ → List Envelope
from_segment inboxes number = heard_in (inbox_from inboxes number)

abbrev pub post_at_coordinator : List Inbox → Post
post_at_coordinator inboxes = heard_at the_coordinator (λ from. from_segment inboxes from.0)

-- what the rule's data is at the end of the history
abbrev pub coordinator_by : Script → List Step → List Inbox → rule.Coord
coordinator_by script steps inboxes = holds_after (coordinators_rule script) (post_at_coordinator inboxes) new_coordinator steps

abbrev pub coordinator_apart : CoordHistory → List Inbox → rule.Coord
coordinator_apart history inboxes = coordinator_by history.script.value history.steps inboxes

-- The coordinator holds what its history leads to, the link to each segment has just what the history's marks have sent it, the groups let
-- each line start that was started, and the slots are those that the history tells.
pub record IsCoordApart (history : CoordHistory) (inboxes : List Inbox) (held : Coord) (shelf : Shelf) : Type 0 where
  pub of : held.script.value ≡ history.script.value
  pub usable : held.spent ≡ false
  pub holds : IsCoord held (coordinator_apart history inboxes)
  pub next : (coordinator_apart history inboxes).table.next.0 ≤ (coordinator_apart history inboxes).clock + 1
  pub steps : IsHistory (coordinators_rule history.script.value) the_coordinator new_coordinator (post_at_coordinator inboxes) history.first history.steps shelf
  pub outs : length history.outs.items ≡ history.script.value.segments
  pub ins : length inboxes ≡ history.script.value.segments
  pub sent : (k : ℕ) (out : OutEnd) → slice_get history.outs.items k ≡ Some out → out.sent ≡ sent_to (record { 0 = k + 1 }) history.steps
  pub again : (k : ℕ) (inbox : Inbox) → slice_get inboxes k ≡ Some inbox → IsToCome inbox.source.received inbox.again
  pub starts : AreStartsLet history.script.value history.steps
  pub slots : AreOwnSlots history.script.value history.steps history.slots
