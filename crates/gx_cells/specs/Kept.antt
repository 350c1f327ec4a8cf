-- What a node apart keeps of its history.
use Rattle.std.specs.Prelude.{◌≡◌, ℕ, ◌+◌, ◌≤◌, false, if◌then◌else◌, List, [], Some, None, length, map, IfSome}
use Rattle.std.specs.declared.option.Option.{Option}
use Rattle.gx_ids.specs.declared.ids.Node.{Node}
use Rattle.gx_msg.specs.ItemBytes.{bytes_of_item}
use Rattle.gx_msg.specs.declared.message.Envelope.{Envelope}
use Rattle.gx_outside.specs.Shelves.{Shelf}
use Rattle.gx_script.specs.declared.Script.{Script}
use Rattle.gx_store.specs.declared.run.Step.{Step}
use Rattle.gx_store.specs.Journals.{is_same_node}
use Rattle.gx_store.specs.Ordered.{IsSegment}
use Rattle.gx_store.specs.Points.{marks_in}
use Rattle.gx_store.specs.Refusals.{the_coordinator}
use Rattle.gx_rules.specs.Segments.{Seg, new_segment}
use Rattle.gx_segment.specs.Steps as segment
use Rattle.gx_segment.specs.declared.segment.Segment.{Segment}
use Rattle.gx_law_runs.specs.Failures.{failures_in}
use Rattle.gx_cells.specs.declared.history.History.{History}
use Rattle.gx_cells.specs.declared.inbox.Inbox.{Inbox}
use Rattle.gx_law_merge.specs.Apart.{DoesFollow, Post, Rule, at_place, holds_after, segments_rule, sent_to, takes_in}

-- WHAT HAS COME
-- a node's links as it knows them: what it has received from each node, in order
abbrev pub heard_at : Node → (Node → List Envelope) → Post
heard_at at heard from to place = if is_same_node to at then at_place (heard from) place else None

-- to a segment all comes from the coordinator
abbrev pub from_coordinator : List Envelope → Node → List Envelope
from_coordinator heard from = if is_same_node from the_coordinator then heard else []

-- ITS HISTORY
-- The steps follow the node's rule by what has come to it; the journal holds the items of the steps, and no more marks tell of its
-- failures than its count has risen from the first.
pub record IsHistory {Data : Type 0} (rule : Rule Data) (at : Node) (new : Data) (post : Post) (first : ℕ) (steps : List Step) (shelf : Shelf) : Type 0 where
  pub follows : DoesFollow rule at post new steps
  pub items : shelf.items ≡ map bytes_of_item (takes_in rule post new steps)
  pub failures : first + failures_in at (marks_in steps) ≤ shelf.faults

-- A SEGMENT
abbrev pub post_at_segment : Node → List Envelope → Post
post_at_segment node heard = heard_at node (from_coordinator heard)

-- an envelope that is to come once more is the last that came
abbrev pub IsToCome : List Envelope → Option Envelope → Type 0
IsToCome heard again = IfSome again (λ e. at_place heard (length heard) ≡ Some e)

-- what the rule's data is at the end of the history
abbrev pub segment_by : Script → Node → List Step → List Envelope → Seg
segment_by script node steps heard = holds_after (segments_rule script) (post_at_segment node heard) (new_segment node) steps

abbrev pub segment_apart : History → List Envelope → Seg
segment_apart history heard = segment_by history.script.value history.node history.steps heard

-- The segment holds what its history leads to, and its link has just what the history's marks have sent.
pub record IsSegmentApart (history : History) (inbox : Inbox) (held : Segment) (shelf : Shelf) : Type 0 where
  pub place : IsSegment history.script.value history.node
  pub of : held.script.value ≡ history.script.value
  pub usable : held.spent ≡ false
  pub named : (segment_apart history inbox.source.received).node ≡ history.node
  pub holds : segment.IsSegment held (segment_apart history inbox.source.received)
  pub steps : IsHistory (segments_rule history.script.value) history.node (new_segment history.node) (post_at_segment history.node inbox.source.received) history.first history.steps shelf
  pub sent : history.out.sent ≡ sent_to the_coordinator history.steps
  pub again : IsToCome inbox.source.received inbox.again
