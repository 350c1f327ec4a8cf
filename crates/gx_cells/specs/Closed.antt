-- All nodes of a script, apart.
use Rattle.std.specs.Prelude.{◌≡◌, ◌≤◌, ℕ, zero, suc, ◌+◌, List, [], ◌∷◌, ◌++◌, false, length, map, slice_get, Some, None}
use Rattle.std.specs.declared.option.Option.{Option}
use Rattle.gx_ids.specs.declared.ids.Node.{Node}
use Rattle.gx_links.specs.Ends.{OutEnd}
use Rattle.gx_msg.specs.ItemBytes.{bytes_of_item}
use Rattle.gx_msg.specs.declared.item.JournalItem.{JournalItem}
use Rattle.gx_msg.specs.declared.message.Envelope.{Envelope}
use Rattle.gx_outside.specs.Shelves.{Shelf}
use Rattle.gx_script.specs.declared.Script.{Script}
use Rattle.gx_store.specs.Groups.{AreStartsLet}
use Rattle.gx_store.specs.Ordered.{IsSegment}
use Rattle.gx_store.specs.Points.{marks_in}
use Rattle.gx_store.specs.Refusals.{the_coordinator}
use Rattle.gx_store.specs.declared.run.Step.{Step}
use Rattle.gx_rules.specs.Coordinators.{new_coordinator}
use Rattle.gx_rules.specs.Segments.{new_segment}
use Rattle.gx_law_runs.specs.Failures.{failures_in}
use Rattle.gx_law_merge.specs.Apart.{coordinators_rule, segments_rule, sent_to}
use Rattle.gx_law_merge.specs.Merge.{coordinator_in, coordinators_items, segment_in, segments_items}
use Rattle.gx_cells.specs.CoordActs.{links_of}
use Rattle.gx_cells.specs.CoordKept.{post_at_coordinator}
use Rattle.gx_cells.specs.CoordReceipts.{AreBlank, links_in}
use Rattle.gx_cells.specs.CoordViews.{CoordView, coord_data}
use Rattle.gx_cells.specs.Kept.{IsHistory, post_at_segment}
use Rattle.gx_cells.specs.Views.{SegmentView, data_of}
use Rattle.gx_cells.specs.declared.inbox.Inbox.{Inbox}

-- WHAT A CELL TELLS THAT ISN'T SPENT
-- the segment's history follows its rule by what has come to it, and its link has just what its marks have sent
pub record IsSegmentKept (v : SegmentView) : Type 0 where
  pub unspent : v.spent ≡ false
  pub place : IsSegment v.script v.node
  pub steps : IsHistory (segments_rule v.script) v.node (new_segment v.node) (post_at_segment v.node v.source.received) v.first v.steps v.shelf
  pub sent : v.out.sent ≡ sent_to the_coordinator v.steps

-- the coordinator's history does so, the link to each segment has just what its marks have sent it, and each line was started where the
-- groups let it
pub record IsCoordKept (v : CoordView) : Type 0 where
  pub unspent : v.spent ≡ false
  pub steps : IsHistory (coordinators_rule v.script) the_coordinator new_coordinator (post_at_coordinator v.inboxes) v.first v.steps v.shelf
  pub outs : length v.outs ≡ v.script.segments
  pub ins : length v.inboxes ≡ v.script.segments
  pub sent : (k : ℕ) (out : OutEnd) → slice_get v.outs k ≡ Some out → out.sent ≡ sent_to (record { 0 = k + 1 }) v.steps
  pub starts : AreStartsLet v.script v.steps

-- THE CLOSED SET
abbrev pub inbox_of : SegmentView → Inbox
inbox_of v = record { source = v.source; again = v.again }

abbrev pub out_of : SegmentView → OutEnd
out_of v = v.out

-- The cells are those of one script's nodes in order, and the two ends of each link stand at the nodes that it joins.
pub record AreClosed (coord : CoordView) (segments : List SegmentView) : Type 0 where
  pub count : length segments ≡ coord.script.segments
  pub each : (k : ℕ) (s : SegmentView) → slice_get segments k ≡ Some s → (s.script ≡ coord.script) × (s.node.0 ≡ k + 1)
  pub forth : links_of coord.outs ≡ links_in (map inbox_of segments)
  pub back : links_of (map out_of segments) ≡ links_in coord.inboxes

-- a segment that has done and sent nothing and to which nothing has come, with no word of its journal's failures before
abbrev pub IsNewSegment : Script → ℕ → SegmentView → Type 0
IsNewSegment script k s = (s.script ≡ script) × (s.node.0 ≡ k + 1) × (s.spent ≡ false) × (s.steps ≡ []) × (s.first ≡ s.shelf.faults) × (s.source.received ≡ []) × (s.again ≡ None) × (s.out.sent ≡ [])

-- nothing was done yet, and nothing was sent
pub record AreNew (script : Script) (coord : CoordView) (segments : List SegmentView) : Type 0 where
  pub of : coord.script ≡ script
  pub unspent : coord.spent ≡ false
  pub steps : coord.steps ≡ []
  pub first : coord.first ≡ coord.shelf.faults
  pub inboxes : AreBlank coord.inboxes
  pub outs : (k : ℕ) (out : OutEnd) → slice_get coord.outs k ≡ Some out → out.sent ≡ []
  pub each : (k : ℕ) (s : SegmentView) → slice_get segments k ≡ Some s → IsNewSegment script k s

-- their histories, from node 0 on
abbrev pub histories_of : CoordView → List SegmentView → List (List Step)
histories_of coord segments = coord.steps ∷ map (λ s. s.steps) segments

-- no cell is spent
abbrev pub AreUnspent : CoordView → List SegmentView → Type 0
AreUnspent coord segments = (coord.spent ≡ false) × ((k : ℕ) (s : SegmentView) → slice_get segments k ≡ Some s → s.spent ≡ false)

-- THE NODES
-- The histories, put together, lead each node to what it holds by what has come to it.
pub record AreHeldThere (coord : CoordView) (segments : List SegmentView) : Type 0 where
  pub coordinator : coordinator_in coord.script (histories_of coord segments) ≡ coord_data coord
  pub count : length segments ≡ coord.script.segments
  pub each : (k : ℕ) (s : SegmentView) → slice_get segments k ≡ Some s → segment_in coord.script (histories_of coord segments) (record { 0 = k + 1 }) ≡ data_of s

-- THE LINKS
-- what was received is the beginning of what was sent, on each link
abbrev pub IsBegun : OutEnd → Inbox → Type 0
IsBegun out inbox = (held : List Envelope) × (out.sent ≡ inbox.source.received ++ held)

abbrev pub AreBegun : List OutEnd → List Inbox → Type 0
AreBegun outs inboxes = (k : ℕ) (out : OutEnd) (inbox : Inbox) → slice_get outs k ≡ Some out → slice_get inboxes k ≡ Some inbox → IsBegun out inbox

-- THE JOURNALS
-- what the journal of a node took, by its number
abbrev pub items_at : Script → List (List Step) → ℕ → List JournalItem
items_at script histories zero = coordinators_items script histories
items_at script histories (suc k) = segments_items script histories (record { 0 = suc k })

-- each journal holds the bytes of the items of its node's history
abbrev pub DoHoldItems : Script → List (List Step) → List Shelf → Type 0
DoHoldItems script histories shelves = (k : ℕ) (shelf : Shelf) → slice_get shelves k ≡ Some shelf → shelf.items ≡ map bytes_of_item (items_at script histories k)

-- how often the journals of all nodes had failed at first
abbrev pub firsts_of : CoordView → List SegmentView → List ℕ
firsts_of coord segments = coord.first ∷ map (λ s. s.first) segments

-- no node has more marks that tell that its journal failed than the count of its journal has risen from the first
abbrev pub AreFailuresFew : List Step → List ℕ → List Shelf → Type 0
AreFailuresFew steps firsts shelves =
    (node : Node) (first : ℕ) (shelf : Shelf) → slice_get firsts node.0 ≡ Some first → slice_get shelves node.0 ≡ Some shelf → failures_in node (marks_in steps) + first ≤ shelf.faults

-- no more marks of a node tell that its journal failed than the journal's count has risen from the first
abbrev pub AreFailuresCounted : CoordView → List SegmentView → Type 0
AreFailuresCounted coord segments =
    (coord.first + failures_in the_coordinator (marks_in coord.steps) ≤ coord.shelf.faults)
    × ((k : ℕ) (s : SegmentView) → slice_get segments k ≡ Some s → s.first + failures_in (record { 0 = k + 1 }) (marks_in s.steps) ≤ s.shelf.faults)
