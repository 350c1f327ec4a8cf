-- Histories of all nodes that fit together, and the one run that they make.
use Rattle.std.specs.Prelude.{◌≡◌, ◌+◌, List, [], filter, flat_map, get_or, length, map}
use Rattle.std.specs.List.Sorted.{IsStrictlySortedBy}
use Rattle.std.specs.Ordering.{nat_cmp, ordering_then}
use Rattle.std.specs.declared.alloc.Global.{Global}
use Rattle.std.specs.declared.cmp.Ordering.{Ordering}
use Rattle.std.specs.declared.vec.Vec.{Vec}
use Rattle.gx_ids.specs.declared.ids.Node.{Node}
use Rattle.gx_ids.specs.declared.stamp.Stamp.{Stamp}
use Rattle.gx_msg.specs.declared.item.JournalItem.{JournalItem}
use Rattle.gx_script.specs.declared.Script.{Script}
use Rattle.gx_tree.specs.declared.row.KeyedRow.{KeyedRow}
use Rattle.gx_store.specs.declared.run.Step.{Step}
use Rattle.gx_store.specs.Journals.{is_same_node}
use Rattle.gx_store.specs.Ordered.{IsSegment}
use Rattle.gx_store.specs.Refusals.{the_coordinator}
use Rattle.gx_rules.specs.Coordinators.{Coord, new_coordinator}
use Rattle.gx_rules.specs.Machine.{World}
use Rattle.gx_rules.specs.Segments.{Seg, new_segment}
use Rattle.gx_law_order.specs.Lists.{Each}
use Rattle.gx_law_reads.specs.Sights.{AreRowsOfAll}
use Rattle.gx_law_merge.specs.Apart.{DoesFollow, Post, at_place, coordinators_rule, holds_after, segments_rule, sent_to, takes_in}

-- HISTORIES
-- the history of a node, among those of all nodes from 0 on; none of a node that isn't one of them
abbrev pub history_of : List (List Step) → Node → List Step
history_of histories node = get_or histories node.0 []

-- what all of them have sent
abbrev pub posted_in : List (List Step) → Post
posted_in histories from to place = at_place (sent_to to (history_of histories from)) place

-- There is a history for each node of the script, and each follows its node's rule from the new node on: it stands at its node, each
-- event was admitted, and each receipt takes what stands at its place among what the sender's history has sent.
pub record DoFit (script : Script) (histories : List (List Step)) : Type 0 where
  pub count : length histories ≡ script.segments + 1
  pub coordinator : DoesFollow (coordinators_rule script) the_coordinator (posted_in histories) new_coordinator (history_of histories the_coordinator)
  pub segments : (node : Node) → IsSegment script node → DoesFollow (segments_rule script) node (posted_in histories) (new_segment node) (history_of histories node)

-- THE MERGE
-- by clock, and those of one clock by node
abbrev pub stamp_order : Stamp → Stamp → Ordering
stamp_order a b = ordering_then (nat_cmp a.clock b.clock) (nat_cmp a.node.0 b.node.0)

-- a node's own steps, in order
abbrev pub own_steps : Node → List Step → List Step
own_steps node steps = filter (λ s. is_same_node s.stamp.node node) steps

-- the steps rise by their stamps
abbrev pub AreRising : List Step → Type 0
AreRising steps = IsStrictlySortedBy stamp_order (map (λ s. s.stamp) steps)

-- the steps rise, and those of each node are its history
pub record IsMergeOf (histories : List (List Step)) (steps : List Step) : Type 0 where
  pub rising : AreRising steps
  pub own : (node : Node) → own_steps node steps ≡ history_of histories node

-- the steps of each history stand at its node and rise
pub record AreApart (histories : List (List Step)) : Type 0 where
  pub here : (node : Node) → Each (λ s. s.stamp.node ≡ node) (history_of histories node)
  pub rising : (node : Node) → AreRising (history_of histories node)

-- WHAT THE NODES HOLD AT THE ENDS OF THEIR HISTORIES
abbrev pub coordinator_in : Script → List (List Step) → Coord
coordinator_in script histories = holds_after (coordinators_rule script) (posted_in histories) new_coordinator (history_of histories the_coordinator)

abbrev pub segment_in : Script → List (List Step) → Node → Seg
segment_in script histories node = holds_after (segments_rule script) (posted_in histories) (new_segment node) (history_of histories node)

-- what their journals took
abbrev pub coordinators_items : Script → List (List Step) → List JournalItem
coordinators_items script histories = takes_in (coordinators_rule script) (posted_in histories) new_coordinator (history_of histories the_coordinator)

abbrev pub segments_items : Script → List (List Step) → Node → List JournalItem
segments_items script histories node = takes_in (segments_rule script) (posted_in histories) (new_segment node) (history_of histories node)

-- all of it, with the steps node by node
abbrev pub world_apart : Script → List (List Step) → World
world_apart script histories =
    record { coord = coordinator_in script histories; segs = λ i. segment_in script histories (record { 0 = i }); steps = flat_map (λ history. history) histories; sent = [] }

-- The tables that they show: for each the rows, by their identities, that the segments show to the snapshot that the coordinator
-- would take now.
abbrev pub AreShown : Script → List (List Step) → List (Vec KeyedRow Global) → Type 0
AreShown script histories tables = AreRowsOfAll 0 (world_apart script histories) tables
