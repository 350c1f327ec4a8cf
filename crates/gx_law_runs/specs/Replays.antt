-- What the nodes hold after a run, from the script and the steps alone: each node's rule over its own steps, in order, from
-- the new node on. Whether a journal failed is what the step's marks say.
use Rattle.std.specs.Prelude.{◌≡◌, ◌≤◌, ℕ, Bool, true, false, if◌then◌else◌, List, [], ◌∷◌, ◌++◌, Some, None}
use Rattle.std.specs.declared.option.Option.{Option}
use Rattle.gx_ids.specs.declared.ids.Node.{Node}
use Rattle.gx_script.specs.declared.Script.{Script}
use Rattle.gx_store.specs.declared.event.Event.{Event}
use Rattle.gx_store.specs.declared.mark.Mark.{Mark}
use Rattle.gx_store.specs.declared.mark.Mark.TheVariants.{JournalFailed}
use Rattle.gx_store.specs.declared.node.NodeEvent.{NodeEvent}
use Rattle.gx_store.specs.declared.run.Step.{Step}
use Rattle.gx_store.specs.Journals.{is_same_node}
use Rattle.gx_store.specs.Refusals.{the_coordinator}
use Rattle.gx_rules.specs.AtCoordinator.{coord_can, coord_rule}
use Rattle.gx_rules.specs.AtSegment.{seg_rule}
use Rattle.gx_rules.specs.Coordinators.{Coord, new_coordinator}
use Rattle.gx_rules.specs.Machine.{Letter, World, at_node, can, new_world, node_of, posted, seg_can}
use Rattle.gx_rules.specs.Segments.{Seg, new_segment}

-- a journal failed in these marks
abbrev pub has_failed : List Mark → Bool
has_failed [] = false
has_failed (JournalFailed node g ∷ ms) = true
has_failed (m ∷ ms) = has_failed ms

-- MESSAGES
-- what the steps have posted, on top of what was sent before
abbrev pub letters_from : List Letter → List Step → List Letter
letters_from sent [] = sent
letters_from sent (s ∷ ss) = letters_from (posted s.stamp.node s.stamp.clock s.marks sent) ss

abbrev pub letters_after : List Step → List Letter
letters_after steps = letters_from [] steps

-- what an event is at its node, behind these steps; a receipt names a message that they have posted
abbrev pub here_at : List Step → Event → Option NodeEvent
here_at steps e = at_node (record new_world { sent = letters_after steps }) e

-- THE COORDINATOR
abbrev pub coordinator_by : Script → Coord → Option NodeEvent → Bool → Coord
coordinator_by script c None fails = c
coordinator_by script c (Some here) fails = (coord_rule script c here fails).coord

-- after a step that stands behind those before; a segment's is passed over
abbrev pub coordinator_next : Script → List Step → Step → Coord → Coord
coordinator_next script before s c = if is_same_node s.stamp.node the_coordinator then coordinator_by script c (here_at before s.event) (has_failed s.marks) else c

abbrev pub coordinator_from : Script → Coord → List Step → List Step → Coord
coordinator_from script c before [] = c
coordinator_from script c before (s ∷ ss) = coordinator_from script (coordinator_next script before s c) (before ++ s ∷ []) ss

abbrev pub coordinator_after : Script → List Step → Coord
coordinator_after script steps = coordinator_from script new_coordinator [] steps

-- A SEGMENT
abbrev pub segment_by : Script → Seg → Option NodeEvent → Bool → Seg
segment_by script seg None fails = seg
segment_by script seg (Some here) fails = (seg_rule script seg here fails).seg

abbrev pub segment_next : Script → Node → List Step → Step → Seg → Seg
segment_next script node before s seg = if is_same_node s.stamp.node node then segment_by script seg (here_at before s.event) (has_failed s.marks) else seg

abbrev pub segment_from : Script → Node → Seg → List Step → List Step → Seg
segment_from script node seg before [] = seg
segment_from script node seg before (s ∷ ss) = segment_from script node (segment_next script node before s seg) (before ++ s ∷ []) ss

abbrev pub segment_after : Script → Node → List Step → Seg
segment_after script node steps = segment_from script node (new_segment node) [] steps

-- ALL NODES
-- what the machine's nodes hold is what these steps tell
pub record AreReplayed (script : Script) (steps : List Step) (w : World) : Type 0 where
  pub coordinator : w.coord ≡ coordinator_after script steps
  pub segments : (i : ℕ) → 1 ≤ i → w.segs i ≡ segment_after script (record { 0 = i }) steps
  pub sent : w.sent ≡ letters_after steps

-- the machine as these steps tell it
abbrev pub world_behind : Script → List Step → World
world_behind script steps = record { coord = coordinator_after script steps; segs = λ i. segment_after script (record { 0 = i }) steps; steps = steps; sent = letters_after steps }

-- WHAT MAY COME NEXT
-- what it admits
abbrev pub is_admitted : Script → List Step → Event → Bool
is_admitted script steps e = can script (world_behind script steps) e

-- a step of the coordinator behind these steps: an event that it admits, done by its rule on what it holds
pub record IsNextAtCoordinator (script : Script) (steps : List Step) (step : Step) : Type 0 where
  pub node : step.stamp.node ≡ the_coordinator
  pub at : node_of step.event ≡ the_coordinator
  pub here : NodeEvent
  pub fails : Bool
  pub is : here_at steps step.event ≡ Some here
  pub admitted : coord_can script (coordinator_after script steps) here ≡ true
  pub marks : step.marks ≡ (coord_rule script (coordinator_after script steps) here fails).marks
  pub clock : step.stamp.clock ≡ (coord_rule script (coordinator_after script steps) here fails).coord.clock

-- and one of a segment, likewise
pub record IsNextAtSegment (script : Script) (steps : List Step) (step : Step) : Type 0 where
  pub node : 1 ≤ step.stamp.node.0
  pub at : node_of step.event ≡ step.stamp.node
  pub here : NodeEvent
  pub fails : Bool
  pub is : here_at steps step.event ≡ Some here
  pub admitted : seg_can script (segment_after script step.stamp.node steps) here ≡ true
  pub marks : step.marks ≡ (seg_rule script (segment_after script step.stamp.node steps) here fails).marks
  pub clock : step.stamp.clock ≡ (seg_rule script (segment_after script step.stamp.node steps) here fails).seg.clock
