-- A system run: it is ordered, its steps are those of the script's nodes, each node's steps alone follow its rule from the new
-- node on, and each event was admitted.
use Rattle.std.specs.Prelude.{◌≡◌, ◌⊎◌, ℕ, Bool, true, false, List, [], ◌∷◌, ◌++◌}
use Rattle.gx_ids.specs.declared.ids.Node.{Node}
use Rattle.gx_msg.specs.declared.message.Envelope.{Envelope}
use Rattle.gx_script.specs.declared.Script.{Script}
use Rattle.gx_store.specs.declared.event.Event.{Event}
use Rattle.gx_store.specs.declared.event.Event.TheVariants as event
use Rattle.gx_store.specs.declared.node.NodeEvent.{NodeEvent}
use Rattle.gx_store.specs.declared.node.NodeEvent.TheVariants as node
use Rattle.gx_store.specs.declared.run.Run.{Run}
use Rattle.gx_store.specs.declared.run.Step.{Step}
use Rattle.gx_store.specs.Journals.{is_same_node}
use Rattle.gx_store.specs.Messages.{IsSending}
use Rattle.gx_store.specs.Ordered.{AreOrdered, IsSegment}
use Rattle.gx_store.specs.Refusals.{the_coordinator}
use Rattle.gx_rules.specs.AtCoordinator.{coord_can, coord_rule}
use Rattle.gx_rules.specs.AtSegment.{seg_rule}
use Rattle.gx_rules.specs.Coordinators.{Coord, new_coordinator}
use Rattle.gx_rules.specs.Machine.{seg_can}
use Rattle.gx_rules.specs.Segments.{Seg, new_segment}

-- an envelope that was sent on a link in these steps, with the clock of the sender's step; no segment has restarted, so all are in their first incarnation
pub record IsPosted (steps : List Step) (from to : Node) (number : ℕ) (envelope : Envelope) : Type 0 where
  pub step : ℕ
  pub mark : ℕ
  pub sending : IsSending steps step mark from to number envelope.message
  pub counted : envelope.number ≡ number
  pub clock : envelope.clock ≡ sending.sender.stamp.clock
  pub incarnation : envelope.incarnation ≡ 1

-- what an event is at its node
abbrev pub IsHere : List Step → Event → NodeEvent → Type 0
IsHere steps (event.Receive from to number) (node.Deliver f envelope) = (f ≡ from) × IsPosted steps from to number envelope
IsHere steps (event.Resume n g) (node.Resume h) = h ≡ g
IsHere steps (event.Start s) (node.Start t) = t ≡ s
IsHere steps (event.End s) (node.End t) = t ≡ s
IsHere steps (event.Resend i g) (node.Resend j h) = (j ≡ i) × (h ≡ g)
IsHere steps event.Round node.Round = Unit {0}
IsHere steps _ _ = ⊥

-- one step of the coordinator, and of a segment, by its rule
pub record IsCoordStep (script : Script) (steps : List Step) (c : Coord) (step : Step) : Type 0 where
  pub here : NodeEvent
  pub fails : Bool
  pub is : IsHere steps step.event here
  pub admitted : coord_can script c here ≡ true
  pub marks : step.marks ≡ (coord_rule script c here fails).marks
  pub clock : step.stamp.clock ≡ (coord_rule script c here fails).coord.clock

pub record IsSegStep (script : Script) (steps : List Step) (s : Seg) (step : Step) : Type 0 where
  pub here : NodeEvent
  pub fails : Bool
  pub is : IsHere steps step.event here
  pub admitted : seg_can script s here ≡ true
  pub marks : step.marks ≡ (seg_rule script s here fails).marks
  pub clock : step.stamp.clock ≡ (seg_rule script s here fails).seg.clock

-- one of two, by a test
abbrev pub Either : Bool → Type 0 → Type 0 → Type 0
Either true here elsewhere = here
Either false here elsewhere = elsewhere

-- the steps of the coordinator among these follow its rule, behind the steps before
abbrev pub DoesCoordFollow : Script → Coord → List Step → List Step → Type 0
DoesCoordFollow script c before [] = Unit {0}
DoesCoordFollow script c before (s ∷ ss) =
    Either (is_same_node s.stamp.node the_coordinator)
    ((is : IsCoordStep script before c s) × DoesCoordFollow script (coord_rule script c is.here is.fails).coord (before ++ s ∷ []) ss)
    (DoesCoordFollow script c (before ++ s ∷ []) ss)

abbrev pub DoesSegFollow : Script → Seg → List Step → List Step → Type 0
DoesSegFollow script seg before [] = Unit {0}
DoesSegFollow script seg before (s ∷ ss) =
    Either (is_same_node s.stamp.node seg.node)
    ((is : IsSegStep script before seg s) × DoesSegFollow script (seg_rule script seg is.here is.fails).seg (before ++ s ∷ []) ss)
    (DoesSegFollow script seg (before ++ s ∷ []) ss)

-- the coordinator, or one of the script's segments
abbrev pub IsNode : Script → Node → Type 0
IsNode script node = (node ≡ the_coordinator) ⊎ IsSegment script node

-- the steps are those of the script's nodes
abbrev pub AreAtNodes : Script → List Step → Type 0
AreAtNodes script [] = Unit {0}
AreAtNodes script (s ∷ ss) = IsNode script s.stamp.node × AreAtNodes script ss

pub record IsSystemRun (script : Script) (run : Run) : Type 0 where
  pub ordered : AreOrdered script [] run.steps
  pub nodes : AreAtNodes script run.steps
  pub coordinator : DoesCoordFollow script new_coordinator [] run.steps
  pub segments : (node : Node) → IsSegment script node → DoesSegFollow script (new_segment node) [] run.steps
