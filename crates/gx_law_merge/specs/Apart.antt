-- A node apart: what its own history tells of it, with the envelopes that came to it, and when that history follows the node's rule.
use Rattle.std.specs.Prelude.{◌≡◌, ℕ, zero, suc, Bool, true, if◌then◌else◌, List, [], ◌∷◌, ◌++◌, slice_get, Some, None}
use Rattle.std.specs.declared.option.Option.{Option}
use Rattle.gx_ids.specs.declared.ids.Node.{Node}
use Rattle.gx_msg.specs.declared.item.JournalItem.{JournalItem}
use Rattle.gx_msg.specs.declared.message.Envelope.{Envelope}
use Rattle.gx_msg.specs.declared.message.Message.{Message}
use Rattle.gx_script.specs.declared.Script.{Script}
use Rattle.gx_store.specs.declared.event.Event.{Event}
use Rattle.gx_store.specs.declared.event.Event.TheVariants as event
use Rattle.gx_store.specs.declared.mark.Mark.{Mark}
use Rattle.gx_store.specs.declared.mark.Mark.TheVariants.{Sent}
use Rattle.gx_store.specs.declared.node.NodeEvent.{NodeEvent}
use Rattle.gx_store.specs.declared.node.NodeEvent.TheVariants as node
use Rattle.gx_store.specs.declared.run.Step.{Step}
use Rattle.gx_store.specs.Journals.{is_same_node}
use Rattle.gx_rules.specs.AtCoordinator.{coord_can, coord_rule}
use Rattle.gx_rules.specs.AtSegment.{seg_rule}
use Rattle.gx_rules.specs.Coordinators.{Coord}
use Rattle.gx_rules.specs.Machine.{delivered, kept_item, node_of, seg_can}
use Rattle.gx_rules.specs.Segments.{Seg}
use Rattle.gx_law_runs.specs.Replays.{has_failed}

-- MESSAGES
-- the envelope of a message that a step of this clock has sent
abbrev pub envelope_of : ℕ → ℕ → Message → Envelope
envelope_of clock number message = record { number = number; clock = clock; incarnation = 1; message = message }

-- what the marks of a step have sent to a node, in order
abbrev pub sent_in_step : Node → ℕ → List Mark → List Envelope
sent_in_step to clock [] = []
sent_in_step to clock (Sent t number message ∷ ms) =
    if is_same_node t to then envelope_of clock number message ∷ sent_in_step to clock ms else sent_in_step to clock ms
sent_in_step to clock (_ ∷ ms) = sent_in_step to clock ms

-- and what a node's steps have
abbrev pub sent_to : Node → List Step → List Envelope
sent_to to [] = []
sent_to to (s ∷ ss) = sent_in_step to s.stamp.clock s.marks ++ sent_to to ss

-- The envelope at each place of each link, from 1 on. A receiver counts what comes and doesn't know the sender's numbers.
abbrev pub Post : Type 0
Post = Node → Node → ℕ → Option Envelope

abbrev pub at_place : List Envelope → ℕ → Option Envelope
at_place envelopes zero = None
at_place envelopes (suc place) = slice_get envelopes place

-- a post in which the same stands, and more
abbrev pub HasMore : Post → Post → Type 0
HasMore post more = (from to : Node) (place : ℕ) (e : Envelope) → post from to place ≡ Some e → more from to place ≡ Some e

-- what an event is at its node: a receipt takes the envelope at its place
abbrev pub event_in : Post → Event → Option NodeEvent
event_in post (event.Receive from to place) = delivered from (post from to place)
event_in post (event.Resume n g) = Some (node.Resume g)
event_in post (event.Start s) = Some (node.Start s)
event_in post (event.End s) = Some (node.End s)
event_in post (event.Resend i g) = Some (node.Resend i g)
event_in post event.Round = Some node.Round
event_in post (event.Restart n) = None

-- and what a step is
abbrev pub here_in : Post → Step → Option NodeEvent
here_in post s = event_in post s.event

-- A NODE'S RULE
-- of a node that holds such data: what it admits, and what it does, by whether its journal fails to take an item
pub record Turn (Data : Type 0) : Type 0 where
  pub held : Data
  pub clock : ℕ
  pub marks : List Mark
  pub item : Option JournalItem

pub record Rule (Data : Type 0) : Type 0 where
  pub admits : Data → NodeEvent → Bool
  pub turn : Data → NodeEvent → Bool → Turn Data

abbrev pub coordinators_rule : Script → Rule Coord
coordinators_rule script =
    record {
      admits = coord_can script;
      turn = λ c here fails. let t = coord_rule script c here fails in record { held = t.coord; clock = t.coord.clock; marks = t.marks; item = t.item };
    }

abbrev pub segments_rule : Script → Rule Seg
segments_rule script =
    record {
      admits = seg_can script;
      turn = λ s here fails. let t = seg_rule script s here fails in record { held = t.seg; clock = t.seg.clock; marks = t.marks; item = t.item };
    }

-- A HISTORY
-- a step of a node by its rule on what it holds
pub record IsTurn {Data : Type 0} (rule : Rule Data) (at : Node) (held : Data) (event : Option NodeEvent) (step : Step) : Type 0 where
  pub node : step.stamp.node ≡ at
  pub place : node_of step.event ≡ at
  pub here : NodeEvent
  pub fails : Bool
  pub is : event ≡ Some here
  pub admitted : rule.admits held here ≡ true
  pub marks : step.marks ≡ (rule.turn held here fails).marks
  pub clock : step.stamp.clock ≡ (rule.turn held here fails).clock

-- What a node holds behind a step, and what its journal took in it; whether that failed is what the step's marks say.
abbrev pub holds_by : {Data : Type 0} → Rule Data → Data → Option NodeEvent → Bool → Data
holds_by rule held None fails = held
holds_by rule held (Some here) fails = (rule.turn held here fails).held

abbrev pub takes_by : {Data : Type 0} → Rule Data → Data → Option NodeEvent → Bool → List JournalItem
takes_by rule held None fails = []
takes_by rule held (Some here) fails = kept_item fails (rule.turn held here fails).item

-- what it holds behind its steps
abbrev pub holds_after : {Data : Type 0} → Rule Data → Post → Data → List Step → Data
holds_after rule post held [] = held
holds_after rule post held (s ∷ ss) = holds_after rule post (holds_by rule held (here_in post s) (has_failed s.marks)) ss

-- what its journal took in them
abbrev pub takes_in : {Data : Type 0} → Rule Data → Post → Data → List Step → List JournalItem
takes_in rule post held [] = []
takes_in rule post held (s ∷ ss) =
    takes_by rule held (here_in post s) (has_failed s.marks) ++ takes_in rule post (holds_by rule held (here_in post s) (has_failed s.marks)) ss

-- its steps follow its rule
abbrev pub DoesFollow : {Data : Type 0} → Rule Data → Node → Post → Data → List Step → Type 0
DoesFollow rule at post held [] = Unit {0}
DoesFollow rule at post held (s ∷ ss) =
    IsTurn rule at held (here_in post s) s × DoesFollow rule at post (holds_by rule held (here_in post s) (has_failed s.marks)) ss

-- by another post they do so too, and come to the same
pub record IsSameBy {Data : Type 0} (rule : Rule Data) (at : Node) (post other : Post) (held : Data) (steps : List Step) : Type 0 where
  pub follows : DoesFollow rule at other held steps
  pub holds : holds_after rule other held steps ≡ holds_after rule post held steps
  pub takes : takes_in rule other held steps ≡ takes_in rule post held steps
