-- Which messages were sent, and which one a step receives.
use Rattle.std.specs.Prelude.{◌≡◌, ◌⊎◌, ℕ, List, ◌++◌, take, drop, slice_get, length, Some}
use Rattle.gx_ids.specs.declared.ids.Node.{Node}
use Rattle.gx_msg.specs.declared.message.Message.{Message}
use Rattle.gx_store.specs.declared.event.Event.{Event}
use Rattle.gx_store.specs.declared.event.Event.TheVariants as event
use Rattle.gx_store.specs.declared.mark.Mark.{Mark}
use Rattle.gx_store.specs.declared.mark.Mark.TheVariants.{Sent}
use Rattle.gx_store.specs.declared.run.Step.{Step}
use Rattle.gx_store.specs.Points.{Point, marks_in}

-- the mark at this place of the step of this number is the sending of a message by a node
pub record IsSending (steps : List Step) (step : ℕ) (mark : ℕ) (from to : Node) (number : ℕ) (message : Message) : Type 0 where
  pub sender : Step
  pub at : slice_get steps step ≡ Some sender
  pub node : sender.stamp.node ≡ from
  pub sent : slice_get sender.marks mark ≡ Some (Sent to number message)

-- the message of this number on the link between two nodes
pub record IsSent (steps : List Step) (from to : Node) (number : ℕ) (message : Message) : Type 0 where
  pub step : ℕ
  pub mark : ℕ
  pub sending : IsSending steps step mark from to number message

-- the event is the delivery of this message
pub record Receives (steps : List Step) (delivery : Event) (from to : Node) (message : Message) : Type 0 where
  pub number : ℕ
  pub is : delivery ≡ event.Receive from to number
  pub sent : IsSent steps from to number message

-- the step of this number, or the point's own step, is that delivery
abbrev pub ReceivesAt : Point → ℕ → Node → Node → Message → Type 0
ReceivesAt point k from to told =
    ((step : Step) × (slice_get point.steps k ≡ Some step) × Receives (take k point.steps) step.event from to told)
    ⊎ ((k ≡ length point.steps) × Receives point.steps point.event from to told)

abbrev pub HasReceived : Point → Node → Node → Message → Type 0
HasReceived point from to told = (k : ℕ) × ReceivesAt point k from to told

-- the marks before a place of the step of a number
abbrev pub marks_before : List Step → ℕ → ℕ → List Mark
marks_before steps step mark = marks_in (take step steps) ++ take mark (marks_in (take 1 (drop step steps)))
