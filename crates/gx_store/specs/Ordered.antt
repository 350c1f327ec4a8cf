-- Runs in which marks stand at their nodes, messages are numbered and arrive after they were sent, and clocks rise.
use Rattle.std.specs.Prelude.{◌≡◌, ◌⊎◌, ℕ, ◌+◌, ◌<◌, ◌≤◌, ◌==◌, if◌then◌else◌, ◌&&◌, List, [], ◌∷◌, ◌++◌, slice_get, Some, All}
use Rattle.gx_ids.specs.declared.ids.Node.{Node}
use Rattle.gx_msg.specs.declared.message.Message.{Message}
use Rattle.gx_script.specs.declared.Script.{Script}
use Rattle.gx_store.specs.declared.event.Event.{Event}
use Rattle.gx_store.specs.declared.event.Event.TheVariants as event
use Rattle.gx_store.specs.declared.mark.Mark.{Mark}
use Rattle.gx_store.specs.declared.mark.Mark.TheVariants as mark
use Rattle.gx_store.specs.declared.run.Step.{Step}
use Rattle.gx_store.specs.Journals.{is_same_node}
use Rattle.gx_store.specs.Messages.{IsSending}
use Rattle.gx_store.specs.Refusals.{the_coordinator}

abbrev pub IsSegment : Script → Node → Type 0
IsSegment script node = (1 ≤ node.0) × (node.0 ≤ script.segments)

-- a message goes from the coordinator to a segment, or from a segment to the coordinator
abbrev pub IsLink : Script → Node → Node → Type 0
IsLink script from to = ((from ≡ the_coordinator) × IsSegment script to) ⊎ (IsSegment script from × (to ≡ the_coordinator))

-- a mark stands in a step of its node
abbrev pub IsAtNode : Script → Node → Mark → Type 0
IsAtNode script node (mark.Write g c n table rid image) = (n ≡ node) × IsSegment script node
IsAtNode script node (mark.Hold n g object mode) = n ≡ node
IsAtNode script node (mark.Wait n g object mode) = n ≡ node
IsAtNode script node (mark.Release n g object mode) = n ≡ node
IsAtNode script node (mark.Prepared n g) = (n ≡ node) × IsSegment script node
IsAtNode script node (mark.LocalCommit n g) = (n ≡ node) × IsSegment script node
IsAtNode script node (mark.Restart n) = (n ≡ node) × IsSegment script node
IsAtNode script node (mark.JournalFailed n g) = n ≡ node
IsAtNode script node (mark.Report n round graph) = n ≡ node
IsAtNode script node (mark.Sent to number told) = IsLink script node to
IsAtNode script node (mark.Skip g c rid) = IsSegment script node
IsAtNode script node (mark.Fault g c rid image) = Unit {0}
IsAtNode script node (mark.Start g session) = node ≡ the_coordinator
IsAtNode script node (mark.Snap g c snapshot) = node ≡ the_coordinator
IsAtNode script node (mark.Commit g) = node ≡ the_coordinator
IsAtNode script node (mark.Abort g) = node ≡ the_coordinator
IsAtNode script node (mark.Answer session number answer) = node ≡ the_coordinator
IsAtNode script node (mark.Decided g) = node ≡ the_coordinator
IsAtNode script node (mark.Recheck round own verdict) = node ≡ the_coordinator

-- how many messages the marks of a node have sent to another
abbrev pub sent_count : Node → List Mark → ℕ
sent_count to [] = 0
sent_count to (mark.Sent t number told ∷ ms) = if is_same_node t to then sent_count to ms + 1 else sent_count to ms
sent_count to (_ ∷ ms) = sent_count to ms

abbrev pub sent_in : Node → Node → List Step → ℕ
sent_in from to [] = 0
sent_in from to (s ∷ ss) = if is_same_node s.stamp.node from then sent_count to s.marks + sent_in from to ss else sent_in from to ss

-- a message has the next number of its link
abbrev pub AreNumbered : Node → List Step → List Mark → List Mark → Type 0
AreNumbered node steps earlier [] = Unit {0}
AreNumbered node steps earlier (mark.Sent to number told ∷ ms) =
    (number ≡ sent_in node to steps + sent_count to earlier + 1) × AreNumbered node steps (earlier ++ mark.Sent to number told ∷ []) ms
AreNumbered node steps earlier (m ∷ ms) = AreNumbered node steps (earlier ++ m ∷ []) ms

-- the step receives a message that was sent in an earlier step, whose clock is below this one's
pub record IsDelivery (script : Script) (steps : List Step) (clock : ℕ) (from to : Node) (number : ℕ) : Type 0 where
  pub link : IsLink script from to
  pub told : Message
  pub at : ℕ
  pub place : ℕ
  pub sending : IsSending steps at place from to number told
  pub later : (sender : Step) → slice_get steps at ≡ Some sender → sender.stamp.clock < clock

-- an event happens at its node
abbrev pub IsEventAt : Script → List Step → Step → Event → Type 0
IsEventAt script steps step (event.Receive from to number) = (step.stamp.node ≡ to) × IsDelivery script steps step.stamp.clock from to number
IsEventAt script steps step (event.Resume node g) = step.stamp.node ≡ node
IsEventAt script steps step (event.Start session) = step.stamp.node ≡ the_coordinator
IsEventAt script steps step (event.End session) = step.stamp.node ≡ the_coordinator
IsEventAt script steps step (event.Resend segment g) = step.stamp.node ≡ the_coordinator
IsEventAt script steps step event.Round = step.stamp.node ≡ the_coordinator
IsEventAt script steps step (event.Restart segment) = step.stamp.node ≡ segment

-- the clock of a node's last step, or 0
abbrev pub clock_of : Node → List Step → ℕ
clock_of node [] = 0
clock_of node (s ∷ ss) = latest (clock_of node ss)
  where
    latest : ℕ → ℕ
    latest later = if is_same_node s.stamp.node node && (later == 0) then s.stamp.clock else later

pub record IsOrderedStep (script : Script) (steps : List Step) (step : Step) : Type 0 where
  pub rising : clock_of step.stamp.node steps < step.stamp.clock
  pub event : IsEventAt script steps step step.event
  pub marks : All (IsAtNode script step.stamp.node) step.marks
  pub numbers : AreNumbered step.stamp.node steps [] step.marks

-- each of the steps may follow those before it
abbrev pub AreOrdered : Script → List Step → List Step → Type 0
AreOrdered script before [] = Unit {0}
AreOrdered script before (s ∷ ss) = IsOrderedStep script before s × AreOrdered script (before ++ s ∷ []) ss
