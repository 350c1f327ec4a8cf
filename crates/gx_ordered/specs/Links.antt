-- When the messages of each link were sent.
use Rattle.std.specs.Prelude.{◌≡◌, ◌⊎◌, ℕ, ◌+◌, ◌<◌, ◌≤◌, if◌then◌else◌, List, [], ◌∷◌, ◌++◌, length, slice_get, unwrap_or, Some, All}
use Rattle.gx_ids.specs.declared.ids.Node.{Node}
use Rattle.gx_msg.specs.declared.message.Message.{Message}
use Rattle.gx_script.specs.declared.Script.{Script}
use Rattle.gx_store.specs.declared.mark.Mark.{Mark}
use Rattle.gx_store.specs.declared.mark.Mark.TheVariants.{Sent}
use Rattle.gx_store.specs.declared.run.Step.{Step}
use Rattle.gx_store.specs.Journals.{is_same_node}
use Rattle.gx_store.specs.Ordered.{IsAtNode, IsEventAt, clock_of}
use Rattle.gx_store.specs.Messages.{IsSending}
use Rattle.gx_store.specs.Refusals.{the_coordinator}
use Rattle.gx_ordered.specs.declared.progress.Progress.{Progress}

-- for each message that these marks send to a node, the clock of their step
abbrev pub clocks_in : ℕ → Node → List Mark → List ℕ
clocks_in clock to [] = []
clocks_in clock to (Sent t number told ∷ ms) = if is_same_node t to then clock ∷ clocks_in clock to ms else clocks_in clock to ms
clocks_in clock to (_ ∷ ms) = clocks_in clock to ms

-- for each message that steps of a node send to another, in order, the clock of its step
abbrev pub clocks_sent : Node → Node → List Step → List ℕ
clocks_sent from to [] = []
clocks_sent from to (s ∷ ss) = (if is_same_node s.stamp.node from then clocks_in s.stamp.clock to s.marks else []) ++ clocks_sent from to ss

-- those of a link, as they are kept
abbrev pub nth_link : List (List ℕ) → ℕ → List ℕ
nth_link links k = unwrap_or (slice_get links k) []

abbrev pub link_in : Progress → Node → Node → List ℕ
link_in progress from to =
    if is_same_node from the_coordinator then nth_link progress.to.items to.0 else (if is_same_node to the_coordinator then nth_link progress.from.items from.0 else [])

-- there is a place for each node
pub record IsLong (progress : Progress) : Type 0 where
  pub clocks : length progress.clocks.items ≡ 256
  pub to : length progress.to.items ≡ 256
  pub from : length progress.from.items ≡ 256

-- so far the steps have come
pub record IsProgress (steps : List Step) (progress : Progress) : Type 0 where
  pub long : IsLong progress
  pub clocks : (node : Node) → node.0 < 256 → slice_get progress.clocks.items node.0 ≡ Some (clock_of node steps)
  pub links : (from to : Node) → link_in progress from to ≡ clocks_sent from to steps

-- a message that the mark sends has the next number of its link, behind so many
abbrev pub HasNext : (Node → ℕ) → Mark → Type 0
HasNext sent (Sent to number told) = number ≡ sent to + 1
HasNext sent _ = Unit {0}

-- a message of this number was sent, before this clock
abbrev pub IsSentBefore : List ℕ → ℕ → ℕ → Type 0
IsSentBefore clocks number clock = (before : ℕ) × (number ≡ before + 1) × (sent : ℕ) × (slice_get clocks before ≡ Some sent) × (sent < clock)

-- a message of the link whose number is this and one, and the clock of the step that sent it
pub record IsSentAt (steps : List Step) (from to : Node) (before clock : ℕ) : Type 0 where
  pub step : ℕ
  pub mark : ℕ
  pub told : Message
  pub sending : IsSending steps step mark from to (before + 1) told
  pub clock_is : sending.sender.stamp.clock ≡ clock

-- each message stands at its number among those of its link, with the clock of its step, and each that stands there was sent
pub record AreFiled (steps : List Step) : Type 0 where
  pub sent : (from to : Node) (before clock : ℕ) → slice_get (clocks_sent from to steps) before ≡ Some clock → IsSentAt steps from to before clock
  pub stands : (from to : Node) (step mark number : ℕ) (told : Message) → (sending : IsSending steps step mark from to number told)
      → (before : ℕ) × (number ≡ before + 1) × (slice_get (clocks_sent from to steps) before ≡ Some sending.sender.stamp.clock)

-- the step may stand behind the steps, but for the numbers of its messages
pub record MayStand (script : Script) (steps : List Step) (step : Step) : Type 0 where
  pub rising : clock_of step.stamp.node steps < step.stamp.clock
  pub event : IsEventAt script steps step step.event
  pub marks : All (IsAtNode script step.stamp.node) step.marks

-- a message goes from the coordinator or to it, and not from it to itself
abbrev pub IsOnLink : Node → Node → Type 0
IsOnLink from to = ((from ≡ the_coordinator) × (1 ≤ to.0)) ⊎ ((1 ≤ from.0) × (to ≡ the_coordinator))

abbrev pub IsSentOnLink : Node → Mark → Type 0
IsSentOnLink node (Sent to number told) = IsOnLink node to
IsSentOnLink node _ = Unit {0}
