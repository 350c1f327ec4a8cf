-- Where messages stand in a run, and that these are the messages that the machine has posted.
use Rattle.std.specs.Prelude.{◌≡◌, ◌≤◌, ◌⊎◌, ℕ, zero, suc, ◌+◌, if◌then◌else◌, List, [], ◌∷◌, length, slice_get, unwrap_or, Some, None}
use Rattle.std.specs.declared.option.Option.{Option}
use Rattle.gx_ids.specs.declared.ids.Node.{Node}
use Rattle.gx_msg.specs.declared.message.Envelope.{Envelope}
use Rattle.gx_store.specs.declared.mark.Mark.{Mark}
use Rattle.gx_store.specs.declared.mark.Mark.TheVariants.{Sent}
use Rattle.gx_store.specs.declared.run.Step.{Step}
use Rattle.gx_store.specs.Journals.{is_same_node}
use Rattle.gx_store.specs.Ordered.{sent_in}
use Rattle.gx_store.specs.Refusals.{the_coordinator}
use Rattle.gx_rules.specs.Machine.{Letter, found}
use Rattle.gx_world.specs.declared.letters.Letters.{Letters}
use Rattle.gx_world.specs.declared.letters.Place.{Place}

-- the places of a link's messages, in the order of their numbers
abbrev pub nth_link : List (List Place) → ℕ → List Place
nth_link links k = unwrap_or (slice_get links k) []

abbrev pub link_in : Letters → Node → Node → List Place
link_in letters from to =
    if is_same_node from the_coordinator then nth_link letters.to.items to.0 else (if is_same_node to the_coordinator then nth_link letters.from.items from.0 else [])

-- there is a place for each segment
pub record IsLong (segments : ℕ) (letters : Letters) : Type 0 where
  pub to : length letters.to.items ≡ segments + 1
  pub from : length letters.from.items ≡ segments + 1

-- a message goes from the coordinator to a segment, or from a segment to the coordinator
abbrev pub IsAddressed : ℕ → Node → Mark → Type 0
IsAddressed segments node (Sent to number message) =
    ((node ≡ the_coordinator) × (1 ≤ to.0) × (to.0 ≤ segments)) ⊎ ((1 ≤ node.0) × (node.0 ≤ segments) × (to ≡ the_coordinator))
IsAddressed segments node _ = Unit {0}

-- the places of the messages to a node among a step's marks
abbrev pub places_from : ℕ → ℕ → Node → List Mark → List Place
places_from step mark to [] = []
places_from step mark to (Sent t number message ∷ ms) =
    if is_same_node t to then record { step = step; mark = mark } ∷ places_from step (mark + 1) to ms else places_from step (mark + 1) to ms
places_from step mark to (_ ∷ ms) = places_from step (mark + 1) to ms

-- the message that a mark has sent, with the clock of its step
abbrev pub sent_by : ℕ → ℕ → Option Mark → Option Envelope
sent_by number clock (Some (Sent to n message)) = Some (record { number = number; clock = clock; incarnation = 1; message = message })
sent_by number clock _ = None

abbrev pub sent_in_step : ℕ → ℕ → Option Step → Option Envelope
sent_in_step number mark None = None
sent_in_step number mark (Some step) = sent_by number step.stamp.clock (slice_get step.marks mark)

abbrev pub stands_at : List Step → ℕ → Option Place → Option Envelope
stands_at steps number None = None
stands_at steps number (Some place) = sent_in_step number place.mark (slice_get steps place.step)

-- the place of a number's message, from 1
abbrev pub nth_place : List Place → ℕ → Option Place
nth_place places zero = None
nth_place places (suc n) = slice_get places n

-- the message of a number among those of a link
abbrev pub letter_at : List Step → List Place → ℕ → Option Envelope
letter_at steps places number = stands_at steps number (nth_place places number)

-- the links have the messages that were posted, as many as the steps have sent
pub record ArePosted (letters : Letters) (steps : List Step) (sent : List Letter) : Type 0 where
  pub count : (from to : Node) → length (link_in letters from to) ≡ sent_in from to steps
  pub is : (from to : Node) (number : ℕ) → letter_at steps (link_in letters from to) number ≡ found from to number sent
