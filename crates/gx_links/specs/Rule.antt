-- The rule of a link's queue.
use Rattle.std.specs.Prelude.{◌≡◌, ◌≢◌, ℕ, ◌<◌, ◌≤◌, ◌^◌, ◌==◌, if◌then◌else◌, List, [], ◌++◌, length}
use mathlib.Core.Option.{some}
use lib.ListN.{get_elem?}
use Rattle.gx_msg.specs.declared.message.Envelope.{Envelope}
use Rattle.gx_links.specs.declared.roles.View.{View}
use Rattle.gx_links.specs.declared.roles.View.TheVariants.{First, Sender, Receiver, Closed, Spent}

-- what a link is: one pass that wasn't split, by its number; two ends, by their numbers, with what was sent and received; or
-- one that was both ends
pub data Stage : Type 0 where
  New : (first : ℕ) → Stage
  Open : (sender receiver : ℕ) (sent received : List Envelope) → Stage
  Shut : (closed : ℕ) (sent received : List Envelope) → Stage

-- what the pass of a number then knows
abbrev pub view_at : Stage → ℕ → View
view_at (New first) pass = if pass == first then First else Spent
view_at (Open sender receiver sent received) pass = if pass == sender then Sender sent else if pass == receiver then Receiver received else Spent
view_at (Shut closed sent received) pass = if pass == closed then Closed sent received else Spent

abbrev pub sent_in : Stage → List Envelope
sent_in (New first) = []
sent_in (Open sender receiver sent received) = sent
sent_in (Shut closed sent received) = sent

abbrev pub received_in : Stage → List Envelope
received_in (New first) = []
received_in (Open sender receiver sent received) = received
received_in (Shut closed sent received) = received

-- the passes are among so many, and the two ends are two
abbrev pub AreSeated : Stage → ℕ → Type 0
AreSeated (New first) passes = first < passes
AreSeated (Open sender receiver sent received) passes = (sender < passes) × (receiver < passes) × (sender ≢ receiver)
AreSeated (Shut closed sent received) passes = closed < passes

-- what was sent is what was received, and then what the queue holds
pub record IsLinked (held : List Envelope) (views : List View) : Type 0 where
  pub stage : Stage
  pub seated : AreSeated stage (length views)
  pub known : (pass : ℕ) (view : View) → get_elem? views pass ≡ some view → view ≡ view_at stage pass
  pub flows : sent_in stage ≡ received_in stage ++ held
  pub few : length (sent_in stage) ≤ 2 ^ 63
