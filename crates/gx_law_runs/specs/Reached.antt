-- The runs that the machine reaches, and what holds after them.
use Rattle.std.specs.Prelude.{◌≡◌, ◌≤◌, ℕ, ◌+◌, ◌*◌, List, length, Some}
use Rattle.gx_ids.specs.declared.ids.Node.{Node}
use Rattle.gx_msg.specs.declared.message.Envelope.{Envelope}
use Rattle.gx_script.specs.declared.Script.{Script}
use Rattle.gx_store.specs.declared.run.Step.{Step}
use Rattle.gx_law_order.specs.Runs.{IsOfMachine}
use Rattle.gx_rules.specs.Machine.{found}
use Rattle.gx_law_runs.specs.Replays.{coordinator_after, letters_after, segment_after}

-- some events lead the machine through these steps
abbrev pub IsReached : Script → List Step → Type 0
IsReached script steps = IsOfMachine script (record { steps = steps })

-- no clock, no number of a message and no gxid is above what the number of steps allows
pub record HasRoomAfter (script : Script) (steps : List Step) : Type 0 where
  pub clock : (coordinator_after script steps).clock ≤ length steps
  pub clocks : (i : ℕ) → 1 ≤ i → (segment_after script (record { 0 = i }) steps).clock ≤ length steps
  pub heard : (from to : Node) (number : ℕ) (envelope : Envelope) → found from to number (letters_after steps) ≡ Some envelope → envelope.clock ≤ length steps
  pub next : (coordinator_after script steps).table.next.0 ≤ length steps + 1
  pub sent : (i : ℕ) → (coordinator_after script steps).sent i ≤ 64 * length steps
  pub answered : (i : ℕ) → 1 ≤ i → (segment_after script (record { 0 = i }) steps).sent ≤ length steps
