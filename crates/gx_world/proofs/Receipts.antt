-- A receipt is admitted where the message was sent.
use Rattle.std.proofs.Common.{◌≡◌, ℕ, Option, Some, None, Bool, true, false, refl, sym, ap, ◌∙◌, if◌then◌else◌, ◌&&◌, length}
use Rattle.std.specs.Prelude.{is_some, option_map}
use Rattle.gx_ids.specs.declared.ids.Node.{Node}
use Rattle.gx_msg.specs.declared.message.Envelope.{Envelope}
use Rattle.gx_script.specs.declared.Script.{Script}
use Rattle.gx_store.specs.declared.event.Event.TheVariants.{Receive}
use Rattle.gx_store.specs.Journals.{is_same_node}
use Rattle.gx_store.specs.Ordered.{sent_in}
use Rattle.gx_store.specs.Refusals.{the_coordinator}
use Rattle.gx_rules.specs.AtCoordinator.{is_segment}
use Rattle.gx_rules.specs.Machine.{can_here, delivered, found, world_of}
use Rattle.gx_world.specs.Links.{letter_at, link_in}
use Rattle.gx_law_runs.specs.Links.{is_number, message_of}
use Rattle.gx_store.specs.Schedule.{sent_message}
use Rattle.gx_law_runs.proofs.World.{world-letters}
use Rattle.gx_law_runs.specs.Replays.{AreReplayed, is_admitted, letters_after, world_behind}
use Rattle.gx_law_runs.proofs.Reaching.{replayed}
use Rattle.gx_world.specs.declared.network.Network.{Network}
use Rattle.gx_world.specs.Networks.{IsNetwork}

abbrev pub is_heard_by : Script → Node → Node → Bool
is_heard_by script from to = if is_same_node to the_coordinator then is_segment script from else true

module _ (network : Network) (is : IsNetwork network) (usable : network.spent ≡ false) (from to : Node) (number : ℕ) where
  abbrev script : Script
  script = network.script.value

  r : AreReplayed script network.run.steps (world_of script is.reached.events)
  r = replayed script network.run.steps is.reached

  -- the message at its place is the one that the steps have sent
  pub told : option_map (λ (x : Envelope). x.message) (letter_at network.run.steps (link_in network.letters from to) number) ≡ sent_message from to number network.run.steps
  told =
      ap message_of ((is.stands usable).letters.is from to number)
      ∙ ap (λ ls. message_of (found from to number ls)) (sym r.sent)
      ∙ sym (world-letters script is.language.some_segments is.reached.events from to number).message
      ∙ ap (sent_message from to number) is.reached.is

  was-sent : is_some (found from to number (letters_after network.run.steps)) ≡ is_number number (length (link_in network.letters from to))
  was-sent =
      ap (λ ls. is_some (found from to number ls)) (sym r.sent)
      ∙ (world-letters script is.language.some_segments is.reached.events from to number).counted
      ∙ ap (λ ss. is_number number (sent_in from to ss)) is.reached.is
      ∙ ap (is_number number) (sym ((is.stands usable).letters.count from to))

  pub receipt : is_admitted script network.run.steps (Receive from to number) ≡ (is_number number (length (link_in network.letters from to)) && is_heard_by script from to)
  receipt = by_found (found from to number (letters_after network.run.steps)) ∙ ap (λ b. b && is_heard_by script from to) was-sent
    where
      by_found : (o : Option Envelope) → can_here script (world_behind script network.run.steps) to (delivered from o) ≡ (is_some o && is_heard_by script from to)
      by_found None = refl
      by_found (Some x) = refl
