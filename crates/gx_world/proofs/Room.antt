-- What numbers the nodes hold after so many steps.
use Rattle.std.proofs.Common.{◌≡◌, ◌≤◌, ◌<◌, ◌^◌, ℕ, ◌+◌, ◌*◌, ◌∙◌, Bool, filter, get_or, not, List, ap, arith, length, refl, subst, sym}
use Rattle.std.proofs.lemmas.List.Elements.{All-from_get_or}
use Rattle.std.proofs.lemmas.List.Filters.{length-filter_both}
use Rattle.gx_script.specs.declared.Script.{Script}
use Rattle.gx_store.specs.declared.run.Step.{Step}
use Rattle.gx_store.specs.Schedule.{is_round, round_count}
use Rattle.gx_rules.specs.Coordinators as rule
use Rattle.gx_law_locks.proofs.RoundsInRuns.{world-rounded}
use Rattle.gx_law_runs.specs.Reached.{HasRoomAfter, IsReached}
use Rattle.gx_law_runs.specs.Replays.{coordinator_after, world_behind}
use Rattle.gx_law_runs.proofs.Reaching.{replayed}
use Rattle.gx_world.specs.declared.network.Network.{Network}
use Rattle.gx_world.specs.Networks.{HasRoom, Stands}
use Rattle.gx_world.proofs.Journals.{read-at}

pub below : {a b n : ℕ} → a ≡ b → b ≤ n → n < 2 ^ 40 → a < 2 ^ 62
below e h few = omega (arith, e, h, few)

-- of 64 messages a step
pub sent-below : {a b n : ℕ} → a ≡ b → b ≤ 64 * n → n < 2 ^ 40 → a < 2 ^ 62
sent-below e h few = omega (arith, e, h, few)

pub next-below : {a b n : ℕ} → a ≡ b → b ≤ n + 1 → n < 2 ^ 40 → a < 2 ^ 62
next-below e h few = omega (arith, e, h, few)

positive : (k : ℕ) → 1 ≤ k + 1
positive k = omega arith

-- each round begins in a step of its own
pub few-rounds : (script : Script) (steps : List Step) → 1 ≤ script.segments → IsReached script steps → (coordinator_after script steps).rounds ≤ length steps
few-rounds script steps some is =
    subst (λ n. n ≤ length steps) (sym counted) (fewer (λ (s : Step). is_round s.event) steps)
  where
    fewer : (p : Step → Bool) (ss : List Step) → length (filter p ss) ≤ length ss
    fewer p ss = omega (arith, length-filter_both p (λ s. not (p s)) (λ s. refl) ss)

    counted : (coordinator_after script steps).rounds ≡ round_count steps
    counted = ap (λ (c : rule.Coord). c.rounds) (sym (replayed script steps is).coordinator) ∙ (world-rounded script some is.events).coord.rounds ∙ ap round_count is.is

pub network-room : (script : Script) (steps : List Step) (old : Network) → Stands script (world_behind script steps) old → HasRoomAfter script steps → (coordinator_after script steps).rounds ≤ length steps → length steps < 2 ^ 40 → HasRoom old
network-room script steps old stands room begun few =
    record {
      clock = below stands.coord.clock room.clock few;
      sent = All-from_get_or (λ n. n < 2 ^ 62) old.coord.sent.items 0 (λ i inside. sent-below (ap (λ (c : rule.Coord). c.sent i) stands.coord.holds) (room.sent i) few);
      rounds = below (ap (λ (c : rule.Coord). c.rounds) stands.coord.holds) begun few;
      next = next-below (ap (λ t. t.next.0) stands.coord.table) room.next few;
      segments = λ k d inside.
          let at = stands.segments k (get_or old.segments.items k d) (read-at old.segments.items k d inside) in
          (below at.is.clock (room.clocks (k + 1) (positive k)) few, below at.is.sent (room.answered (k + 1) (positive k)) few);
    }
