-- An event that its own run admits is done by a network.
use Rattle.std.proofs.Common.{◌≡◌, ◌<◌, ◌≤◌, ◌^◌, List, [], ◌∷◌, ◌++◌, Some, Bool, true, false, refl, sym, subst, ap, ◌∙◌, length, cond, arith}
use Rattle.std.specs.Prelude.{◌&&◌}
use Rattle.gx_lemmas.proofs.Lists.{length-set}
use Rattle.gx_ids.specs.declared.ids.Node.{Node}
use Rattle.gx_outside.specs.Shelves.{Shelf}
use Rattle.gx_script.specs.declared.Script.{Script}
use Rattle.gx_store.specs.Language.{IsScript}
use Rattle.gx_store.specs.Journals.{is_same_node}
use Rattle.gx_store.specs.declared.event.Event.{Event}
use Rattle.gx_store.specs.declared.node.NodeEvent.{NodeEvent}
use Rattle.gx_store.specs.declared.run.Run.{Run}
use Rattle.gx_store.specs.declared.run.Step.{Step}
use Rattle.gx_rules.specs.Machine as machine
use Rattle.gx_rules.specs.Machine.{at_node, can, can_here, does, happens, new_world, node_of, world_of}
use Rattle.gx_rules.specs.Sending.{heard_in}
use Rattle.gx_law_order.proofs.Ordered.{Well, world_well}
use Rattle.gx_law_runs.specs.Failures.{failures_in}
use Rattle.gx_law_runs.specs.Reached.{HasRoomAfter, IsReached}
use Rattle.gx_law_runs.specs.Replays.{AreReplayed, here_at, is_admitted, letters_after, world_behind}
use Rattle.gx_law_runs.proofs.Leading.{after-last}
use Rattle.gx_law_runs.proofs.Steps.{behind-few}
use Rattle.gx_law_runs.proofs.Reaching.{by-events, event-reached, replayed, room-after}
use Rattle.gx_law_runs.proofs.Replaying.{at-here, world-replayed}
use Rattle.gx_law_runs.proofs.Telling.{can-told}
use Rattle.gx_world.specs.declared.network.Network.{Network}
use Rattle.gx_world.specs.Networks.{HasDone, HasMoved, HasRoom, IsNetwork, Stands}
use Rattle.gx_world.specs.Turns.{IsFit, IsNext}
use Rattle.gx_world.specs.Worlds.{HasTaken}
use Rattle.gx_world.proofs.Alike.{AreAlike, does-alike, does-steps, replayed-alike, stands-alike, step-event, step_of, turned-round}
use Rattle.gx_world.proofs.Events.{admitted-here, few-here, happens-here, heard-within, next-here, taken}
use Rattle.gx_world.proofs.Room.{below, few-rounds, network-room}

-- where the machine stands is told by the network's own run
own-run : (script : Script) (steps : List Step) (new : Network) → script ≡ new.script.value → steps ≡ new.run.steps → Stands script (world_behind script steps) new → Stands new.script.value (world_behind new.script.value new.run.steps) new
own-run script steps new of same s = subst (λ x. Stands x (world_behind x new.run.steps) new) of (subst (λ ss. Stands script (world_behind script ss) new) same s)

of-events : (script : Script) (events : List (Event × Bool)) (new : Network) → Stands script (world_of script events) new → Stands new.script.value (world_behind new.script.value new.run.steps) new
of-events script events new s =
    own-run script (world_of script events).steps new (sym s.of) (ap (λ (r : Run). r.steps) (sym s.run))
    (stands-alike script (world_of script events) _ new (replayed-alike script (world_of script events).steps (world_of script events) (world-replayed script events) refl) s)

pub room-of : (script : Script) (steps : List Step) → 1 ≤ script.segments → IsReached script steps → HasRoomAfter script steps
room-of script steps some is = by-events script steps is (HasRoomAfter script) (room-after script some)

module _ (script : Script) (steps : List Step) (some : 1 ≤ script.segments) (is : IsReached script steps) where
  abbrev v : machine.World
  v = world_behind script steps

  abbrev w : machine.World
  w = world_of script is.events

  r : AreReplayed script steps w
  r = replayed script steps is

  alike : AreAlike w v
  alike = replayed-alike script steps w r is.is

  good : Well script w
  good = world_well script some is.events

  module _ (e : Event) (here : NodeEvent) (there : at_node v e ≡ Some here) (admitted : can script v e ≡ true) where
    there-w : at_node w e ≡ Some here
    there-w = at-here w e (r.sent ∙ ap letters_after (sym is.is)) ∙ ap (λ ss. here_at ss e) is.is ∙ sym (at-here v e refl) ∙ there

    admitted-w : can script w e ≡ true
    admitted-w = can-told script steps w r is.is e ∙ admitted

    few : (node_of e).0 ≤ script.segments
    few = few-here script some w good e here there-w admitted-w

    next : IsNext script v e (node_of e) here
    next fails step eq =
        let f = next-here script some w good e here there-w admitted-w fails step ((does-alike script w v alike e (node_of e) fails here).steps ∙ eq ∙ ap (λ ss. ss ++ step ∷ []) (sym is.is)) in
        subst (λ ss. IsFit script ss step.stamp.node step.marks) is.is (record { at = f.at; numbers = f.numbers })

    -- what the event makes of it
    stands-after : (new : Network) (fails : Bool) → Stands script (does script v e (node_of e) fails (Some here)) new → Stands new.script.value (world_behind new.script.value new.run.steps) new
    stands-after new fails s =
        of-events script (is.events ++ (e, fails) ∷ []) new
        (subst (λ x. Stands script x new) (sym (after-last script new_world is.events (e, fails) ∙ happens-here script w e here there-w admitted-w fails))
        (stands-alike script _ _ new (does-alike script v w (turned-round w v alike) e (node_of e) fails here) s))

    reached-after : (new : Network) (fails : Bool) → Stands script (does script v e (node_of e) fails (Some here)) new → IsReached new.script.value new.run.steps
    reached-after new fails s =
        subst (λ x. IsReached x new.run.steps) (sym s.of)
        (subst (IsReached script) (ap (λ (x : machine.World). x.steps) (happens-here script v e here there admitted fails) ∙ ap (λ (x : Run). x.steps) (sym s.run)) (event-reached script steps is e fails))

-- a failure is told only where the count rose
rose : (script : Script) (steps : List Step) → 1 ≤ script.segments → IsReached script steps → (event : Event) (fails : Bool) (step : Step) (node : Node) (b a : Shelf) → (happens script (world_behind script steps) event fails).steps ≡ steps ++ step ∷ []
    → HasTaken script (world_behind script steps) event fails node b a → 0 < failures_in node step.marks → b.faults < a.faults
rose script steps some reached event fails step node b a leads taken told = by (is_same_node (node_of event) node) fails refl refl (behind-few script steps event fails step node some reached leads)
  where
    by : (x y : Bool) → is_same_node (node_of event) node ≡ x → fails ≡ y → failures_in node step.marks ≤ cond (x && y) 1 0 → b.faults < a.faults
    by true true same f bound = taken.caused same f
    by true false same f bound = absurd (omega (arith, told, bound))
    by false y same f bound = absurd (omega (arith, told, bound))

module _ (old : Network) (is : IsNetwork old) (usable : old.spent ≡ false) (e : Event) (here : NodeEvent) (there : at_node (world_behind old.script.value old.run.steps) e ≡ Some here) (admitted : is_admitted old.script.value old.run.steps e ≡ true) (at : Node) (same : at ≡ node_of e) where
  abbrev now : machine.World
  now = world_behind old.script.value old.run.steps

  pub few-at : at.0 ≤ old.script.value.segments
  few-at = subst (λ (n : Node). n.0 ≤ old.script.value.segments) (sym same) (few old.script.value old.run.steps is.language.some_segments is.reached e here there admitted)

  pub admitted-at : can_here old.script.value now at (Some here) ≡ true
  admitted-at = subst (λ n. can_here old.script.value now n (Some here) ≡ true) (sym same) (admitted-here old.script.value now e here there admitted)

  pub next-at : IsNext old.script.value now e at here
  next-at = subst (λ n. IsNext old.script.value now e n here) (sym same) (next old.script.value old.run.steps is.language.some_segments is.reached e here there admitted)

  room : HasRoomAfter old.script.value old.run.steps
  room = room-of old.script.value old.run.steps is.language.some_segments is.reached

  pub heard-at : length old.run.steps < 2 ^ 40 → heard_in here < 2 ^ 62
  heard-at few = below refl (heard-within old.script.value old.run.steps room now refl here e there) few

  pub room-at : length old.run.steps < 2 ^ 40 → HasRoom old
  room-at few = network-room old.script.value old.run.steps old (is.stands usable) room (few-rounds old.script.value old.run.steps is.language.some_segments is.reached) few

  leads : (new : Network) (before after : List Shelf) (m : HasMoved old.script.value now e (node_of e) here new before after) → (happens old.script.value now e m.fails).steps ≡ old.run.steps ++ step_of old.script.value now e (node_of e) m.fails here ∷ []
  leads new before after m = ap (λ (x : machine.World). x.steps) (happens-here old.script.value now e here there admitted m.fails) ∙ does-steps old.script.value now e (node_of e) m.fails here

  done : (new : Network) (before after : List Shelf) → HasMoved old.script.value now e (node_of e) here new before after → HasDone old new e before after
  done new before after m =
      record {
        is = record {
          language = subst IsScript (sym m.is.of) is.language;
          reached = reached-after old.script.value old.run.steps is.language.some_segments is.reached e here there admitted new m.fails m.is;
          stands = λ u. stands-after old.script.value old.run.steps is.language.some_segments is.reached e here there admitted new m.fails m.is;
        };
        unspent = m.is.usable;
        stepped = record {
          step = step_of old.script.value now e (node_of e) m.fails here;
          of = step-event old.script.value now e (node_of e) m.fails here;
          is = ap (λ (x : Run). x.steps) m.is.run ∙ does-steps old.script.value now e (node_of e) m.fails here;
          fails = m.fails;
          by_rule = ap (λ (x : Run). x.steps) m.is.run ∙ ap (λ (x : machine.World). x.steps) (sym (happens-here old.script.value now e here there admitted m.fails));
          count = ap length m.journals ∙ length-set before (node_of e).0 m.now;
          journals = taken old.script.value now e here there admitted new before after m;
          failed = λ node b a was now'. rose old.script.value old.run.steps is.language.some_segments is.reached e m.fails (step_of old.script.value now e (node_of e) m.fails here) node b a (leads new before after m)
              (taken old.script.value now e here there admitted new before after m node b a was now');
        };
      }

  pub done-at : (new : Network) (before after : List Shelf) → HasMoved old.script.value now e at here new before after → HasDone old new e before after
  done-at new before after m = done new before after (subst (λ n. HasMoved old.script.value now e n here new before after) same m)

-- A NEW ONE
pub new-network : (script : Script) (new : Network) → IsScript script → Stands script new_world new → IsNetwork new
new-network script new language s =
    record {
      language = subst IsScript (sym s.of) language;
      reached = record { events = []; is = ap (λ (x : Run). x.steps) (sym s.run) };
      stands = λ u. of-events script [] new s;
    }
