-- One turn behind others.
use Rattle.std.proofs.Common.{◌≡◌, ◌<◌, ◌≤◌, inl, inr, ℕ, ◌+◌, List, [], ◌∷◌, ◌++◌, refl, sym, ap, ◌∙◌, subst, arith, length, length-append, true, false}
use Rattle.gx_outside.specs.Shelves.{Shelf, AreEmpty}
use Rattle.gx_script.specs.declared.Script.{Script}
use Rattle.gx_store.specs.declared.run.Step.{Step}
use Rattle.gx_store.specs.declared.event.Event.{Event}
use Rattle.gx_world.specs.Worlds.{HasStepped, WorldState}
use Rattle.gx_law_runs.specs.Replays.{is_admitted}
use Rattle.gx_law_runs.specs.Reached.{IsReached}
use Rattle.gx_drive.specs.declared.agenda.Agenda.{Agenda}
use Rattle.gx_drive.specs.Agrees.{HasTurned, IsAgreed, IsDue, IsNoMore, IsUnderWay}
use Rattle.gx_drive.specs.Chosen.{AreChosen, Choice}
use Rattle.gx_drive.specs.Ordered.{AreFailuresFew, AreHeld, AreHeldSoFar}
use Rattle.gx_drive.proofs.Journals.{none-failed, none-held, none-held-so-far}
use Rattle.gx_drive.proofs.Turning.{chosen-more, held-so-far, stepped-held, stepped-reached}

-- what was chosen stays so, whether a step was done or not
pub no-more : (choice : Choice) (old new : List Step) (event : Event) → AreChosen choice [] old → choice old event → IsNoMore event old new → AreChosen choice [] new
no-more choice old new event all chosen (inl same) = subst (AreChosen choice []) (sym same) all
no-more choice old new event all chosen (inr next) = subst (AreChosen choice []) (sym next.is) (chosen-more choice [] old next.step all (subst (choice old) (sym next.of) chosen))

-- so at most one turn was taken
pub no-more-within : (old new : List Step) (event : Event) (turns : ℕ) → length old < turns → IsNoMore event old new → length new ≤ turns
no-more-within old new event turns left (inl same) = subst (λ (steps : List Step). length steps ≤ turns) (sym same) (omega (arith, left))
no-more-within old new event turns left (inr next) = subst (λ (n : ℕ). n ≤ turns) (sym (ap length next.is ∙ length-append old (next.step ∷ []))) (one (length old) left)
  where
    one : (n : ℕ) → n < turns → n + 1 ≤ turns
    one n h = omega (arith, h)

pub under-way : (choice : Choice) (script : Script) (turns : ℕ) (old new : WorldState) (before after : Agenda) (event : Event) (start was now : List Shelf)
    → IsUnderWay choice script turns old before start was → choice old.run.steps event → new.script ≡ old.script → IsNoMore event old.run.steps new.run.steps → HasTurned old new after was now → AreFailuresFew new.run.steps start now → IsUnderWay choice script (turns + 1) new after start now
under-way choice script turns old new before after event start was now way chosen kept more turned few =
    record {
      same = same;
      usable = turned.unspent;
      reached = subst (λ (x : Script). IsReached x new.run.steps) same turned.reached;
      count = turned.count ∙ ap (λ n. n + 1) way.count;
      agreed = subst (λ (x : Script). IsAgreed x new.run.steps after) same turned.agreed;
      driven = no-more choice old.run.steps new.run.steps event way.driven chosen more;
      journals = turned.journals ∙ way.journals;
      held = turned.held way.held;
      so_far = held-so-far new.run.steps now (turned.held way.held);
      few = few;
    }
  where
    same : new.script ≡ script
    same = kept ∙ way.same

-- a step was done, and the agenda took note of it
pub turned-by : (old new : WorldState) (a b : Agenda) (event : Event) (before after : List Shelf) → 1 ≤ old.script.segments → IsReached old.script old.run.steps → IsAgreed old.script old.run.steps a → IsDue old.script old.run.steps event → is_admitted old.script old.run.steps event ≡ true
    → HasStepped old.script old.run.steps new.run.steps event before after → new.script ≡ old.script → new.spent ≡ false
    → ((steps : List Step) (step : Step) → new.run.steps ≡ steps ++ step ∷ [] → IsAgreed new.script steps a → IsDue new.script steps step.event → is_admitted new.script steps step.event ≡ true → IsReached new.script steps → IsAgreed new.script new.run.steps b)
    → HasTurned old new b before after
turned-by old new a b event before after some reached agreed due admitted h same unspent noted =
    record {
      unspent = unspent;
      reached = back (λ (s : Script). IsReached s new.run.steps) (stepped-reached old.script some old.run.steps new.run.steps reached event before after h);
      count = ap length h.is ∙ length-append old.run.steps (h.step ∷ []);
      agreed = noted old.run.steps h.step h.is (back (λ (s : Script). IsAgreed s old.run.steps a) agreed)
          (back (λ (s : Script). IsDue s old.run.steps h.step.event) (subst (IsDue old.script old.run.steps) (sym h.of) due))
          (back (λ (s : Script). is_admitted s old.run.steps h.step.event ≡ true) (subst (λ e. is_admitted old.script old.run.steps e ≡ true) (sym h.of) admitted)) (back (λ (s : Script). IsReached s old.run.steps) reached);
      journals = h.count;
      held = stepped-held old.script some old.run.steps new.run.steps reached event before after h;
    }
  where
    back : (P : Script → Type 0) → P old.script → P new.script
    back P p = subst P (sym same) p

-- no turn was done
pub none-done : (choice : Choice) (shelves : List Shelf) (world : WorldState) (agenda : Agenda) → world.run.steps ≡ [] → world.spent ≡ false → length shelves ≡ 17 → AreEmpty shelves → IsAgreed world.script [] agenda → IsUnderWay choice world.script 0 world agenda shelves shelves
none-done choice shelves world agenda new usable many empty agreed =
    record {
      same = refl;
      usable = usable;
      reached = back (IsReached world.script) (record { events = []; is = refl });
      count = ap length new;
      agreed = back (λ ss. IsAgreed world.script ss agenda) agreed;
      driven = back (AreChosen choice []) tt;
      journals = many;
      held = back (λ ss. AreHeld ss shelves) (none-held shelves empty);
      so_far = back (λ ss. AreHeldSoFar ss shelves) (none-held-so-far shelves empty);
      few = back (λ ss. AreFailuresFew ss shelves shelves) (none-failed shelves);
    }
  where
    back : (P : List Step → Type 0) → P [] → P world.run.steps
    back P p = subst P (sym new) p
