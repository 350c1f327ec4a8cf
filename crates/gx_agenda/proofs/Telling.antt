-- Slots that are told by steps alone, one step further.
use Rattle.std.proofs.Common.{◌≡◌, ℕ, suc, ◌+◌, ◌<◌, ◌≤◌, ◌^◌, Bool, true, false, cond, List, [], ◌∷◌, ◌++◌, length, sym, ap, ◌∙◌, subst, arith}
use Rattle.std.specs.Prelude.{Option, Some, None, is_some}
use Rattle.gx_ids.specs.declared.ids.SessionId.{SessionId}
use Rattle.gx_script.specs.declared.Script.{Script}
use Rattle.gx_store.specs.declared.event.Event.{Event}
use Rattle.gx_store.specs.declared.event.Event.TheVariants as event
use Rattle.gx_store.specs.declared.mark.Mark.{Mark}
use Rattle.gx_store.specs.declared.mark.Mark.TheVariants as mark
use Rattle.gx_store.specs.declared.run.Step.{Step}
use Rattle.gx_store.specs.Marks.{answer_count, is_same_session}
use Rattle.gx_store.specs.Points.{marks_in, starts_by, starts_in}
use Rattle.gx_store.proofs.Marks.{answer_count-append}
use Rattle.gx_store.proofs.Runs.{marks_in-push, starts_in-push}
use Rattle.gx_agenda.specs.Queued.{AreCounted, AreQueued}
use Rattle.gx_agenda.specs.OwnSlots.{AreKept, AreWithin}
use Rattle.gx_agenda.specs.Slotted.{AreSlots, HasGone}
use Rattle.gx_agenda.specs.declared.own_slots.OwnSlots.{OwnSlots}
use Rattle.gx_agenda.specs.declared.slots.Slots.{Slots}

-- COUNTS
answers-few : (session : SessionId) (ms : List Mark) → answer_count session ms ≤ length ms
answers-few session [] = omega arith
answers-few session (mark.Answer s n a ∷ ms) = by (is_same_session s session) (answers-few session ms)
  where
    by : (b : Bool) → answer_count session ms ≤ length ms → cond b (answer_count session ms + 1) (answer_count session ms) ≤ suc (length ms)
    by true h = omega (arith, h)
    by false h = omega (arith, h)
answers-few session (m ∷ ms) = up (answer_count session ms) (length ms) (answers-few session ms)
  where
    up : (a n : ℕ) → a ≤ n → a ≤ suc n
    up a n h = omega (arith, h)

starts-few : (session : SessionId) (e : Event) → starts_by session e ≤ 1
starts-few session (event.Start s) = by (is_same_session s session)
  where
    by : (b : Bool) → cond b 1 0 ≤ 1
    by true = omega arith
    by false = omega arith
starts-few session _ = omega arith

pub within-next : (told : ℕ) (steps : List Step) (step : Step) → AreWithin told steps → AreWithin (told + length step.marks + 1) (steps ++ step ∷ [])
within-next told steps step within s =
    more (starts_in s steps) (answer_count s (marks_in steps)) (starts_by s step.event) (answer_count s step.marks) told (length step.marks) _ _ (starts_in-push s steps step)
    (ap (answer_count s) (marks_in-push steps step) ∙ answer_count-append s (marks_in steps) step.marks) (within s) (starts-few s step.event) (answers-few s step.marks)
  where
    more : (a b x y t n k l : ℕ) → k ≡ a + x → l ≡ b + y → a + b ≤ t → x ≤ 1 → y ≤ n → k + l ≤ t + n + 1
    more a b x y t n k l e f h i j = omega (arith, e, f, h, i, j)

pub within-counted : (told : ℕ) (steps : List Step) → told < 2 ^ 62 → AreWithin told steps → AreCounted steps
within-counted told steps room within =
    record {
      starts = λ s. first (starts_in s steps) (answer_count s (marks_in steps)) (within s);
      answers = λ s. second (starts_in s steps) (answer_count s (marks_in steps)) (within s);
    }
  where
    first : (a b : ℕ) → a + b ≤ told → a < 2 ^ 62
    first a b h = omega (arith, h, room)

    second : (a b : ℕ) → a + b ≤ told → b < 2 ^ 62
    second a b h = omega (arith, h, room)

-- WHAT IS KEPT
pub kept-first : (script : Script) (own : OwnSlots) (o : Option Slots) → AreSlots script [] o → AreQueued script [] own.queue → AreKept script [] own o
kept-first script own None slots queued = slots
kept-first script own (Some slots) told queued = (told, queued, λ s. omega arith)

pub kept-next : (script : Script) (steps : List Step) (step : Step) (old new : OwnSlots) (o now last : Option Slots) → is_some o ≡ true → AreKept script steps old o → HasGone step.marks o now
    → (AreQueued script steps old.queue → AreCounted (steps ++ step ∷ []) → AreQueued script (steps ++ step ∷ []) new.queue)
    → ((was : Option Slots) → AreSlots script steps was → HasGone step.marks was now → AreQueued script (steps ++ step ∷ []) new.queue → AreSlots script (steps ++ step ∷ []) last)
    → new.told ≡ old.told + length step.marks + 1 → new.told < 2 ^ 62
    → AreKept script (steps ++ step ∷ []) new last
kept-next script steps step old new None now last some kept gone queue slots told room = absurd (cc)
kept-next script steps step old new (Some o) now last some kept gone queue slots told room = by last (slots (Some o) kept.0 gone queued)
  where
    within : AreWithin new.told (steps ++ step ∷ [])
    within = subst (λ k. AreWithin k (steps ++ step ∷ [])) (sym told) (within-next old.told steps step kept.2)

    queued : AreQueued script (steps ++ step ∷ []) new.queue
    queued = queue kept.1 (within-counted new.told (steps ++ step ∷ []) room within)

    by : (l : Option Slots) → AreSlots script (steps ++ step ∷ []) l → AreKept script (steps ++ step ∷ []) new l
    by None s = s
    by (Some l) s = (s, queued, within)
