-- A step that answers no line: who asks and who stands outside a block is as before.
use Rattle.std.proofs.Common.{◌≡◌, ℕ, ◌≤◌, ◌&&◌, Bool, List, [], ◌∷◌, ◌++◌, Option, None, Some, ap, arith, length, map, refl, subst, sym, ◌∙◌}
use Rattle.std.proofs.lemmas.Grind.{common_steps}
use Rattle.std.specs.List.{range_with_len}
use Rattle.gx_ids.specs.declared.ids.SessionId.{SessionId}
use Rattle.gx_script.specs.declared.Script.{Script}
use Rattle.gx_groups.specs.Table.{Table}
use Rattle.gx_store.specs.declared.mark.Mark.{Mark}
use Rattle.gx_store.specs.declared.opened.Opened.{Opened}
use Rattle.gx_store.specs.declared.run.Step.{Step}
use Rattle.gx_store.specs.Groups.{open_from, open_in, slots_after, slots_through}
use Rattle.gx_store.specs.Marks.{is_answered}
use Rattle.gx_store.specs.Points.{marks_in}
use Rattle.gx_store.specs.Schedule.{sessions_of}
use Rattle.gx_agenda.specs.declared.queue.Queue.{Queue}
use Rattle.gx_agenda.specs.declared.slots.Slots.{Slots}
use Rattle.gx_agenda.specs.Queued.{AreQueued}
use Rattle.gx_agenda.specs.Slotted.{AreAsTold, AreOutside, AreSlots, HasGone, HasTaken, asking_if, beyond_from, is_due, lowest_from, noted}
use Rattle.gx_agenda.proofs.Asking.{answered-between, numbered, range-none}
use Rattle.gx_agenda.proofs.Slotting.{groups-more, open-more, outside-more}
use Rattle.gx_agenda.proofs.TakenSlots.{nobody-lowest, nobody-noted}

-- nobody asks anew
nobody-asks : (p : SessionId → Bool) (t : Table) (ms : List Mark) (n : ℕ) → beyond_from 0 ms ≡ 0 → t ≡ asking_if (λ s. is_answered s ms && p s) t (map numbered (range_with_len 0 n))
nobody-asks p t ms n none =
    sym (ap (λ ns. asking_if (λ s. is_answered s ms && p s) t (map numbered ns)) (range-none (lowest_from 256 ms) 0 (omega arith)))
    ∙ answered-between p t ms (lowest_from 256 ms) 0 n 0 (sym none) refl (grind (arith, common_steps))

pub told-unanswered : (script : Script) (steps : List Step) (step : Step) (was now : Slots) (queue : Queue) (marks : List Mark) → step.marks ≡ marks → AreAsTold script steps was → HasTaken marks was now
    → AreQueued script (steps ++ step ∷ []) queue → now.answered.past ≤ 0 → AreAsTold script (steps ++ step ∷ []) now
told-unanswered script steps step was now queue marks same told taken queued nobody =
    let none : beyond_from 0 marks ≡ 0 = sym (ap (λ n. beyond_from n marks) told.past) ∙ sym taken.past ∙ omega (arith, nobody) in
    let outside = now.outside.items in
    let is_outside : AreOutside script (steps ++ step ∷ []) outside =
    subst (AreOutside script (steps ++ step ∷ []))
    (ap (noted script.lines queue.standings.items was.outside.items) same ∙ sym (nobody-noted script.lines queue.standings.items was.outside.items marks none) ∙ sym taken.outside)
    (outside-more script steps step queue queued was.outside.items told.outside) in
    let is_through : now.groups ≡ slots_through (open_in (marks_in steps)) (slots_after script steps) step.marks =
    taken.groups
    ∙ ap (λ (b : List Opened). slots_through b was.groups marks) told.begun
    ∙ ap (λ (t : Table). slots_through (open_in (marks_in steps)) t marks) told.groups
    ∙ ap (λ (ms : List Mark). slots_through (open_in (marks_in steps)) (slots_after script steps) ms) (sym same) in
    record {
      groups =
          nobody-asks (is_due script.lines queue.standings.items outside) now.groups marks (length script.sessions) none
          ∙ ap (λ (ms : List Mark). asking_if (λ s. is_answered s ms && is_due script.lines queue.standings.items outside s) now.groups (sessions_of script)) (sym same)
          ∙ groups-more script steps step queue queued outside is_outside now.groups is_through;
      begun = taken.begun ∙ ap (λ (b : List Opened). open_from b marks) told.begun ∙ ap (open_from (open_in (marks_in steps))) (sym same) ∙ sym (open-more steps step);
      outside = is_outside;
      from = taken.from ∙ ap (λ n. lowest_from n marks) told.from ∙ nobody-lowest marks none;
      past = omega (arith, nobody);
    }

-- where there are slots behind marks there were some before
pub by-slots : (script : Script) (steps : List Step) (marks : List Mark) (was now : Option Slots) (s : Slots) (X : Type 0) → now ≡ Some s → AreSlots script steps was → HasGone marks was now
    → ((w : Slots) → AreAsTold script steps w → HasTaken marks w s → X) → X
by-slots script steps marks was now s X is told gone f = at was told (subst (HasGone marks was) is gone)
  where
    at : (was : Option Slots) → AreSlots script steps was → HasGone marks was (Some s) → X
    at None told gone = absurd gone
    at (Some w) told gone = f w told gone
