-- All lines that are their sessions' next, by the places that a map holds.
use Rattle.std.proofs.Common.{◌≡◌, ℕ, suc, ◌+◌, ◌<◌, Bool, true, false, cond, List, [], ◌∷◌, length, map, slice_get, Option, Some, None, refl, sym, ap, ◌∙◌, arith}
use Rattle.std.proofs.lemmas.Cmp.{nat_cmp_total}
use Rattle.std.proofs.lemmas.Grind.{common_steps}
use Rattle.std.proofs.lemmas.Option.{slice_get_within}
use Rattle.std.specs.List.{cons_option, filter, filter_map, range_with_len}
use Rattle.std.specs.Ordering.{nat_cmp}
use Rattle.std.specs.Prelude.{is_some, option_map}
use Rattle.std.specs.declared.cmp.Ordering.TheVariants.{Less}
use Rattle.gx_ids.specs.declared.ids.SessionId.{SessionId}
use Rattle.gx_script.specs.declared.Line.{Line}
use Rattle.gx_script.specs.declared.Script.{Script}
use Rattle.gx_store.specs.declared.event.Event.{Event}
use Rattle.gx_store.specs.declared.event.Event.TheVariants.{Start}
use Rattle.gx_store.specs.declared.run.Step.{Step}
use Rattle.gx_store.specs.Marks.{answer_count}
use Rattle.gx_store.specs.Points.{marks_in, starts_in}
use Rattle.gx_store.specs.Schedule.{is_next, starts}
use Rattle.gx_agenda.specs.declared.queue.Queue.{Queue}
use Rattle.gx_agenda.specs.Queued.{AreQueued, session_due}
use Rattle.gx_agenda.specs.VecMap.{IsRising, at}
use Rattle.gx_agenda.proofs.Numbered.{IsNumbered, entry, numbered}

place-rises : (m n : ℕ) → m < n → nat_cmp m n ≡ Less
place-rises m n below = grind (arith, common_steps)

abbrev start_at : ℕ × SessionId → Event
start_at e = Start e.1

abbrev start_of : Line → Event
start_of line = Start line.session

module _ (script : Script) (steps : List Step) where
  abbrev due : Option Line → Option SessionId
  due o = session_due (λ session. starts_in session steps) (λ session. answer_count session (marks_in steps)) o

  abbrev put : Option SessionId → ℕ → List (ℕ × SessionId) → List (ℕ × SessionId)
  put o n es = cons_option (option_map (λ v. (n, v)) o) es

  -- the starts of lines from a place on
  starts-from : (f : ℕ → Option SessionId) (first : ℕ) (lines : List Line) → ((i : ℕ) → i < length lines → f (first + i) ≡ due (slice_get lines i))
      → map start_at (filter_map (entry (λ (n : ℕ). n) f) (range_with_len first (length lines))) ≡ map start_of (filter (is_next steps) lines)
  starts-from f first [] same = refl
  starts-from f first (line ∷ lines) same = by (is_next steps line) refl (starts-from f (first + 1) lines (λ i inside. ap f (omega arith) ∙ same (suc i) (omega (arith, inside))))
    where
      behind : List (ℕ × SessionId)
      behind = filter_map (entry (λ (n : ℕ). n) f) (range_with_len (first + 1) (length lines))

      here : f first ≡ due (Some line)
      here = ap f (omega arith) ∙ same 0 (omega arith)

      by : (b : Bool) → is_next steps line ≡ b → map start_at behind ≡ map start_of (filter (is_next steps) lines) → map start_at (put (f first) first behind) ≡ map start_of (filter (is_next steps) (line ∷ lines))
      by true is rest =
          ap (λ o. map start_at (put o first behind)) (here ∙ ap (λ b. cond b (Some line.session) None) is)
          ∙ ap (λ es. Start line.session ∷ es) rest
          ∙ sym (ap (λ b. map start_of (cond b (line ∷ filter (is_next steps) lines) (filter (is_next steps) lines))) is)
      by false is rest =
          ap (λ o. map start_at (put o first behind)) (here ∙ ap (λ b. cond b (Some line.session) None) is)
          ∙ rest
          ∙ sym (ap (λ b. map start_of (cond b (line ∷ filter (is_next steps) lines) (filter (is_next steps) lines))) is)

  pub starts-listed : (queue : Queue) → AreQueued script steps queue → IsRising nat_cmp queue.next → map start_at queue.next ≡ starts script steps
  starts-listed queue queued sorted =
      ap (map start_at) (numbered nat_cmp_total (λ n. n) place-rises f 0 (length script.lines) queue.next sorted within (λ n low high. queued.next n))
      ∙ starts-from f 0 script.lines (λ i inside. ap (λ n. due (slice_get script.lines n)) (omega arith))
    where
      f : ℕ → Option SessionId
      f n = due (slice_get script.lines n)

      inside : (n : ℕ) (o : Option Line) → slice_get script.lines n ≡ o → is_some (due o) ≡ true → n < length script.lines
      inside n None is some = absurd (cc)
      inside n (Some line) is some = slice_get_within script.lines n line is

      within : (place : ℕ) → is_some (at nat_cmp queue.next place) ≡ true → IsNumbered (λ (n : ℕ). n) 0 (length script.lines) place
      within place there = record { number = place; is = refl; low = omega arith; high = at-most place (inside place (slice_get script.lines place) refl (ap is_some (sym (queued.next place)) ∙ there)) }
        where
          at-most : (n : ℕ) → n < length script.lines → n < 0 + length script.lines
          at-most n h = omega (arith, h)
