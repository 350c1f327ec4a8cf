-- The first line that passes, by the least place of a map.
use Rattle.std.proofs.Common.{◌≡◌, ℕ, zero, suc, ◌<◌, Bool, true, false, cond, List, [], ◌∷◌, take, map, filter, slice_get, refl, sym, ap, ◌∙◌, subst, arith, rules}
use Rattle.std.proofs.lemmas.Grind.{common_steps}
use Rattle.std.proofs.lemmas.List.{take-map}
use Rattle.std.proofs.lemmas.Option.{same_Some}
use Rattle.std.specs.Ordering.{is_gt, nat_cmp}
use Rattle.std.specs.Prelude.{IsSome, None, Option, Some}
use Rattle.gx_ids.specs.declared.ids.SessionId.{SessionId}
use Rattle.gx_script.specs.declared.Line.{Line}
use Rattle.gx_script.specs.declared.Script.{Script}
use Rattle.gx_store.specs.declared.event.Event.TheVariants.{Start}
use Rattle.gx_store.specs.declared.run.Step.{Step}
use Rattle.gx_store.specs.Marks.{answer_count}
use Rattle.gx_store.specs.Points.{marks_in, starts_in}
use Rattle.gx_store.specs.Schedule.{first_of, is_next, starts}
use Rattle.gx_agenda.specs.declared.queue.Queue.{Queue}
use Rattle.gx_agenda.specs.Queued.{AreQueued, session_due}
use Rattle.gx_agenda.specs.VecMap.{IsLeast, at}

-- FILTERS
filter-none : {X : Type 0} (test : X → Bool) (xs : List X) → ((i : ℕ) (x : X) → slice_get xs i ≡ Some x → test x ≡ false) → filter test xs ≡ []
filter-none test [] off = refl
filter-none test (x ∷ xs) off = ap (λ (b : Bool). cond b (x ∷ filter test xs) (filter test xs)) (off 0 x refl) ∙ filter-none test xs (λ i y there. off (suc i) y there)

filter-first : {X : Type 0} (test : X → Bool) (xs : List X) (i : ℕ) (x : X) → slice_get xs i ≡ Some x → test x ≡ true → ((j : ℕ) (y : X) → j < i → slice_get xs j ≡ Some y → test y ≡ false) → take 1 (filter test xs) ≡ x ∷ []
filter-first test [] i x there on off = absurd (cc)
filter-first test (y ∷ ys) zero x there on off =
    let same : y ≡ x = same_Some y x there in
    ap (λ (b : Bool). take 1 (cond b (y ∷ filter test ys) (filter test ys))) (ap test same ∙ on) ∙ ap (λ z. z ∷ []) same
filter-first test (y ∷ ys) (suc i) x there on off =
    ap (λ (b : Bool). take 1 (cond b (y ∷ filter test ys) (filter test ys))) (off 0 y (omega arith) refl)
    ∙ filter-first test ys i x there on (λ j z below at. off (suc j) z (omega (arith, below)) at)

-- THE LEAST PLACE
is-greater : (q place : ℕ) → q < place → is_gt (nat_cmp place q) ≡ true
is-greater q place below = grind (arith, common_steps)

-- the line that a session is at
record IsDueLine (test : Line → Bool) (o : Option Line) (session : SessionId) : Type 0 where
  line : Line
  there : o ≡ Some line
  on : test line ≡ true
  its : line.session ≡ session

module _ (script : Script) (steps : List Step) (queue : Queue) (queued : AreQueued script steps queue) where
  abbrev next_at : ℕ → Option SessionId
  next_at place = at nat_cmp queue.next place

  abbrev due : Option Line → Option SessionId
  due o = session_due (λ session. starts_in session steps) (λ session. answer_count session (marks_in steps)) o

  due-line : (o : Option Line) (session : SessionId) → due o ≡ Some session → IsDueLine (is_next steps) o session
  due-line None session e = absurd (cc)
  due-line (Some line) session e = by (is_next steps line) refl e
    where
      by : (b : Bool) → is_next steps line ≡ b → cond b (Some line.session) None ≡ Some session → IsDueLine (is_next steps) (Some line) session
      by true on f = record { line = line; there = refl; on = on; its = same_Some line.session session f }
      by false off f = absurd (cc)

  -- a line that passes is found
  held : (place : ℕ) (line : Line) → slice_get script.lines place ≡ Some line → is_next steps line ≡ true → next_at place ≡ Some line.session
  held place line there on = queued.next place ∙ ap due there ∙ ap (λ (b : Bool). cond b (Some line.session) None) on

  off-where : (place : ℕ) (line : Line) → slice_get script.lines place ≡ Some line → (next_at place ≡ Some line.session → ⊥) → is_next steps line ≡ false
  off-where place line there none = by (is_next steps line) refl
    where
      by : (b : Bool) → is_next steps line ≡ b → b ≡ false
      by true on = absurd (none (held place line there on))
      by false off = refl

  pub first-due : (place : ℕ) (session : SessionId) → next_at place ≡ Some session → IsLeast nat_cmp queue.next place → Start session ∷ [] ≡ first_of (starts script steps)
  first-due place session there least = sym (
      take-map (λ (l : Line). Start l.session) 1 (filter (is_next steps) script.lines)
      ∙ ap (map (λ (l : Line). Start l.session)) (filter-first (is_next steps) script.lines place first.line first.there first.on earlier)
      ∙ ap (λ s. Start s ∷ []) first.its
      )
    where
      first : IsDueLine (is_next steps) (slice_get script.lines place) session
      first = due-line (slice_get script.lines place) session (sym (queued.next place) ∙ there)

      earlier : (q : ℕ) (line : Line) → q < place → slice_get script.lines q ≡ Some line → is_next steps line ≡ false
      earlier q line below e = off-where q line e (λ found.
          let above : is_gt (nat_cmp place q) ≡ true = is-greater q place below in
          let not_above : is_gt (nat_cmp place q) ≡ false = least q (subst IsSome (sym found) (search rules)) in
          absurd (cc))

  pub none-due : queue.next ≡ [] → [] ≡ first_of (starts script steps)
  none-due empty = sym (ap (λ ls. take 1 (map (λ (l : Line). Start l.session) ls)) (filter-none (is_next steps) script.lines none))
    where
      none : (place : ℕ) (line : Line) → slice_get script.lines place ≡ Some line → is_next steps line ≡ false
      none place line e = off-where place line e (λ found. absurd (cc))
