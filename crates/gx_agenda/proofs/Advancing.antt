-- A session's counts rise: its next line is another one, and those of other sessions stay.
use Rattle.std.proofs.Common.{◌≡◌, ◌≢◌, ⊎_elim, ℕ, ◌+◌, ◌<◌, ◌≤◌, ◌==◌, ◌&&◌, Bool, true, false, cond, List, length, slice_get, slice_set, refl, sym, ap, ◌∙◌, subst, arith}
use Rattle.std.proofs.lemmas.Bool.{cases_eq}
use Rattle.std.proofs.lemmas.Bool.Decides.{nat_tests}
use Rattle.std.proofs.lemmas.Option.{same_Some, slice_get_within}
use Rattle.std.specs.Ordering.{nat_cmp}
use Rattle.std.specs.Prelude.{None, Option, Some}
use Rattle.gx_ids.specs.declared.ids.SessionId.{SessionId}
use Rattle.gx_script.specs.declared.Line.{Line}
use Rattle.gx_agenda.specs.declared.queue.Queue.{Queue}
use Rattle.gx_agenda.specs.declared.standing.Move.{Move}
use Rattle.gx_agenda.specs.declared.standing.Standing.{Standing}
use Rattle.gx_agenda.specs.Moves.{AreFew, IsAdvancedAt, is_place, more_for, next_place, offered, withdrawn}
use Rattle.gx_agenda.specs.LinePlaces.{ArePlaces, IsLineAt}
use Rattle.gx_agenda.specs.Queued.{AreQueuedBy, IsStanding, is_due, session_due}
use Rattle.gx_agenda.specs.VecMap.{at}
use Rattle.gx_agenda.proofs.Lists.{apart_from, both_ways, length-set, same_from, same_number, set-here, set-other}

both_true : (a b : Bool) → (a && b) ≡ true → (a ≡ true) × (b ≡ true)
both_true true b e = (refl, e)
both_true false b e = absurd (cc)

both : (a b m n : ℕ) → a ≡ b → m ≡ n → ((a == b) && (m == n)) ≡ true
both a b m n e f = grind (arith, nat_tests)

-- WHERE A SESSION'S NEXT LINE STANDS
is-placed : (o : Option ℕ) (place : ℕ) → is_place o place ≡ true → o ≡ Some place
is-placed None place e = absurd (cc)
is-placed (Some there) place e = ap Some (sym (same_from place there e))

record IsNextPlace (standing : Standing) (place : ℕ) : Type 0 where
  idle : standing.started ≡ standing.answered
  there : slice_get standing.places standing.started ≡ Some place

next-place : (standing : Standing) (place : ℕ) → next_place standing ≡ Some place → IsNextPlace standing place
next-place standing place e = by (standing.started == standing.answered) refl e
  where
    by : (b : Bool) → (standing.started == standing.answered) ≡ b → cond b (slice_get standing.places standing.started) None ≡ Some place → IsNextPlace standing place
    by true idle f = record { idle = same_from standing.started standing.answered idle; there = f }
    by false away f = absurd (cc)

is-next : (standing : Standing) (place : ℕ) → IsNextPlace standing place → is_place (next_place standing) place ≡ true
is-next standing place next =
    ap (λ (b : Bool). is_place (cond b (slice_get standing.places standing.started) None) place) (ap (λ n. standing.started == n) (sym next.idle) ∙ same_number standing.started)
    ∙ ap (λ o. is_place o place) next.there ∙ same_number place

module _ (lines : List Line) (session : SessionId) (n m : ℕ) (standing : Standing) (is : IsStanding lines session n m standing) where
  stands-at : (place : ℕ) → is_place (next_place standing) place ≡ true → (n ≡ m) × IsLineAt lines session (n + 1) place
  stands-at place e =
      let next = next-place standing place (is-placed (next_place standing) place e) in
      (sym is.starts ∙ next.idle ∙ is.answers, is.places.lines_at n place (ap (slice_get standing.places) (sym is.starts) ∙ next.there))

  own : (place : ℕ) (line : Line) → slice_get lines place ≡ Some line → line.session.0 ≡ session.0 → is_place (next_place standing) place ≡ ((n == m) && (line.number == n + 1))
  own place line e of = both_ways (is_place (next_place standing) place) ((n == m) && (line.number == n + 1)) there back
    where
      there : is_place (next_place standing) place ≡ true → ((n == m) && (line.number == n + 1)) ≡ true
      there f =
          let at = stands-at place f in
          let same : at.1.line ≡ line = same_Some at.1.line line (sym at.1.there ∙ e) in
          both n m line.number (n + 1) at.0 (ap (λ (l : Line). l.number) (sym same) ∙ at.1.number)

      back : ((n == m) && (line.number == n + 1)) ≡ true → is_place (next_place standing) place ≡ true
      back f =
          let tests = both_true (n == m) (line.number == n + 1) f in
          let p = is.places.all place line e of in
          let number : line.number ≡ n + 1 = same_from line.number (n + 1) tests.1 in
          let index : p.index ≡ n = omega (arith, p.number, number) in
          is-next standing place (record { idle = is.starts ∙ same_from n m tests.0 ∙ sym is.answers; there = ap (slice_get standing.places) (is.starts ∙ sym index) ∙ p.there })

  elsewhere : (place : ℕ) → ((line : Line) → slice_get lines place ≡ Some line → line.session.0 ≢ session.0) → is_place (next_place standing) place ≡ false
  elsewhere place other = by (is_place (next_place standing) place) refl
    where
      by : (b : Bool) → is_place (next_place standing) place ≡ b → b ≡ false
      by true e = let at = (stands-at place e).1 in absurd (other at.line at.there at.of)
      by false e = refl

-- WHAT STANDS AT EACH PLACE
-- counts that differ for one session alone
abbrev DifferFor : SessionId → (SessionId → ℕ) → (SessionId → ℕ) → Type 0
DifferFor session f g = (s : SessionId) → s.0 ≢ session.0 → g s ≡ f s

due-same : (f g f' g' : SessionId → ℕ) (line : Line) → f' line.session ≡ f line.session → g' line.session ≡ g line.session → is_due f' g' line ≡ is_due f g line
due-same f g f' g' line e h = ap (λ n. (n == g' line.session) && (line.number == n + 1)) e ∙ ap (λ n. (f line.session == n) && (line.number == f line.session + 1)) h

-- the session itself, given its number
own-session : (session s : SessionId) → s.0 ≡ session.0 → s ≡ session
own-session session s e = ap (λ n. record { 0 = n }) e

module _ (lines : List Line) (f g f' g' : SessionId → ℕ) (session : SessionId) (was is : Standing) (before : IsStanding lines session (f session) (g session) was) (after : IsStanding lines session (f' session) (g' session) is) (starts : DifferFor session f f') (answers : DifferFor session g g') (old : ℕ → Option SessionId) (stood : (place : ℕ) → old place ≡ session_due f g (slice_get lines place)) (place : ℕ) where
  abbrev now : Bool → Bool → Option SessionId
  now to from = cond to (Some session) (cond from None (old place))

  away : (o : Option Line) → slice_get lines place ≡ o → ((line : Line) → o ≡ Some line → line.session.0 ≢ session.0) → now (is_place (next_place is) place) (is_place (next_place was) place) ≡ old place
  away o e other =
      let apart : (line : Line) → slice_get lines place ≡ Some line → line.session.0 ≢ session.0 = λ line there. other line (sym e ∙ there) in
      ap (λ b. now b (is_place (next_place was) place)) (elsewhere lines session (f' session) (g' session) is after place apart)
      ∙ ap (now false) (elsewhere lines session (f session) (g session) was before place apart)

  here : (line : Line) → slice_get lines place ≡ Some line → line.session.0 ≡ session.0 → now (is_place (next_place is) place) (is_place (next_place was) place) ≡ session_due f' g' (Some line)
  here line e of =
      ap (λ b. now b (is_place (next_place was) place)) (due is f' g' after)
      ∙ ap (now (is_due f' g' line)) (due was f g before)
      ∙ ap (λ o. cond (is_due f' g' line) (Some session) (cond (is_due f g line) None o)) (stood place ∙ ap (session_due f g) e)
      ∙ gone (is_due f' g' line) (is_due f g line)
    where
      same : line.session ≡ session
      same = own-session session line.session of

      due : (standing : Standing) (h k : SessionId → ℕ) → IsStanding lines session (h session) (k session) standing → is_place (next_place standing) place ≡ is_due h k line
      due standing h k stands = own lines session (h session) (k session) standing stands place line e of ∙ ap (λ s. (h s == k s) && (line.number == h s + 1)) (sym same)

      gone : (b c : Bool) → cond b (Some session) (cond c None (cond c (Some line.session) None)) ≡ cond b (Some line.session) None
      gone true c = ap Some (sym same)
      gone false true = refl
      gone false false = refl

  stands-on : now (is_place (next_place is) place) (is_place (next_place was) place) ≡ session_due f' g' (slice_get lines place)
  stands-on = by (slice_get lines place) refl
    where
      by : (o : Option Line) → slice_get lines place ≡ o → now (is_place (next_place is) place) (is_place (next_place was) place) ≡ session_due f' g' o
      by None e = away None e (λ line none. absurd (cc)) ∙ stood place ∙ ap (session_due f g) e
      by (Some line) e = ⊎_elim
          (λ (of : line.session.0 ≡ session.0). here line e of)
          (λ (other : line.session.0 ≢ session.0).
          away (Some line) e (λ l there. subst (λ (k : Line). k.session.0 ≢ session.0) (same_Some line l there) other) ∙ stood place ∙ ap (session_due f g) e
          ∙ ap (λ (b : Bool). cond b (Some line.session) None) (sym (due-same f g f' g' line (starts line.session other) (answers line.session other))))
          (cases_eq line.session.0 session.0)

-- ALL SESSIONS
more-own : (session : SessionId) (count : ℕ) (f : SessionId → ℕ) → more_for session count f session ≡ f session + count
more-own session count f = ap (λ (b : Bool). f session + cond b count 0) (same_number session.0)

more-other : (session : SessionId) (count : ℕ) (f : SessionId → ℕ) → DifferFor session f (more_for session count f)
more-other session count f s other = ap (λ (b : Bool). f s + cond b count 0) (apart_from session.0 s.0 (λ e. other (sym e))) ∙ plus-zero (f s)
  where
    plus-zero : (n : ℕ) → n + 0 ≡ n
    plus-zero n = omega arith

standing-same : (lines : List Line) (session : SessionId) (n m n' m' : ℕ) (standing : Standing) → n' ≡ n → m' ≡ m → IsStanding lines session n m standing → IsStanding lines session n' m' standing
standing-same lines session n m n' m' standing e h is = record { places = is.places; starts = is.starts ∙ sym e; answers = is.answers ∙ sym h }

module _ (lines : List Line) (f g : SessionId → ℕ) (session : SessionId) (starts answers : ℕ) (old new : Queue) (queued : AreQueuedBy lines f g old) where
  abbrev f' : SessionId → ℕ
  f' = more_for session starts f

  abbrev g' : SessionId → ℕ
  g' = more_for session answers g

  -- a session that isn't known
  pub unknown : length old.standings.items ≤ session.0 → AreQueuedBy lines f' g' old
  unknown past =
      record {
        known = queued.known;
        each = λ s standing e. standing-same lines s (f s) (g s) (f' s) (g' s) standing (more-other session starts f s (within s standing e)) (more-other session answers g s (within s standing e)) (queued.each s standing e);
        next = λ place. queued.next place ∙ due place (slice_get lines place) refl;
      }
    where
      within : (s : SessionId) (standing : Standing) → slice_get old.standings.items s.0 ≡ Some standing → s.0 ≢ session.0
      within s standing e same = absurd (omega (arith, same, past, slice_get_within old.standings.items s.0 standing e))

      due : (place : ℕ) (o : Option Line) → slice_get lines place ≡ o → session_due f g o ≡ session_due f' g' o
      due place None e = refl
      due place (Some line) e =
          let other : line.session.0 ≢ session.0 = λ same. absurd (omega (arith, same, past, queued.known place line e)) in
          ap (λ (b : Bool). cond b (Some line.session) None) (sym (due-same f g f' g' line (more-other session starts f line.session other) (more-other session answers g line.session other)))

  -- and one that is
  module _ (was : Standing) (there : slice_get old.standings.items session.0 ≡ Some was) (move : Move) (on : IsAdvancedAt session.0 old.standings.items new.standings.items was starts answers move) (next : (place : ℕ) → at nat_cmp new.next place ≡ offered move.to session (withdrawn move.from (at nat_cmp old.next)) place) (few : AreFew f') (few_answered : AreFew g') where
    before : IsStanding lines session (f session) (g session) was
    before = queued.each session was there

    after : IsStanding lines session (f' session) (g' session) on.is
    after =
        let a = more-own session starts f in
        let b = more-own session answers g in
        let c = few session in
        let d = few_answered session in
        record {
          places = subst (ArePlaces lines session) (sym on.advanced.places) before.places;
          starts = on.advanced.starts_rise (omega (arith, before.starts, a, c)) ∙ ap (λ n. n + starts) before.starts ∙ sym a;
          answers = on.advanced.answers_rise (omega (arith, before.answers, b, d)) ∙ ap (λ n. n + answers) before.answers ∙ sym b;
        }

    pub known-on : AreQueuedBy lines f' g' new
    known-on =
        record {
          known = λ place line e. subst (λ n. line.session.0 < n) (sym (ap length on.set ∙ length-set old.standings.items session.0 on.is)) (queued.known place line e);
          each = λ s standing e. ⊎_elim (own-stands s standing (ap (λ xs. slice_get xs s.0) (sym on.set) ∙ e)) (other-stands s standing (ap (λ xs. slice_get xs s.0) (sym on.set) ∙ e)) (cases_eq s.0 session.0);
          next = λ place.
              next place ∙ ap (λ o. offered o session (withdrawn move.from (at nat_cmp old.next)) place) on.advanced.to ∙ ap (λ o. offered (next_place on.is) session (withdrawn o (at nat_cmp old.next)) place) on.advanced.from
              ∙ stands-on lines f g f' g' session was on.is before after (more-other session starts f) (more-other session answers g) (at nat_cmp old.next) queued.next place;
        }
      where
        own-stands : (s : SessionId) (standing : Standing) → slice_get (slice_set old.standings.items session.0 on.is) s.0 ≡ Some standing → s.0 ≡ session.0 → IsStanding lines s (f' s) (g' s) standing
        own-stands s standing e same =
            let is : on.is ≡ standing = same_Some on.is standing (sym (set-here old.standings.items session.0 was on.is there) ∙ ap (slice_get (slice_set old.standings.items session.0 on.is)) (sym same) ∙ e) in
            subst (λ (k : SessionId). IsStanding lines k (f' k) (g' k) standing) (sym (own-session session s same)) (subst (IsStanding lines session (f' session) (g' session)) is after)

        other-stands : (s : SessionId) (standing : Standing) → slice_get (slice_set old.standings.items session.0 on.is) s.0 ≡ Some standing → s.0 ≢ session.0 → IsStanding lines s (f' s) (g' s) standing
        other-stands s standing e other = standing-same lines s (f s) (g s) (f' s) (g' s) standing (more-other session starts f s other) (more-other session answers g s other) (queued.each s standing (sym (set-other old.standings.items session.0 s.0 on.is other) ∙ e))
