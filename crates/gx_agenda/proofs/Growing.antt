-- Places and first lines, with one line more.
use Rattle.std.proofs.Common.{◌≡◌, ◌≢◌, ◌⊎◌, inl, inr, ⊎_elim, ℕ, zero, suc, ◌+◌, ◌<◌, ◌==◌, ◌&&◌, Bool, true, false, cond, List, [], ◌∷◌, ◌++◌, length, length-append, get_or, take, slice_get, slice_set, refl, sym, ap, ◌∙◌, subst, arith, append-nil, append_assoc}
use Rattle.std.proofs.lemmas.Bool.{cases_eq}
use Rattle.std.proofs.lemmas.Bool.Decides.{nat_tests}
use Rattle.std.proofs.lemmas.Option.{same_Some, slice_get-get_or}
use Rattle.std.specs.Prelude.{None, Option, Some}
use Rattle.gx_ids.specs.declared.ids.SessionId.{SessionId}
use Rattle.gx_script.specs.declared.Line.{Line}
use Rattle.gx_store.specs.Language.{AreLinesNumbered, lines_in}
use Rattle.gx_agenda.specs.declared.queue.Queue.{Queue}
use Rattle.gx_agenda.specs.declared.standing.Standing.{Standing}
use Rattle.gx_agenda.specs.FreshQueue.{AreFresh, IsFresh, with_place}
use Rattle.gx_agenda.specs.LinePlaces.{ArePlaces, HasPlace, IsLineAt}
use Rattle.gx_agenda.specs.Queued.{AreFirst, AreQueuedBy, session_due}
use Rattle.gx_agenda.proofs.Lists.{apart_from, kept, last, length-set, pushed, same_from, same_number, set-here, set-other}

-- NUMBERS
pub numbered_at : (before ls : List Line) (i : ℕ) (l : Line) → AreLinesNumbered before ls → slice_get ls i ≡ Some l → l.number ≡ lines_in l.session.0 (before ++ take i ls) + 1
numbered_at before [] i l numbered e = absurd (cc)
numbered_at before (x ∷ xs) zero l numbered e =
    let same : x ≡ l = same_Some x l e in
    ap (λ (k : Line). k.number) (sym same) ∙ numbered.0 ∙ ap (λ (k : Line). lines_in k.session.0 before + 1) same ∙ ap (λ ls. lines_in l.session.0 ls + 1) (sym (append-nil before))
numbered_at before (x ∷ xs) (suc i) l numbered e = numbered_at (before ++ x ∷ []) xs i l numbered.1 e ∙ ap (λ ls. lines_in l.session.0 ls + 1) (append_assoc before (x ∷ []) (take i xs))

lines_in-push : (session : ℕ) (ls : List Line) (l : Line) → lines_in session (ls ++ l ∷ []) ≡ lines_in session ls + cond (l.session.0 == session) 1 0
lines_in-push session [] l = grind (arith, nat_tests)
lines_in-push session (x ∷ xs) l = step (x.session.0 == session) (cond (l.session.0 == session) 1 0) (lines_in-push session xs l)
  where
    step : (b : Bool) (n : ℕ) → lines_in session (xs ++ l ∷ []) ≡ lines_in session xs + n → cond b (lines_in session (xs ++ l ∷ []) + 1) (lines_in session (xs ++ l ∷ [])) ≡ cond b (lines_in session xs + 1) (lines_in session xs) + n
    step true n e = omega (arith, e)
    step false n e = e

-- PLACES
module _ (ls : List Line) (l : Line) (session : SessionId) (places : List ℕ) (was : ArePlaces ls session places) where
  line-kept : (n place : ℕ) → IsLineAt ls session n place → IsLineAt (ls ++ l ∷ []) session n place
  line-kept n place at = record { line = at.line; there = kept ls (l ∷ []) place at.line at.there; of = at.of; number = at.number }

  places-own : l.session.0 ≡ session.0 → l.number ≡ length places + 1 → ArePlaces (ls ++ l ∷ []) session (places ++ length ls ∷ [])
  places-own of number =
      record {
        lines_at = λ index place e. at index place (pushed places (length ls) place index e);
        all = λ place line e o. there place line o (pushed ls l line place e);
      }
    where
      at : (index place : ℕ) → ((index ≡ length places) × (length ls ≡ place)) ⊎ (slice_get places index ≡ Some place) → IsLineAt (ls ++ l ∷ []) session (index + 1) place
      at index place (inl h) = record { line = l; there = ap (slice_get (ls ++ l ∷ [])) (sym h.1) ∙ last ls l; of = of; number = number ∙ ap (λ n. n + 1) (sym h.0) }
      at index place (inr e) = line-kept (index + 1) place (was.lines_at index place e)

      there : (place : ℕ) (line : Line) → line.session.0 ≡ session.0 → ((place ≡ length ls) × (l ≡ line)) ⊎ (slice_get ls place ≡ Some line) → HasPlace (places ++ length ls ∷ []) line place
      there place line o (inl h) = record { index = length places; number = ap (λ (k : Line). k.number) (sym h.1) ∙ number; there = last places (length ls) ∙ ap Some (sym h.0) }
      there place line o (inr e) = let p = was.all place line e o in record { index = p.index; number = p.number; there = kept places (length ls ∷ []) p.index place p.there }

  places-other : l.session.0 ≢ session.0 → ArePlaces (ls ++ l ∷ []) session places
  places-other other =
      record {
        lines_at = λ index place e. line-kept (index + 1) place (was.lines_at index place e);
        all = λ place line e o. there place line o (pushed ls l line place e);
      }
    where
      there : (place : ℕ) (line : Line) → line.session.0 ≡ session.0 → ((place ≡ length ls) × (l ≡ line)) ⊎ (slice_get ls place ≡ Some line) → HasPlace places line place
      there place line o (inl h) = absurd (other (ap (λ (k : Line). k.session.0) h.1 ∙ o))
      there place line o (inr e) = was.all place line e o

-- SESSIONS
plus-zero : (n : ℕ) → n + 0 ≡ n
plus-zero n = omega arith

module _ (ls : List Line) (l : Line) (number : l.number ≡ lines_in l.session.0 ls + 1) (session : SessionId) (standing : Standing) (was : IsFresh ls session standing) where
  count-push : (b : Bool) → (l.session.0 == session.0) ≡ b → lines_in session.0 (ls ++ l ∷ []) ≡ lines_in session.0 ls + cond b 1 0
  count-push b e = lines_in-push session.0 ls l ∙ ap (λ (c : Bool). lines_in session.0 ls + cond c 1 0) e

  fresh-own : l.session.0 ≡ session.0 → IsFresh (ls ++ l ∷ []) session (with_place standing (length ls))
  fresh-own of =
      record {
        places = places-own ls l session standing.places was.places of (number ∙ ap (λ k. lines_in k ls + 1) of ∙ ap (λ n. n + 1) (sym was.count));
        count = length-append standing.places (length ls ∷ []) ∙ ap (λ n. n + 1) was.count ∙ sym (count-push true (ap (λ k. k == session.0) of ∙ same_number session.0));
        starts = was.starts;
        answers = was.answers;
      }

  fresh-other : l.session.0 ≢ session.0 → IsFresh (ls ++ l ∷ []) session standing
  fresh-other other =
      record {
        places = places-other ls l session standing.places was.places other;
        count = was.count ∙ sym (count-push false (apart_from l.session.0 session.0 other) ∙ plus-zero (lines_in session.0 ls));
        starts = was.starts;
        answers = was.answers;
      }

pub fresh-more : (ls : List Line) (l : Line) (n place : ℕ) (old new : List Standing) → AreFresh ls n old → l.number ≡ lines_in l.session.0 ls + 1 → place ≡ length ls → l.session.0 < n → ((was : Standing) → slice_get old l.session.0 ≡ Some was → new ≡ slice_set old l.session.0 (with_place was place)) → AreFresh (ls ++ l ∷ []) n new
fresh-more ls l n place old new are number at within set =
    record {
      whole = ap length changed ∙ length-set old l.session.0 now ∙ are.whole;
      each = λ session standing e. ⊎_elim (here session standing (ap (λ xs. slice_get xs session.0) (sym changed) ∙ e)) (away session standing (ap (λ xs. slice_get xs session.0) (sym changed) ∙ e)) (cases_eq l.session.0 session.0);
    }
  where
    found : (xs : List Standing) (i : ℕ) → i < length xs → (x : Standing) × (slice_get xs i ≡ Some x)
    found [] i less = absurd (omega arith)
    found (x ∷ xs) zero less = (x, refl)
    found (x ∷ xs) (suc i) less = found xs i (omega arith)

    was : (x : Standing) × (slice_get old l.session.0 ≡ Some x)
    was = found old l.session.0 (omega (arith, within, are.whole))

    now : Standing
    now = with_place was.0 (length ls)

    changed : new ≡ slice_set old l.session.0 now
    changed = set was.0 was.1 ∙ ap (λ p. slice_set old l.session.0 (with_place was.0 p)) at

    here : (session : SessionId) (standing : Standing) → slice_get (slice_set old l.session.0 now) session.0 ≡ Some standing → l.session.0 ≡ session.0 → IsFresh (ls ++ l ∷ []) session standing
    here session standing e same =
        let is : now ≡ standing = same_Some now standing (sym (set-here old l.session.0 was.0 now was.1) ∙ ap (slice_get (slice_set old l.session.0 now)) same ∙ e) in
        subst (IsFresh (ls ++ l ∷ []) session) is (fresh-own ls l number session was.0 (are.each session was.0 (ap (slice_get old) (sym same) ∙ was.1)) same)

    away : (session : SessionId) (standing : Standing) → slice_get (slice_set old l.session.0 now) session.0 ≡ Some standing → l.session.0 ≢ session.0 → IsFresh (ls ++ l ∷ []) session standing
    away session standing e other = fresh-other ls l number session standing (are.each session standing (sym (set-other old l.session.0 session.0 now (λ f. other (sym f))) ∙ e)) other

-- FIRST LINES
suc-same : (p i : ℕ) → (p == i) ≡ (suc p == suc i)
suc-same p i = grind (arith, nat_tests)

zero-apart : (i : ℕ) → false ≡ (0 == suc i)
zero-apart i = grind (arith, nat_tests)

apart-zero : (p : ℕ) → false ≡ (suc p == 0)
apart-zero p = grind (arith, nat_tests)

-- what stands at a place among one more
more-at : {A : Type 0} (xs : List A) (i : ℕ) (x : A) → slice_get xs i ≡ Some x → (p : ℕ) → slice_get (take (suc i) xs) p ≡ cond (p == i) (Some x) (slice_get (take i xs) p)
more-at [] i x there p = absurd (cc)
more-at (y ∷ ys) zero x there zero = there
more-at (y ∷ ys) zero x there (suc p) = ap (λ b. cond b (Some x) None) (apart-zero p)
more-at (y ∷ ys) (suc i) x there zero = ap (λ b. cond b (Some x) (Some y)) (zero-apart i)
more-at (y ∷ ys) (suc i) x there (suc p) = more-at ys i x there p ∙ ap (λ b. cond b (Some x) (slice_get (take i ys) p)) (suc-same p i)

past : {A : Type 0} (xs : List A) (i : ℕ) → slice_get (take i xs) i ≡ None
past [] zero = refl
past [] (suc i) = refl
past (x ∷ xs) zero = refl
past (x ∷ xs) (suc i) = past xs i

module _ (lines : List Line) (i : ℕ) (line : Line) (inside : i < length lines) (is : line ≡ get_or lines i line) (old new : ℕ → Option SessionId) where
  abbrev due : Option Line → Option SessionId
  due o = session_due (λ session. 0) (λ session. 0) o

  there : slice_get lines i ≡ Some line
  there = slice_get-get_or lines i line inside ∙ ap Some (sym is)

  at-one : line.number ≡ 1 → due (Some line) ≡ Some line.session
  at-one one = ap (λ n. cond ((0 == 0) && (n == 0 + 1)) (Some line.session) None) one

  at-other : line.number ≢ 1 → due (Some line) ≡ None
  at-other other = ap (λ b. cond ((0 == 0) && b) (Some line.session) None) (apart_from line.number 1 other)

  -- the first lines among one more
  pub first-more : ((p : ℕ) → old p ≡ due (slice_get (take i lines) p)) → (line.number ≡ 1 → (p : ℕ) → new p ≡ cond (p == i) (Some line.session) (old p)) → (line.number ≢ 1 → (p : ℕ) → new p ≡ old p)
      → (p : ℕ) → new p ≡ due (slice_get (take (i + 1) lines) p)
  first-more were first other p = join (p == i) refl ∙ sym (ap due (ap (λ n. slice_get (take n lines) p) (next i) ∙ more-at lines i line there p))
    where
      next : (n : ℕ) → n + 1 ≡ suc n
      next n = omega arith

      join : (b : Bool) → (p == i) ≡ b → new p ≡ due (cond b (Some line) (slice_get (take i lines) p))
      join true e = ⊎_elim
          (λ (one : line.number ≡ 1). first one p ∙ ap (λ b. cond b (Some line.session) (old p)) e ∙ sym (at-one one))
          (λ (more : line.number ≢ 1). other more p ∙ were p ∙ ap due (ap (slice_get (take i lines)) (same_from p i e) ∙ past lines i) ∙ sym (at-other more))
          (cases_eq line.number 1)
      join false e = ⊎_elim
          (λ (one : line.number ≡ 1). first one p ∙ ap (λ b. cond b (Some line.session) (old p)) e ∙ were p)
          (λ (more : line.number ≢ 1). other more p ∙ were p)
          (cases_eq line.number 1)

-- ALL OF A QUEUE
pub fresh-queued : (lines : List Line) (n : ℕ) (queue : Queue) → AreFresh lines n queue.standings.items → AreFirst lines queue.next → ((place : ℕ) (line : Line) → slice_get lines place ≡ Some line → line.session.0 < n) → AreQueuedBy lines (λ session. 0) (λ session. 0) queue
fresh-queued lines n queue fresh first within =
    record {
      known = λ place line e. subst (λ m. line.session.0 < m) (sym fresh.whole) (within place line e);
      each = λ session standing e. let f = fresh.each session standing e in record { places = f.places; starts = f.starts; answers = f.answers };
      next = first;
    }
