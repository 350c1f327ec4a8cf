-- Slots that agree with the steps of a run, before any and behind one more.
use Rattle.std.proofs.Common.{◌≡◌, ℕ, zero, suc, ◌+◌, ◌-◌, ◌<◌, ◌==◌, Bool, true, false, cond, ◌&&◌, List, [], ◌∷◌, ◌++◌, length, Option, Some, None, slice_get, set, refl, sym, ap, ◌∙◌, subst, arith, append_assoc, append-nil}
use Rattle.std.proofs.lemmas.Bool.Decides.{nat_tests}
use Rattle.std.proofs.lemmas.Grind.{flat_map-append}
use Rattle.std.specs.Prelude.{filter, option_map, replicate}
use Rattle.gx_ids.specs.declared.ids.SessionId.{SessionId}
use Rattle.gx_tree.specs.declared.stmt.Stmt.{Stmt}
use Rattle.gx_tree.specs.declared.stmt.Stmt.TheVariants as stmt
use Rattle.gx_script.specs.declared.Line.{Line}
use Rattle.gx_script.specs.declared.Script.{Script}
use Rattle.gx_groups.specs.Table.{Table}
use Rattle.gx_store.specs.declared.answer.StmtAnswer.{StmtAnswer}
use Rattle.gx_store.specs.declared.answer.StmtAnswer.TheVariants as answer
use Rattle.gx_store.specs.declared.mark.Mark.{Mark}
use Rattle.gx_store.specs.declared.mark.Mark.TheVariants.{Answer}
use Rattle.gx_store.specs.declared.opened.Opened.{Opened}
use Rattle.gx_store.specs.declared.run.Step.{Step}
use Rattle.gx_store.specs.Groups.{all_asking, asks_in, draws_next, first_slots, fresh_slots, is_to_open, open_after, open_from, open_in, slots_after, slots_behind, slots_from, slots_through}
use Rattle.gx_store.specs.Lines.{BlockState, Failed, InBlock, Outside, next_stmt, state_after, state_after_line, state_from, state_of, stmt_of}
use Rattle.gx_store.specs.Marks.{answer_count, is_answered, is_same_session}
use Rattle.gx_store.specs.Points.{marks_in, starts_in}
use Rattle.gx_store.specs.Schedule.{is_idle, sessions_of}
use Rattle.gx_store.proofs.Lines.{state_from-append}
use Rattle.gx_agenda.specs.declared.queue.Queue.{Queue}
use Rattle.gx_agenda.specs.declared.standing.Standing.{Standing}
use Rattle.gx_agenda.specs.LinePlaces.{ArePlaces}
use Rattle.gx_agenda.specs.Moves.{next_place}
use Rattle.gx_agenda.specs.Queued.{AreQueued, IsStanding}
use Rattle.gx_agenda.specs.Slotted.{AreOutside, asking_if, is_due, is_outside, line_in, noted, noted_at, opens_line, opens_there, outside_behind, outside_from, outside_line, outside_stmt, place_of}
use Rattle.gx_agenda.proofs.Asking.{if-all, if-alike}

same-session : (s k : SessionId) → is_same_session s k ≡ true → s ≡ k
same-session s k e = let m : s.0 ≡ k.0 = grind (arith, nat_tests) in ap (λ (x : ℕ). let y : SessionId = record { 0 = x } in y) m

-- LINES BY THEIR PLACES
record IsFound (lines : List Line) (s : SessionId) (number : ℕ) (x : Stmt) : Type 0 where
  place : ℕ
  line : Line
  there : slice_get lines place ≡ Some line
  of : line.session.0 ≡ s.0
  is : line.number ≡ number
  stmt : line.stmt ≡ x

both : (a b : Bool) → (a && b) ≡ true → (a ≡ true) × (b ≡ true)
both true true e = (refl, refl)
both true false e = absurd (cc)
both false b e = absurd (cc)

later : (lines : List Line) (l : Line) (s : SessionId) (number : ℕ) (x : Stmt) → IsFound lines s number x → IsFound (l ∷ lines) s number x
later lines l s number x f = record { place = suc f.place; line = f.line; there = f.there; of = f.of; is = f.is; stmt = f.stmt }

found-line : (s : SessionId) (number : ℕ) (lines : List Line) (x : Stmt) → stmt_of s number lines ≡ Some x → IsFound lines s number x
found-line s number [] x e = absurd (cc)
found-line s number (l ∷ ls) x e = by_test (is_same_session l.session s && (l.number == number)) refl (λ g. later ls l s number x (found-line s number ls x g))
  where
    same-number : (l.number == number) ≡ true → l.number ≡ number
    same-number q = grind (arith, nat_tests)

    by_test : (b : Bool) → (is_same_session l.session s && (l.number == number)) ≡ b → (stmt_of s number ls ≡ Some x → IsFound (l ∷ ls) s number x) → IsFound (l ∷ ls) s number x
    by_test true q rest =
        let p = both (is_same_session l.session s) (l.number == number) q in
        let here : Some l.stmt ≡ Some x = sym (ap (λ b. cond b (Some l.stmt) (stmt_of s number ls)) q) ∙ e in
        record { place = 0; line = l; there = refl; of = ap (λ (k : SessionId). k.0) (same-session l.session s p.0); is = same-number p.1; stmt = cc }
    by_test false q rest = rest (sym (ap (λ b. cond b (Some l.stmt) (stmt_of s number ls)) q) ∙ e)

none-line : (s : SessionId) (number : ℕ) (lines : List Line) → stmt_of s number lines ≡ None → (q : ℕ) (line : Line) → slice_get lines q ≡ Some line → line.session.0 ≡ s.0 → line.number ≡ number → ⊥
none-line s number [] e q line there of is = cc
none-line s number (l ∷ ls) e q line there of is = by_test (is_same_session l.session s && (l.number == number)) refl (λ g k. none-line s number ls g k line) q there
  where
    on : (a b c d : ℕ) → a ≡ b → c ≡ d → ((a == b) && (c == d)) ≡ true
    on a b c d p r = grind (arith, nat_tests)

    by_test : (b : Bool) → (is_same_session l.session s && (l.number == number)) ≡ b → (stmt_of s number ls ≡ None → (k : ℕ) → slice_get ls k ≡ Some line → line.session.0 ≡ s.0 → line.number ≡ number → ⊥) → (k : ℕ) → slice_get (l ∷ ls) k ≡ Some line → ⊥
    by_test true p rest k t = let here : Some l.stmt ≡ None = sym (ap (λ b. cond b (Some l.stmt) (stmt_of s number ls)) p) ∙ e in cc
    by_test false p rest zero t =
        let same : l ≡ line = cc in
        let yes : (is_same_session l.session s && (l.number == number)) ≡ true = on l.session.0 s.0 l.number number (ap (λ (x : Line). x.session.0) same ∙ of) (ap (λ (x : Line). x.number) same ∙ is) in cc
    by_test false p rest (suc k) t = rest (sym (ap (λ b. cond b (Some l.stmt) (stmt_of s number ls)) p) ∙ e) k t of is

abbrev stmt_in : Option Line → Option Stmt
stmt_in o = option_map (λ (l : Line). l.stmt) o

stmt-at : (lines : List Line) (s : SessionId) (places : List ℕ) → ArePlaces lines s places → (n : ℕ) → stmt_in (line_in lines (slice_get places n)) ≡ stmt_of s (n + 1) lines
stmt-at lines s places a n = by_place (slice_get places n) refl (stmt_of s (n + 1) lines) refl
  where
    same : (i : ℕ) → n + 1 ≡ i + 1 → i ≡ n
    same i e = omega (arith, e)

    stands : (x : Stmt) (f : IsFound lines s (n + 1) x) → slice_get places n ≡ Some f.place
    stands x f = let h = a.all f.place f.line f.there f.of in subst (λ i. slice_get places i ≡ Some f.place) (same h.index (sym f.is ∙ h.number)) h.there

    by_place : (o : Option ℕ) → slice_get places n ≡ o → (r : Option Stmt) → stmt_of s (n + 1) lines ≡ r → stmt_in (line_in lines o) ≡ r
    by_place (Some p) e (Some x) f =
        let q = found-line s (n + 1) lines x f in
        let is : Some p ≡ Some q.place = sym e ∙ stands x q in
        let one : p ≡ q.place = cc in
        ap (λ i. stmt_in (slice_get lines i)) one ∙ ap stmt_in q.there ∙ ap Some q.stmt
    by_place (Some p) e None f = let l = a.lines_at n p e in absurd (none-line s (n + 1) lines f p l.line l.there l.of l.number)
    by_place None e (Some x) f = let q = found-line s (n + 1) lines x f in let is : None ≡ Some q.place = sym e ∙ stands x q in absurd (cc)
    by_place None e None f = refl

stmt-of-place : (lines : List Line) (s : SessionId) (places : List ℕ) → ArePlaces lines s places → (number : ℕ) → stmt_in (line_in lines (place_of places number)) ≡ stmt_of s number lines
stmt-of-place lines s places a number = by_test (number == 0) refl
  where
    zero-is : (number == 0) ≡ true → number ≡ 0
    zero-is q = grind (arith, nat_tests)

    back : (number == 0) ≡ false → number - 1 + 1 ≡ number
    back q = grind (arith, nat_tests)

    none : (r : Option Stmt) → stmt_of s number lines ≡ r → number ≡ 0 → None ≡ r
    none None e z = refl
    none (Some x) e z =
        let f = found-line s number lines x e in
        let h = a.all f.place f.line f.there f.of in absurd (let i = h.number in let j = f.is in omega (arith, i, j, z))

    by_test : (b : Bool) → (number == 0) ≡ b → stmt_in (line_in lines (cond b None (slice_get places (number - 1)))) ≡ stmt_of s number lines
    by_test true q = none (stmt_of s number lines) refl (zero-is q)
    by_test false q = stmt-at lines s places a (number - 1) ∙ ap (λ m. stmt_of s m lines) (back q)

opens-stmt : (o : Option Line) → opens_line o ≡ draws_next Outside (stmt_in o)
opens-stmt None = refl
opens-stmt (Some line) = refl

outside-stmt : (b : Bool) (o : Option Line) → outside_line b o ≡ outside_stmt b (stmt_in o)
outside-stmt b None = refl
outside-stmt b (Some line) = refl

-- WHO IS TO OPEN
not-outside : (st : BlockState) (o : Option Stmt) → is_outside st ≡ false → draws_next st o ≡ false
not-outside Outside o e = absurd (cc)
not-outside (InBlock level commands) None e = refl
not-outside (InBlock level commands) (Some line) e = refl
not-outside Failed None e = refl
not-outside Failed (Some line) e = refl

is-outside : (st : BlockState) → is_outside st ≡ true → st ≡ Outside
is-outside Outside e = refl
is-outside (InBlock level commands) e = absurd (cc)
is-outside Failed e = absurd (cc)

and-none : (a b : Bool) → b ≡ false → (a && b) ≡ false
and-none true b e = e
and-none false b e = refl

module _ (script : Script) (steps : List Step) (queue : Queue) (queued : AreQueued script steps queue) where
  -- a session that isn't known has no line
  no-line : (s : SessionId) → slice_get queue.standings.items s.0 ≡ None → (number : ℕ) → stmt_of s number script.lines ≡ None
  no-line s e number = by_stmt (stmt_of s number script.lines) refl
    where
      there : {A : Type 0} (xs : List A) (i : ℕ) → slice_get xs i ≡ None → i < length xs → ⊥
      there [] i f l = omega (arith, l)
      there (x ∷ xs) zero f l = cc
      there (x ∷ xs) (suc i) f l = there xs i f (omega (arith, l))

      by_stmt : (r : Option Stmt) → stmt_of s number script.lines ≡ r → stmt_of s number script.lines ≡ None
      by_stmt None f = f
      by_stmt (Some x) f =
          let q = found-line s number script.lines x f in
          absurd (there queue.standings.items s.0 e (subst (λ k. k < length queue.standings.items) q.of (queued.known q.place q.line q.there)))

  due-is : (outside : List Bool) → AreOutside script steps outside → (s : SessionId) → s.0 < length script.sessions → is_due script.lines queue.standings.items outside s ≡ is_to_open script steps s
  due-is outside o s l =
      ap (λ b. opens_there script.lines b (slice_get queue.standings.items s.0)) (o s l)
      ∙ by_state (is_outside (state_of script s (marks_in steps))) refl (slice_get queue.standings.items s.0) refl
    where
      by_state : (b : Bool) → is_outside (state_of script s (marks_in steps)) ≡ b → (st : Option Standing) → slice_get queue.standings.items s.0 ≡ st → opens_there script.lines (Some b) st ≡ is_to_open script steps s
      by_state false e st f = sym (and-none (is_idle steps s) (draws_next (state_of script s (marks_in steps)) (next_stmt s script (marks_in steps))) (not-outside (state_of script s (marks_in steps)) (next_stmt s script (marks_in steps)) e))
      by_state true e None f =
          sym (and-none (is_idle steps s) (draws_next (state_of script s (marks_in steps)) (next_stmt s script (marks_in steps))) (ap (draws_next (state_of script s (marks_in steps))) (no-line s f (answer_count s (marks_in steps) + 1)) ∙ refl))
      by_state true e (Some standing) f = by_idle (starts_in s steps == answer_count s (marks_in steps)) refl
        where
          k : IsStanding script.lines s (starts_in s steps) (answer_count s (marks_in steps)) standing
          k = queued.each s standing f

          outside-state : state_of script s (marks_in steps) ≡ Outside
          outside-state = is-outside (state_of script s (marks_in steps)) e

          same : (starts_in s steps == answer_count s (marks_in steps)) ≡ true → starts_in s steps ≡ answer_count s (marks_in steps)
          same q = grind (arith, nat_tests)

          counts : (standing.started == standing.answered) ≡ (starts_in s steps == answer_count s (marks_in steps))
          counts = ap (λ n. n == standing.answered) k.starts ∙ ap (λ n. starts_in s steps == n) k.answers

          by_idle : (b : Bool) → (starts_in s steps == answer_count s (marks_in steps)) ≡ b → opens_line (line_in script.lines (next_place standing)) ≡ is_to_open script steps s
          by_idle true q =
              ap (λ b. opens_line (line_in script.lines (cond b (slice_get standing.places standing.started) None))) (counts ∙ q)
              ∙ opens-stmt (line_in script.lines (slice_get standing.places standing.started))
              ∙ ap (draws_next Outside) (stmt-at script.lines s standing.places k.places standing.started ∙ ap (λ n. stmt_of s (n + 1) script.lines) (k.starts ∙ same q))
              ∙ ap (λ z. draws_next z (next_stmt s script (marks_in steps))) (sym outside-state)
              ∙ sym (ap (λ b. b && draws_next (state_of script s (marks_in steps)) (next_stmt s script (marks_in steps))) q)
          by_idle false q =
              ap (λ b. opens_line (line_in script.lines (cond b (slice_get standing.places standing.started) None))) (counts ∙ q)
              ∙ sym (ap (λ b. b && draws_next (state_of script s (marks_in steps)) (next_stmt s script (marks_in steps))) q)

-- WHERE SESSIONS STAND BEHIND MARKS
after-outside : (st : BlockState) (line : Stmt) (reply : StmtAnswer) → is_outside (state_after st line reply) ≡ outside_behind (is_outside st) line
after-outside Outside (stmt.Begin level) reply = refl
after-outside Outside stmt.Commit reply = refl
after-outside Outside stmt.Rollback reply = refl
after-outside Outside _ reply = refl
after-outside (InBlock level commands) (stmt.Begin other) reply = refl
after-outside (InBlock level commands) stmt.Commit reply = refl
after-outside (InBlock level commands) stmt.Rollback reply = refl
after-outside (InBlock level commands) _ (answer.Refused reason) = refl
after-outside (InBlock level commands) _ _ = refl
after-outside Failed stmt.Commit reply = refl
after-outside Failed stmt.Rollback reply = refl
after-outside Failed _ reply = refl

line-outside : (st : BlockState) (o : Option Stmt) (reply : StmtAnswer) → is_outside (state_after_line st o reply) ≡ outside_stmt (is_outside st) o
line-outside st None reply = refl
line-outside st (Some line) reply = after-outside st line reply

if-outside : (b : Bool) (x y : BlockState) → is_outside (cond b x y) ≡ cond b (is_outside x) (is_outside y)
if-outside true x y = refl
if-outside false x y = refl

from-outside : (script : Script) (s : SessionId) (st : BlockState) (ms : List Mark) → is_outside (state_from script s st ms) ≡ outside_from script s (is_outside st) ms
from-outside script s st [] = refl
from-outside script s st (Answer k n reply ∷ ms) =
    from-outside script s (cond (is_same_session k s) (state_after_line st (stmt_of s n script.lines) reply) st) ms
    ∙ ap (λ b. outside_from script s b ms) (if-outside (is_same_session k s) (state_after_line st (stmt_of s n script.lines) reply) st ∙ ap (λ b. cond (is_same_session k s) b (is_outside st)) (line-outside st (stmt_of s n script.lines) reply))
from-outside script s st (_ ∷ ms) = from-outside script s st ms

set-here : (xs : List Bool) (i : ℕ) (x y : Bool) → slice_get xs i ≡ Some x → slice_get (set xs i y) i ≡ Some y
set-here [] i x y e = absurd (cc)
set-here (z ∷ zs) zero x y e = refl
set-here (z ∷ zs) (suc i) x y e = set-here zs i x y e

set-there : (xs : List Bool) (i j : ℕ) (y : Bool) → (i ≡ j → ⊥) → slice_get (set xs i y) j ≡ slice_get xs j
set-there [] i j y ne = refl
set-there (z ∷ zs) zero zero y ne = absurd (ne refl)
set-there (z ∷ zs) zero (suc j) y ne = refl
set-there (z ∷ zs) (suc i) zero y ne = refl
set-there (z ∷ zs) (suc i) (suc j) y ne = set-there zs i j y (λ e. ne (ap suc e))

module _ (script : Script) (steps : List Step) (queue : Queue) (queued : AreQueued script steps queue) where
  noted-one : (outside : List Bool) (k : SessionId) (n : ℕ) (s : SessionId) (was : Bool) → slice_get outside s.0 ≡ Some was
      → slice_get (noted_at script.lines outside k n (slice_get outside k.0) (slice_get queue.standings.items k.0)) s.0 ≡ Some (cond (is_same_session k s) (outside_stmt was (stmt_of s n script.lines)) was)
  noted-one outside k n s was e = by_test (is_same_session k s) refl
    where
      apart : is_same_session k s ≡ false → k.0 ≡ s.0 → ⊥
      apart q p = let on : is_same_session k s ≡ true = grind (arith, nat_tests) in cc

      other : (o : Option Bool) (t : Option Standing) → is_same_session k s ≡ false → slice_get (noted_at script.lines outside k n o t) s.0 ≡ Some was
      other (Some b) (Some standing) q = set-there outside k.0 s.0 (outside_line b (line_in script.lines (place_of standing.places n))) (apart q) ∙ e
      other (Some b) None q = e
      other None t q = e

      own : (t : Option Standing) → slice_get queue.standings.items s.0 ≡ t → slice_get (noted_at script.lines outside s n (Some was) t) s.0 ≡ Some (outside_stmt was (stmt_of s n script.lines))
      own None f = e ∙ ap Some (sym (ap (outside_stmt was) (no-line script steps queue queued s f n)))
      own (Some standing) f =
          set-here outside s.0 was (outside_line was (line_in script.lines (place_of standing.places n))) e
          ∙ ap Some (outside-stmt was (line_in script.lines (place_of standing.places n)) ∙ ap (outside_stmt was) (stmt-of-place script.lines s standing.places (queued.each s standing f).places n))

      by_test : (b : Bool) → is_same_session k s ≡ b → slice_get (noted_at script.lines outside k n (slice_get outside k.0) (slice_get queue.standings.items k.0)) s.0 ≡ Some (cond b (outside_stmt was (stmt_of s n script.lines)) was)
      by_test true q =
          ap (λ x. slice_get (noted_at script.lines outside x n (slice_get outside x.0) (slice_get queue.standings.items x.0)) s.0) (same-session k s q)
          ∙ ap (λ o. slice_get (noted_at script.lines outside s n o (slice_get queue.standings.items s.0)) s.0) e
          ∙ own (slice_get queue.standings.items s.0) refl
      by_test false q = other (slice_get outside k.0) (slice_get queue.standings.items k.0) q

  noted-all : (ms : List Mark) (outside : List Bool) (s : SessionId) (was : Bool) → slice_get outside s.0 ≡ Some was → slice_get (noted script.lines queue.standings.items outside ms) s.0 ≡ Some (outside_from script s was ms)
  noted-all [] outside s was e = e
  noted-all (Answer k n reply ∷ ms) outside s was e =
      noted-all ms (noted_at script.lines outside k n (slice_get outside k.0) (slice_get queue.standings.items k.0)) s (cond (is_same_session k s) (outside_stmt was (stmt_of s n script.lines)) was) (noted-one outside k n s was e)
  noted-all (_ ∷ ms) outside s was e = noted-all ms outside s was e

marks-more : (steps : List Step) (step : Step) → marks_in (steps ++ step ∷ []) ≡ marks_in steps ++ step.marks
marks-more steps step = flat_map-append (λ (x : Step). x.marks) steps (step ∷ []) ∙ ap (λ ms. marks_in steps ++ ms) (append-nil step.marks)

pub outside-more : (script : Script) (steps : List Step) (step : Step) (queue : Queue) → AreQueued script (steps ++ step ∷ []) queue → (outside : List Bool) → AreOutside script steps outside → AreOutside script (steps ++ step ∷ []) (noted script.lines queue.standings.items outside step.marks)
outside-more script steps step queue queued outside o s l =
    noted-all script (steps ++ step ∷ []) queue queued step.marks outside s (is_outside (state_of script s (marks_in steps))) (o s l)
    ∙ ap Some (sym (ap (λ ms. is_outside (state_of script s ms)) (marks-more steps step) ∙ ap is_outside (state_from-append script s Outside (marks_in steps) step.marks) ∙ from-outside script s (state_of script s (marks_in steps)) step.marks))

pub outside-first : (script : Script) (n : ℕ) → n ≡ length script.sessions → AreOutside script [] (replicate n true)
outside-first script n e s l = at n s.0 (subst (λ m. s.0 < m) (sym e) l)
  where
    at : (m i : ℕ) → i < m → slice_get (replicate m true) i ≡ Some true
    at zero i k = absurd (omega (arith, k))
    at (suc m) zero k = refl
    at (suc m) (suc i) k = at m i (omega (arith, k))

-- THE FOLD, A STEP MORE
slots_from-append : (script : Script) (b : List Step) (t : Table) (xs ys : List Step) → slots_from script b t (xs ++ ys) ≡ slots_from script (b ++ xs) (slots_from script b t xs) ys
slots_from-append script b t [] ys = ap (λ z. slots_from script z t ys) (sym (append-nil b))
slots_from-append script b t (x ∷ xs) ys =
    slots_from-append script (b ++ x ∷ []) (slots_behind script b t x) xs ys ∙ ap (λ z. slots_from script z (slots_from script (b ++ x ∷ []) (slots_behind script b t x) xs) ys) (append_assoc b (x ∷ []) xs)

open_from-append : (begun : List Opened) (xs ys : List Mark) → open_from begun (xs ++ ys) ≡ open_from (open_from begun xs) ys
open_from-append begun [] ys = refl
open_from-append begun (m ∷ xs) ys = open_from-append (open_after begun m) xs ys

pub open-more : (steps : List Step) (step : Step) → open_in (marks_in (steps ++ step ∷ [])) ≡ open_from (open_in (marks_in steps)) step.marks
open-more steps step = ap open_in (marks-more steps step) ∙ open_from-append [] (marks_in steps) step.marks

-- all of whom a line was answered
pub groups-more : (script : Script) (steps : List Step) (step : Step) (queue : Queue) → AreQueued script (steps ++ step ∷ []) queue → (outside : List Bool) → AreOutside script (steps ++ step ∷ []) outside
    → (t : Table) → t ≡ slots_through (open_in (marks_in steps)) (slots_after script steps) step.marks
    → asking_if (λ s. is_answered s step.marks && is_due script.lines queue.standings.items outside s) t (sessions_of script) ≡ slots_after script (steps ++ step ∷ [])
groups-more script steps step queue queued outside o t e =
    if-alike (λ s. is_answered s step.marks && is_due script.lines queue.standings.items outside s) (asks_in script steps step) t 0 (length script.sessions) (length script.sessions) (omega arith)
    (λ s l. ap (λ b. is_answered s step.marks && b) (due-is script (steps ++ step ∷ []) queue queued outside o s l))
    ∙ if-all (asks_in script steps step) t (sessions_of script)
    ∙ ap (λ x. all_asking x (filter (asks_in script steps step) (sessions_of script))) e
    ∙ sym (slots_from-append script [] (first_slots script) steps (step ∷ []))

pub groups-first : (script : Script) (queue : Queue) → AreQueued script [] queue → (outside : List Bool) → AreOutside script [] outside → (t : Table) → t ≡ fresh_slots script
    → asking_if (is_due script.lines queue.standings.items outside) t (sessions_of script) ≡ slots_after script []
groups-first script queue queued outside o t e =
    if-alike (is_due script.lines queue.standings.items outside) (is_to_open script []) t 0 (length script.sessions) (length script.sessions) (omega arith) (λ s l. due-is script [] queue queued outside o s l)
    ∙ if-all (is_to_open script []) t (sessions_of script)
    ∙ ap (λ x. all_asking x (filter (is_to_open script []) (sessions_of script))) e
