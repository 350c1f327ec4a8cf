-- The places of a session's lines among the lines of a script.
use Rattle.std.proofs.Common.{◌≡◌, ℕ, ◌+◌, ◌≤◌, ◌==◌, zero, suc, Bool, true, false, cond, ◌&&◌, List, [], ◌∷◌, ◌++◌, length, slice_get, refl, sym, ap, ◌∙◌, subst, arith}
use Rattle.std.proofs.lemmas.Bool.Decides.{nat_tests}
use Rattle.std.specs.Prelude.{None, Some}
use Rattle.gx_lemmas.proofs.Numbers.{plus-none, same-of}
use Rattle.gx_ids.specs.declared.ids.SessionId.{SessionId}
use Rattle.gx_store.specs.Language.{AreLinesNumbered, lines_in}
use Rattle.gx_script.specs.declared.Line.{Line}
use Rattle.gx_store.specs.Lines.{stmt_of}
use Rattle.gx_coord.specs.Places.{places_from}

abbrev pub session_at : ℕ → SessionId
session_at n = record { 0 = n }

pub apart_from : (m n : ℕ) → (m ≡ n → ⊥) → (m == n) ≡ false
apart_from m n h = grind (arith, nat_tests)

-- the line of a session at a place, where so many of the session's lines stand before the list, and so many before it there
pub record IsLineAt (session : ℕ) (ls : List Line) (c i q : ℕ) : Type 0 where
  pub line : Line
  pub there : slice_get ls q ≡ Some line
  pub of : line.session.0 ≡ session
  pub number : line.number ≡ c + i + 1
  pub stmt : stmt_of (session_at session) (c + i + 1) ls ≡ Some line.stmt

lines_in-step : (session : ℕ) (x : Line) (n m : ℕ) (b : Bool) → n ≡ m + cond b 1 0 → cond (x.session.0 == session) (n + 1) n ≡ cond (x.session.0 == session) (m + 1) m + cond b 1 0
lines_in-step session x n m true e = grind (arith, nat_tests)
lines_in-step session x n m false e = grind (arith, nat_tests)

lines_in-push : (session : ℕ) (before : List Line) (l : Line) → lines_in session (before ++ l ∷ []) ≡ lines_in session before + cond (l.session.0 == session) 1 0
lines_in-push session [] l = grind (arith, nat_tests)
lines_in-push session (x ∷ xs) l = lines_in-step session x (lines_in session (xs ++ l ∷ [])) (lines_in session xs) (l.session.0 == session) (lines_in-push session xs l)

pub push_same : (session : ℕ) (before : List Line) (l : Line) → (l.session.0 == session) ≡ true → lines_in session (before ++ l ∷ []) ≡ lines_in session before + 1
push_same session before l e = lines_in-push session before l ∙ ap (λ (b : Bool). lines_in session before + cond b 1 0) e

pub push_other : (session : ℕ) (before : List Line) (l : Line) → (l.session.0 == session) ≡ false → lines_in session (before ++ l ∷ []) ≡ lines_in session before
push_other session before l e = lines_in-push session before l ∙ ap (λ (b : Bool). lines_in session before + cond b 1 0) e ∙ plus-none (lines_in session before)

-- a line that isn't the one that is looked for
pub skipped : (s : SessionId) (n : ℕ) (l : Line) (ls : List Line) → ((l.session.0 == s.0) && (l.number == n)) ≡ false → stmt_of s n (l ∷ ls) ≡ stmt_of s n ls
skipped s n l ls e = ap (λ (b : Bool). cond b (Some l.stmt) (stmt_of s n ls)) e

pub met : (s : SessionId) (n : ℕ) (l : Line) (ls : List Line) → ((l.session.0 == s.0) && (l.number == n)) ≡ true → stmt_of s n (l ∷ ls) ≡ Some l.stmt
met s n l ls e = ap (λ (b : Bool). cond b (Some l.stmt) (stmt_of s n ls)) e

both_same : (a b m n : ℕ) → a ≡ b → m ≡ n → ((a == b) && (m == n)) ≡ true
both_same a b m n e f = grind (arith, nat_tests)

other_number : (a b m n : ℕ) → (m ≡ n → ⊥) → ((a == b) && (m == n)) ≡ false
other_number a b m n e = grind (arith, nat_tests)

other_one : (a b : ℕ) (r : Bool) → (a == b) ≡ false → ((a == b) && r) ≡ false
other_one a b r e = ap (λ (x : Bool). x && r) e

-- the number of a line of the session, by the lines before it
numbered_at : (session : ℕ) (before : List Line) (l : Line) → l.number ≡ lines_in l.session.0 before + 1 → l.session.0 ≡ session → l.number ≡ lines_in session before + 1
numbered_at session before l n e = n ∙ ap (λ k. lines_in k before + 1) e

module _ (session : ℕ) where
  abbrev Placed : List Line → ℕ → ℕ → ℕ → ℕ → Type 0
  Placed ls o c i p = (q : ℕ) × (p ≡ o + q) × IsLineAt session ls c i q

  later : (l : Line) (ls : List Line) (o c d i j p : ℕ) → (l.session.0 == session) ≡ true → l.number ≡ c + 1 → d ≡ c + 1 → i ≡ j + 1 → Placed ls (o + 1) d j p → Placed (l ∷ ls) o c i p
  later l ls o c d i j p same number is at found =
      let n : d + j + 1 ≡ c + i + 1 = omega (arith, is, at) in
      let other : l.number ≡ c + i + 1 → ⊥ = λ e. omega (arith, e, number, at) in (
        suc found.0,
        omega (arith, found.1),
        record {
          line = found.2.line;
          there = found.2.there;
          of = found.2.of;
          number = found.2.number ∙ n;
          stmt = skipped (session_at session) (c + i + 1) l ls (other_number l.session.0 session l.number (c + i + 1) other) ∙ ap (λ k. stmt_of (session_at session) k ls) (sym n) ∙ found.2.stmt;
        },
      )

  aside : (l : Line) (ls : List Line) (o c d i p : ℕ) → (l.session.0 == session) ≡ false → d ≡ c → Placed ls (o + 1) d i p → Placed (l ∷ ls) o c i p
  aside l ls o c d i p other is found =
      let n : d + i + 1 ≡ c + i + 1 = ap (λ k. k + i + 1) is in (
        suc found.0,
        omega (arith, found.1),
        record {
          line = found.2.line;
          there = found.2.there;
          of = found.2.of;
          number = found.2.number ∙ n;
          stmt = skipped (session_at session) (c + i + 1) l ls (other_one l.session.0 session (l.number == c + i + 1) other) ∙ ap (λ k. stmt_of (session_at session) k ls) (sym n) ∙ found.2.stmt;
        },
      )

  here : (l : Line) (ls : List Line) (o c p : ℕ) → l.session.0 ≡ session → l.number ≡ c + 1 → Some o ≡ Some p → Placed (l ∷ ls) o c 0 p
  here l ls o c p of number e =
      let at : o ≡ p = cc in
      let n : l.number ≡ c + 0 + 1 = omega (arith, number) in
      (0, omega (arith, at), record { line = l; there = refl; of = of; number = n; stmt = met (session_at session) (c + 0 + 1) l ls (both_same l.session.0 session l.number (c + 0 + 1) of n) })

  -- what stands at each of the places
  pub placed : (before ls : List Line) (o i p : ℕ) → AreLinesNumbered before ls → slice_get (places_from session o ls) i ≡ Some p → Placed ls o (lines_in session before) i p
  placed before [] o i p numbered e = absurd (cc)
  placed before (l ∷ ls) o i p numbered e = first (l.session.0 == session) refl i e (λ j f. placed (before ++ l ∷ []) ls (o + 1) j p numbered.1 f)
    where
      first : (b : Bool) → (l.session.0 == session) ≡ b → (i : ℕ) → slice_get (cond b (o ∷ places_from session (o + 1) ls) (places_from session (o + 1) ls)) i ≡ Some p → ((j : ℕ) → slice_get (places_from session (o + 1) ls) j ≡ Some p → Placed ls (o + 1) (lines_in session (before ++ l ∷ [])) j p) → Placed (l ∷ ls) o (lines_in session before) i p
      first true same zero e more = let of = same-of l.session.0 session same in here l ls o (lines_in session before) p of (numbered_at session before l numbered.0 of) e
      first true same (suc j) e more =
          later l ls o (lines_in session before) (lines_in session (before ++ l ∷ [])) (suc j) j p same (numbered_at session before l numbered.0 (same-of l.session.0 session same)) (push_same session before l same) (omega arith) (more j e)
      first false other i e more = aside l ls o (lines_in session before) (lines_in session (before ++ l ∷ [])) i p other (push_other session before l other) (more i e)

  abbrev HasPlace : List Line → ℕ → ℕ → ℕ → Line → Type 0
  HasPlace ls o c q l = (i : ℕ) × (slice_get (places_from session o ls) i ≡ Some (o + q)) × (l.number ≡ c + i + 1)

  -- and past them there is none
  pub none_past : (before ls : List Line) (o i : ℕ) → AreLinesNumbered before ls → length (places_from session o ls) ≤ i → stmt_of (session_at session) (lines_in session before + i + 1) ls ≡ None
  none_past before [] o i numbered past = refl
  none_past before (l ∷ ls) o i numbered past = first (l.session.0 == session) refl i past (λ j f. none_past (before ++ l ∷ []) ls (o + 1) j numbered.1 f)
    where
      first : (b : Bool) → (l.session.0 == session) ≡ b → (i : ℕ) → length (cond b (o ∷ places_from session (o + 1) ls) (places_from session (o + 1) ls)) ≤ i → ((j : ℕ) → length (places_from session (o + 1) ls) ≤ j → stmt_of (session_at session) (lines_in session (before ++ l ∷ []) + j + 1) ls ≡ None) → stmt_of (session_at session) (lines_in session before + i + 1) (l ∷ ls) ≡ None
      first true same zero past more = absurd (omega (arith, past))
      first true same (suc j) past more =
          let of = same-of l.session.0 session same in
          let number = numbered_at session before l numbered.0 of in
          let n : lines_in session (before ++ l ∷ []) + j + 1 ≡ lines_in session before + suc j + 1 = omega (arith, push_same session before l same) in
          let other : l.number ≡ lines_in session before + suc j + 1 → ⊥ = λ e. omega (arith, e, number) in
          skipped (session_at session) (lines_in session before + suc j + 1) l ls (other_number l.session.0 session l.number (lines_in session before + suc j + 1) other) ∙ ap (λ k. stmt_of (session_at session) k ls) (sym n) ∙ more j (omega (arith, past))
      first false other i past more =
          skipped (session_at session) (lines_in session before + i + 1) l ls (other_one l.session.0 session (l.number == lines_in session before + i + 1) other)
          ∙ ap (λ k. stmt_of (session_at session) (k + i + 1) ls) (sym (push_other session before l other))
          ∙ more i past

  -- one line more
  pub places_from-push : (o : ℕ) (ls : List Line) (l : Line) → places_from session o (ls ++ l ∷ []) ≡ places_from session o ls ++ cond (l.session.0 == session) ((o + length ls) ∷ []) []
  places_from-push o [] l = ap (λ n. cond (l.session.0 == session) (n ∷ []) []) (omega arith)
  places_from-push o (x ∷ ls) l = first (x.session.0 == session) (places_from-push (o + 1) ls l ∙ ap (λ n. places_from session (o + 1) ls ++ cond (l.session.0 == session) (n ∷ []) []) (omega arith))
    where
      first : (b : Bool) → places_from session (o + 1) (ls ++ l ∷ []) ≡ places_from session (o + 1) ls ++ cond (l.session.0 == session) ((o + length (x ∷ ls)) ∷ []) []
          → cond b (o ∷ places_from session (o + 1) (ls ++ l ∷ [])) (places_from session (o + 1) (ls ++ l ∷ [])) ≡ cond b (o ∷ places_from session (o + 1) ls) (places_from session (o + 1) ls) ++ cond (l.session.0 == session) ((o + length (x ∷ ls)) ∷ []) []
      first true e = ap (λ ps. o ∷ ps) e
      first false e = e

-- A WHOLE SCRIPT'S LINES
-- the session's line of this number, less one, at its place
pub record IsLineOf (session : ℕ) (ls : List Line) (i p : ℕ) : Type 0 where
  pub line : Line
  pub there : slice_get ls p ≡ Some line
  pub of : line.session.0 ≡ session
  pub number : line.number ≡ i + 1
  pub stmt : stmt_of (session_at session) (i + 1) ls ≡ Some line.stmt

from_zero : (i : ℕ) → 0 + i + 1 ≡ i + 1
from_zero i = omega arith

pub line_at : (session : ℕ) (ls : List Line) (i p : ℕ) → AreLinesNumbered [] ls → slice_get (places_from session 0 ls) i ≡ Some p → IsLineOf session ls i p
line_at session ls i p numbered e =
    let found = placed session [] ls 0 i p numbered e in
    let at : found.0 ≡ p = omega (arith, found.1) in
    record {
      line = found.2.line;
      there = subst (λ q. slice_get ls q ≡ Some found.2.line) at found.2.there;
      of = found.2.of;
      number = found.2.number ∙ from_zero i;
      stmt = subst (λ n. stmt_of (session_at session) n ls ≡ Some found.2.line.stmt) (from_zero i) found.2.stmt;
    }

pub none_behind : (session : ℕ) (ls : List Line) (i : ℕ) → AreLinesNumbered [] ls → length (places_from session 0 ls) ≤ i → stmt_of (session_at session) (i + 1) ls ≡ None
none_behind session ls i numbered past = subst (λ n. stmt_of (session_at session) n ls ≡ None) (from_zero i) (none_past session [] ls 0 i numbered past)
