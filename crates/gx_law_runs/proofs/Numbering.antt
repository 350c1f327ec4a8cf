-- Where lines are numbered, a session has one line of each number.
use Rattle.std.proofs.Common.{◌≡◌, ◌≤◌, ℕ, ◌+◌, List, [], ◌∷◌, ◌++◌, Some, Bool, true, false, refl, sym, subst, ap, ◌∙◌, if◌then◌else◌, ◌&&◌, arith}
use Rattle.std.proofs.lemmas.Bool.{eqb-true}
use Rattle.std.proofs.lemmas.Bool.Decides.{nat_tests}
use Rattle.std.proofs.lemmas.List.Elements.{All-contains, All-from_recursion}
use Rattle.std.specs.Prelude.{Contains, ◌==◌}
use Rattle.std.specs.List.{AllByRecursion}
use Rattle.gx_lemmas.proofs.Tests.{and-second}
use Rattle.gx_script.specs.declared.Line.{Line}
use Rattle.gx_script.specs.declared.Script.{Script}
use Rattle.gx_store.specs.declared.run.Step.{Step}
use Rattle.gx_store.specs.Lines.{stmt_of}
use Rattle.gx_store.specs.Marks.{is_same_session}
use Rattle.gx_store.specs.Schedule.{is_next}
use Rattle.gx_rules.specs.AtCoordinator.{next_line}
use Rattle.gx_rules.specs.Coordinators.{Coord}
use Rattle.gx_law_order.proofs.Lists.{each_weaker}
use Rattle.gx_law_order.specs.Lists.{Each}
use Rattle.gx_store.specs.Language.{AreLinesNumbered, lines_in}
use Rattle.gx_law_order.specs.Standing.{IsSession}
use Rattle.gx_law_order.proofs.Always.{each-zip}
use Rattle.gx_law_runs.proofs.Sessions.{next-alike}

lines-append : (s : ℕ) (xs ys : List Line) → lines_in s (xs ++ ys) ≡ lines_in s xs + lines_in s ys
lines-append s [] ys = grind arith
lines-append s (x ∷ xs) ys = grind (arith, nat_tests, lines-append s xs ys)

-- each line's number is above the count of its session's lines before
abbrev IsAbove : List Line → Line → Type 0
IsAbove before l = lines_in l.session.0 before + 1 ≤ l.number

all-above : (before ls : List Line) → AreLinesNumbered before ls → Each (IsAbove before) ls
all-above before [] e = tt
all-above before (l ∷ ls) e = (first (lines_in l.session.0 before) l.number e.0, each_weaker (IsAbove (before ++ l ∷ [])) (IsAbove before) (λ x h. less x.session.0 x.number h) ls (all-above (before ++ l ∷ []) ls e.1))
  where
    first : (a n : ℕ) → n ≡ a + 1 → a + 1 ≤ n
    first a n e = omega arith

    less : (s n : ℕ) → lines_in s (before ++ l ∷ []) + 1 ≤ n → lines_in s before + 1 ≤ n
    less s n h = grind (arith, nat_tests, lines-append s before (l ∷ []))

abbrev IsItself : List Line → Line → Type 0
IsItself ls x = stmt_of x.session x.number ls ≡ Some x.stmt

all-themselves : (before ls : List Line) → AreLinesNumbered before ls → Each (IsItself ls) ls
all-themselves before [] e = tt
all-themselves before (l ∷ ls) e = (
  own l.session.0 l.number,
  each_weaker (λ (x : Line). IsItself ls x × IsAbove (before ++ l ∷ []) x) (IsItself (l ∷ ls)) (λ x h. other x h.0 h.1) ls
      (each-zip (IsItself ls) (IsAbove (before ++ l ∷ [])) ls (all-themselves (before ++ l ∷ []) ls e.1) (all-above (before ++ l ∷ []) ls e.1)),
)
  where
    own : (a n : ℕ) → (if (a == a) && (n == n) then Some l.stmt else stmt_of l.session l.number ls) ≡ Some l.stmt
    own a n = ap (λ (b : Bool). if b then Some l.stmt else stmt_of l.session l.number ls) (both a n)
      where
        both : (a n : ℕ) → ((a == a) && (n == n)) ≡ true
        both a n = grind (arith, nat_tests)

    apart : (x : Line) → lines_in x.session.0 (before ++ l ∷ []) + 1 ≤ x.number → (is_same_session l.session x.session && (l.number == x.number)) ≡ false
    apart x h = by (l.session.0 == x.session.0) refl
      where
        later : (a n m : ℕ) → n ≡ a + 1 → a + (0 + 1) + 1 ≤ m → (n == m) ≡ false
        later a n m e h = grind (arith, nat_tests)

        by : (b : Bool) → (l.session.0 == x.session.0) ≡ b → (b && (l.number == x.number)) ≡ false
        by false q = refl
        by true q =
            later (lines_in x.session.0 before) l.number x.number (subst (λ k. l.number ≡ lines_in k before + 1) (eqb-true l.session.0 x.session.0 q) e.0)
            (subst (λ n. n + 1 ≤ x.number) (lines-append x.session.0 before (l ∷ []) ∙ ap (λ (b : Bool). lines_in x.session.0 before + (if b then 0 + 1 else 0)) q) h)

    other : (x : Line) → IsItself ls x → lines_in x.session.0 (before ++ l ∷ []) + 1 ≤ x.number → IsItself (l ∷ ls) x
    other x same h = ap (λ (b : Bool). if b then Some l.stmt else stmt_of x.session x.number ls) (apart x h) ∙ same

each-all : (P : Line → Type 0) (ls : List Line) → Each P ls → AllByRecursion P ls
each-all P [] e = tt
each-all P (l ∷ ls) e = (e.0, each-all P ls e.1)

-- so a line that is next is the one that its session starts
pub next-is : (script : Script) (steps : List Step) (c : Coord) (line : Line) → IsSession script line.session steps c → AreLinesNumbered [] script.lines → Contains script.lines line → is_next steps line ≡ true → next_line script c line.session ≡ Some line.stmt
next-is script steps c line s numbered there next =
    ap (λ n. stmt_of line.session n script.lines) (sym (eqb-true line.number _ (and-second _ _ (sym (next-alike script line.session steps c s line refl) ∙ next))))
    ∙ All-contains (IsItself script.lines) script.lines line (All-from_recursion (IsItself script.lines) script.lines (each-all (IsItself script.lines) script.lines (all-themselves [] script.lines numbered))) there
