-- How many lines a session has, where they are numbered.
use Rattle.std.proofs.Common.{◌≡◌, ◌≤◌, ◌<◌, ℕ, ◌+◌, ◌==◌, List, [], ◌∷◌, ◌++◌, Option, Some, Bool, true, false, refl, sym, subst, ap, ◌∙◌, if◌then◌else◌, ◌&&◌, is_some, nat_lt, arith, All}
use Rattle.std.proofs.lemmas.Bool.{eqb-true}
use Rattle.std.proofs.lemmas.Bool.Decides.{nat_tests}
use Rattle.std.proofs.lemmas.List.Elements.{recursion_from_All}
use Rattle.std.specs.List.{AllByRecursion}
use Rattle.gx_ids.specs.declared.ids.SessionId.{SessionId}
use Rattle.gx_script.specs.declared.Line.{Line}
use Rattle.gx_tree.specs.declared.stmt.Stmt.{Stmt}
use Rattle.gx_store.specs.Lines.{line_count, stmt_of}
use Rattle.gx_store.specs.Language.{AreLinesNumbered, lines_in}

lines_in-push : (k : ℕ) (before : List Line) (l : Line) → lines_in k (before ++ l ∷ []) ≡ lines_in k before + (if l.session.0 == k then 1 else 0)
lines_in-push k [] l = grind (arith, nat_tests)
lines_in-push k (x ∷ before) l = grind (arith, nat_tests, lines_in-push k before l)

-- a line of the session, behind `a` others of it, or one of another session
head : (st : Stmt) (o : Option Stmt) (own : Bool) (number a n more : ℕ) → (own ≡ true → number ≡ a + 1) → a ≤ n → (a + (if own then 1 else 0) ≤ n → is_some o ≡ nat_lt n (a + (if own then 1 else 0) + more))
    → is_some (if own && (number == n + 1) then Some st else o) ≡ nat_lt n (a + (if own then more + 1 else more))
head st o false number a n more e h rest = rest (omega (arith, h)) ∙ ap (λ i. nat_lt n (i + more)) (omega arith)
head st o true number a n more e h rest = by_test (number == n + 1) refl
  where
    found : (number a n more : ℕ) → number ≡ a + 1 → (number == n + 1) ≡ true → true ≡ nat_lt n (a + (more + 1))
    found number a n more e q = grind (arith, nat_tests)

    further : (number a n : ℕ) → number ≡ a + 1 → a ≤ n → (number == n + 1) ≡ false → a + 1 ≤ n
    further number a n e h q = grind (arith, nat_tests)

    by_test : (b : Bool) → (number == n + 1) ≡ b → is_some (if b then Some st else o) ≡ nat_lt n (a + (more + 1))
    by_test true q = found number a n more (e refl) q
    by_test false q = rest (further number a n (e refl) h q) ∙ ap (nat_lt n) (omega arith)

stmt-counted : (k : SessionId) (before ls : List Line) (n : ℕ) → AreLinesNumbered before ls → lines_in k.0 before ≤ n → is_some (stmt_of k (n + 1) ls) ≡ nat_lt n (lines_in k.0 before + line_count k ls)
stmt-counted k before [] n e h = none (lines_in k.0 before) h
  where
    none : (a : ℕ) → a ≤ n → false ≡ nat_lt n (a + 0)
    none a h = grind (arith, nat_tests)
stmt-counted k before (l ∷ ls) n e h =
    head l.stmt (stmt_of k (n + 1) ls) (l.session.0 == k.0) l.number (lines_in k.0 before) n (line_count k ls) (λ q. e.0 ∙ ap (λ i. lines_in i before + 1) (eqb-true l.session.0 k.0 q)) h
    (λ f. stmt-counted k (before ++ l ∷ []) ls n e.1 (subst (λ i. i ≤ n) (sym (lines_in-push k.0 before l)) f) ∙ ap (λ i. nat_lt n (i + line_count k ls)) (lines_in-push k.0 before l))

-- behind n lines a session has another exactly where it has more than n
pub left-counted : (k : SessionId) (ls : List Line) (n : ℕ) → AreLinesNumbered [] ls → is_some (stmt_of k (n + 1) ls) ≡ nat_lt n (line_count k ls)
left-counted k ls n e = stmt-counted k [] ls n e (omega arith) ∙ ap (nat_lt n) (omega arith)

-- a session past those of all lines has none
pub line_count-past : (k : SessionId) (m : ℕ) (ls : List Line) → All (λ line. line.session.0 < m) ls → m ≤ k.0 → line_count k ls ≡ 0
line_count-past k m ls all past = each ls (recursion_from_All (λ line. line.session.0 < m) ls all)
  where
    apart : (s i : ℕ) → s < m → m ≤ i → (s == i) ≡ false
    apart s i l h = grind (arith, nat_tests)

    each : (xs : List Line) → AllByRecursion (λ line. line.session.0 < m) xs → line_count k xs ≡ 0
    each [] e = refl
    each (x ∷ xs) e = ap (λ b. if b then line_count k xs + 1 else line_count k xs) (apart x.session.0 k.0 e.0 past) ∙ each xs e.1
