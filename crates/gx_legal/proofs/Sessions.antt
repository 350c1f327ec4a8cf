-- Sessions one by one.
use Rattle.std.proofs.Common.{◌≡◌, ◌↔◌, ◌<◌, ◌≤◌, ◌+◌, ◌++◌, ◌&&◌, ◌==◌, ℕ, Bool, true, false, if◌then◌else◌, IsTrue, Option, List, [], ◌∷◌, Some, None, All, length, refl, subst, eqb, cond, suc, arith}
use Rattle.std.proofs.lemmas.List.{length-append}
use Rattle.std.specs.List.{AllByRecursion}
use Rattle.std.proofs.lemmas.Bool.{eqb-true}
use Rattle.gx_ids.specs.declared.ids.SessionId.{SessionId}
use Rattle.gx_lemmas.proofs.Numbers.{lt-next}
use Rattle.gx_lemmas.proofs.Options.{some-same}
use Rattle.gx_lemmas.proofs.Tests.{and-first, and-second, true-false}
use Rattle.gx_meaning.specs.Statements.{IsStmtOf}
use Rattle.gx_script.specs.declared.Line.{Line}
use Rattle.gx_script.specs.declared.Script.{Script}
use Rattle.gx_store.specs.Language.{AreLinesNumbered, IsLine, IsScript, lines_in}
use Rattle.gx_store.specs.Lines.{BlockState, Failed, InBlock, Outside, next_stmt, state_after, state_after_line, state_from, state_of, stmt_of}
use Rattle.gx_store.specs.Marks.{answer_count, is_same_session}
use Rattle.gx_store.specs.declared.answer.StmtAnswer.{StmtAnswer}
use Rattle.gx_store.specs.declared.answer.StmtAnswer.TheVariants as answer
use Rattle.gx_store.specs.declared.mark.Mark.{Mark}
use Rattle.gx_store.specs.declared.mark.Mark.TheVariants as mark
use Rattle.gx_tree.specs.declared.stmt.Stmt.TheVariants as line_is
use Rattle.gx_legal.specs.Standings.{HasNumber, commands_of}
use Rattle.gx_tree.specs.declared.schema.Schema.{Schema}
use Rattle.gx_tree.specs.declared.stmt.Stmt.{Stmt}

-- none of the sessions below a number, and not the one of that number
pub none-up-to : (P : SessionId → Type 0) (n : ℕ) → ((s : SessionId) → s.0 < n → P s → ⊥) → (P (record { 0 = n }) → ⊥) → (s : SessionId) → s.0 < n + 1 → P s → ⊥
none-up-to P n below here s inside p = by_test (eqb s.0 n) refl
  where
    by_test : (b : Bool) → eqb s.0 n ≡ b → ⊥
    by_test true e = here (subst (λ (k : ℕ). P (record { 0 = k })) (eqb-true s.0 n e) p)
    by_test false e = below s (lt-next s.0 n inside e) p

-- a line of the script keeps the rules over its tables
pub stmt-inside : (tables : List Schema) (count : ℕ) (session : SessionId) (number : ℕ) (lines : List Line) (stmt : Stmt) → All (IsLine tables count) lines
    → stmt_of session number lines ≡ Some stmt → IsStmtOf tables stmt
stmt-inside tables count session number [] stmt are e = absurd (cc)
stmt-inside tables count session number (l ∷ ls) stmt are e = by_test (is_same_session l.session session && (l.number == number)) e
    (stmt-inside tables count session number ls stmt (λ k d i. are (suc k) d (omega arith)))
  where
    by_test : (b : Bool) → cond b (Some l.stmt) (stmt_of session number ls) ≡ Some stmt → (stmt_of session number ls ≡ Some stmt → IsStmtOf tables stmt) → IsStmtOf tables stmt
    by_test true f rest = subst (IsStmtOf tables) (some-same l.stmt stmt f) (are 0 l (omega arith)).1
    by_test false f rest = rest f

-- each line of a script with this number keeps what all of them keep
pub stmt-keeps : (P : Line → Type 0) (Q : Stmt → Type 0) → ((l : Line) → P l → Q l.stmt) → (session : SessionId) (number : ℕ) (lines : List Line) (stmt : Stmt) → AllByRecursion P lines
    → stmt_of session number lines ≡ Some stmt → Q stmt
stmt-keeps P Q give session number [] stmt all e = absurd (cc)
stmt-keeps P Q give session number (l ∷ ls) stmt all e = by_test (is_same_session l.session session && (l.number == number)) e (stmt-keeps P Q give session number ls stmt all.1)
  where
    by_test : (b : Bool) → cond b (Some l.stmt) (stmt_of session number ls) ≡ Some stmt → (stmt_of session number ls ≡ Some stmt → Q stmt) → Q stmt
    by_test true f rest = subst Q (some-same l.stmt stmt f) (give l all.0)
    by_test false f rest = rest f

-- NUMBERS OF COMMANDS
in-few : (session : ℕ) (lines : List Line) → lines_in session lines ≤ length lines
in-few session [] = omega arith
in-few session (l ∷ ls) = by_test (l.session.0 == session) (in-few session ls)
  where
    by_test : (b : Bool) → lines_in session ls ≤ length ls → (if b then lines_in session ls + 1 else lines_in session ls) ≤ length (l ∷ ls)
    by_test true few = omega (arith, few)
    by_test false few = omega (arith, few)

-- a line's number is at most the count of lines
number-few : (session : SessionId) (number : ℕ) (earlier lines : List Line) (stmt : Stmt) → AreLinesNumbered earlier lines → stmt_of session number lines ≡ Some stmt → number ≤ length earlier + length lines
number-few session number earlier [] stmt numbers e = absurd (cc)
number-few session number earlier (l ∷ ls) stmt numbers e = by_test (is_same_session l.session session && (l.number == number)) refl e (number-few session number (earlier ++ l ∷ []) ls stmt numbers.1)
  where
    longer : length (earlier ++ l ∷ []) ≡ length earlier + 1
    longer = length-append earlier (l ∷ [])

    by_test : (b : Bool) → (is_same_session l.session session && (l.number == number)) ≡ b → cond b (Some l.stmt) (stmt_of session number ls) ≡ Some stmt
        → (stmt_of session number ls ≡ Some stmt → number ≤ length (earlier ++ l ∷ []) + length ls) → number ≤ length earlier + length (l ∷ ls)
    by_test true same f rest =
        let is : l.number ≡ number = eqb-true l.number number (and-second (is_same_session l.session session) _ same) in
        let few = in-few l.session.0 earlier in
        let told = numbers.0 in
        omega (arith, is, few, told)
    by_test false other f rest =
        let few = rest f in
        omega (arith, few, longer)

after-few : (state : BlockState) (stmt : Stmt) (reply : StmtAnswer) → commands_of (state_after state stmt reply) ≤ commands_of state + 1
after-few Outside (line_is.Begin level) reply = omega arith
after-few Outside line reply = omega arith
after-few (InBlock level commands) (line_is.Begin other) reply = omega arith
after-few (InBlock level commands) line_is.Commit reply = omega arith
after-few (InBlock level commands) line_is.Rollback reply = omega arith
after-few (InBlock level commands) line (answer.Refused reason) = omega arith
after-few (InBlock level commands) line reply = omega arith
after-few Failed line_is.Commit reply = omega arith
after-few Failed line_is.Rollback reply = omega arith
after-few Failed line reply = omega arith

line-few : (state : BlockState) (line : Option Stmt) (reply : StmtAnswer) → commands_of (state_after_line state line reply) ≤ commands_of state + 1
line-few state None reply = omega arith
line-few state (Some stmt) reply = after-few state stmt reply

-- a block has had no more commands than its session had answers
from-few : (script : Script) (session : SessionId) (state : BlockState) (marks : List Mark) → commands_of (state_from script session state marks) ≤ commands_of state + answer_count session marks
from-few script session state [] = omega arith
from-few script session state (mark.Answer s n reply ∷ ms) = by_test (is_same_session s session)
    (from-few script session (state_after_line state (stmt_of session n script.lines) reply) ms) (from-few script session state ms)
  where
    Then : BlockState
    Then = state_after_line state (stmt_of session n script.lines) reply

    by_test : (b : Bool) → commands_of (state_from script session Then ms) ≤ commands_of Then + answer_count session ms
        → commands_of (state_from script session state ms) ≤ commands_of state + answer_count session ms
        → commands_of (state_from script session (if b then Then else state) ms) ≤ commands_of state + (if b then answer_count session ms + 1 else answer_count session ms)
    by_test true few same = let one = line-few state (stmt_of session n script.lines) reply in omega (arith, few, one)
    by_test false few same = same
from-few script session state (m ∷ ms) = from-few script session state ms

-- where a session has a line under way, its next command has a number of 32 bits
pub number-there : (script : Script) (session : SessionId) (marks : List Mark) (stmt : Stmt) → IsScript script → next_stmt session script marks ≡ Some stmt → HasNumber (state_of script session marks)
number-there script session marks stmt is next =
    let few = number-few session (answer_count session marks + 1) [] script.lines stmt is.numbers next in
    let least = from-few script session Outside marks in
    let lines = is.few_lines in
    omega (arith, few, least, lines)

-- a session with a line is one of the script
pub session-inside : (tables : List Schema) (count : ℕ) (session : SessionId) (number : ℕ) (lines : List Line) (stmt : Stmt) → All (IsLine tables count) lines
    → stmt_of session number lines ≡ Some stmt → session.0 < count
session-inside tables count session number [] stmt are e = absurd (cc)
session-inside tables count session number (l ∷ ls) stmt are e = by_test (is_same_session l.session session && (l.number == number)) refl e
    (session-inside tables count session number ls stmt (λ k d i. are (suc k) d (omega arith)))
  where
    by_test : (b : Bool) → (is_same_session l.session session && (l.number == number)) ≡ b → cond b (Some l.stmt) (stmt_of session number ls) ≡ Some stmt
        → (stmt_of session number ls ≡ Some stmt → session.0 < count) → session.0 < count
    by_test true same f rest = subst (λ (k : ℕ). k < count) (eqb-true l.session.0 session.0 (and-first _ _ same)) (are 0 l (omega arith)).0
    by_test false other f rest = rest f

pub no-longer : {P : Type 0} (b : Bool) → IsTrue b ↔ P → b ≡ false → P → ⊥
no-longer b h e p = true-false b (h.1 p) e
