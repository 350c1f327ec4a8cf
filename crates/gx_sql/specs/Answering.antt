-- What the reader of a whole script answers.
use Rattle.std.specs.Prelude.{◌≡◌, ℕ, List, [], Result, Ok, Err}
use Rattle.gx_script.specs.declared.Script.{Script}
use Rattle.gx_sql.specs.declared.refusal.LineFault.{LineFault}
use Rattle.gx_sql.specs.declared.refusal.Refusal.{Refusal}
use Rattle.gx_sql.specs.declared.refusal.Refusal.TheVariants as refusal
use Rattle.gx_sql.specs.Lines.{is_skipped}
use Rattle.gx_sql.specs.Progress.{Progress}
use Rattle.gx_sql.specs.Script.{Where, LineSays, ReadsOn, refused}

-- the answer is of those that may be given, unless memory ran out
abbrev pub Answers : (Result Script Refusal → Type 0) → Result Script Refusal → Type 0
Answers may (Err refusal.OutOfMemory) = Unit {0}
Answers may r = may r

-- the answer is this one, unless memory ran out
abbrev pub Is : Result Script Refusal → Result Script Refusal → Type 0
Is (Err refusal.OutOfMemory) r = Unit {0}
Is a r = a ≡ r

-- a line that is skipped says nothing; another says what it left, or gets the line's refusal
abbrev pub Steps : ℕ → List ℕ → Progress → Result (Unit {0}) Refusal → Progress → Type 0
Steps number line p (Ok _) q = Where (is_skipped line) (q ≡ p) (LineSays p line (Ok q))
Steps number line p (Err refusal.OutOfMemory) q = Unit {0}
Steps number line p (Err e) q = Where (is_skipped line) ⊥ ((f : LineFault) × LineSays p line (Err f) × (e ≡ refused number f))

-- lines were added, and what is answered behind them all is their answer; or their answer is this refusal
abbrev pub Adds : Progress → List (List ℕ) → Progress → Result ℕ Refusal → Type 0
Adds p lines q (Ok number) = (r : Result Script Refusal) → ReadsOn number q [] r → ReadsOn 1 p lines r
Adds p lines q (Err e) = Answers (ReadsOn 1 p lines) (Err e)
