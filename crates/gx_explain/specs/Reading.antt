-- What the lines of a script come to, and the lines before the first that is refused.
use Rattle.std.specs.Prelude.{◌≡◌, ◌⊎◌, ℕ, ◌+◌, false, List, [], ◌∷◌, Option, Some, None, Result, Ok, Err}
use Rattle.gx_lex.specs.declared.token.Token.{Token}
use Rattle.gx_lex.specs.Lexing.{Lexes}
use Rattle.gx_script.specs.declared.Script.{Script}
use Rattle.gx_sql.specs.declared.refusal.Limit.TheVariants as limit
use Rattle.gx_sql.specs.declared.refusal.LineFault.{LineFault}
use Rattle.gx_sql.specs.declared.refusal.LineFault.TheVariants as fault
use Rattle.gx_sql.specs.Lines.{is_skipped}
use Rattle.gx_sql.specs.Progress.{Progress}
use Rattle.gx_sql.specs.Script.{LineSays, ReadsOn, Where, refused}
use Rattle.gx_explain.specs.declared.reading.Ending.{Ending}
use Rattle.gx_explain.specs.declared.reading.Ending.TheVariants as ending

-- Of lines that are counted from a number on, behind what was said before: the lines before this one say so much, and these are left, it
-- the first of them.
abbrev pub Comes : ℕ → Progress → List (List ℕ) → ℕ → Progress → List (List ℕ) → Type 0
Comes number p [] n q rest = (number ≡ n) × (p ≡ q) × (rest ≡ [])
Comes number p (line ∷ lines) n q rest = ((number ≡ n) × (p ≡ q) × (rest ≡ line ∷ lines))
    ⊎ Where (is_skipped line) (Comes (number + 1) p lines n q rest) ((said : Progress) × LineSays p line (Ok said) × Comes (number + 1) said lines n q rest)

-- a line says this behind what was said before; or it has a fault and these tokens, and nothing is added
abbrev pub IsSaid : List ℕ → Progress → Progress → List Token → Option LineFault → Type 0
IsSaid line p q ts None = Where (is_skipped line) (q ≡ p) (LineSays p line (Ok q))
IsSaid line p q ts (Some f) = (is_skipped line ≡ false) × (q ≡ p) × LineSays p line (Err f) × Lexes ts line

-- the tokens of the line that stands first, where there is one
abbrev pub AreFirst : List Token → List (List ℕ) → Type 0
AreFirst ts [] = Unit {0}
AreFirst ts (line ∷ lines) = Lexes ts line

-- lines that end are a script where they told the segments
abbrev pub ended : ℕ → Option ℕ → Ending
ended number None = ending.Refused number fault.Syntax
ended number (Some n) = ending.Whole

-- behind as many lines as there may be a further one is refused
abbrev pub IsBehindAll : Progress → List (List ℕ) → List Token → Ending → Type 0
IsBehindAll p [] ts e = e ≡ ended 100001 p.segments
IsBehindAll p (line ∷ lines) ts e = (e ≡ ending.Refused 100001 (fault.TooMany limit.Lines)) × Lexes ts line

-- behind what was said before lines are read as a script; or they are refused for a fault of one of them, before which so much is said, and
-- which stands first in the rest, with these tokens
abbrev pub IsEnding : Progress → List (List ℕ) → Progress → List (List ℕ) → List Token → Ending → Type 0
IsEnding p lines q rest ts ending.Whole = (script : Script) × ReadsOn 1 p lines (Ok script)
IsEnding p lines q rest ts (ending.Refused number f) = ReadsOn 1 p lines (Err (refused number f)) × Comes 1 p lines number q rest × AreFirst ts rest
