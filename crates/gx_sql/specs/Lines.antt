-- The lines of a script's bytes.
use Rattle.std.specs.Prelude.{ℕ, ◌==◌, Bool, true, false, ◌&&◌, if◌then◌else◌, List, [], ◌∷◌, drop}
use Rattle.std.specs.List.{prefix_len}
use Rattle.gx_lex.specs.Lexing.{is_blank}

abbrev pub begins : ℕ → List ℕ → Bool
begins byte [] = false
begins byte (b ∷ bs) = b == byte

-- the bytes without the carriage returns that stand directly before a line feed, one for each
abbrev pub without_returns : List ℕ → List ℕ
without_returns [] = []
without_returns (b ∷ bs) = if (b == 13) && begins 10 bs then without_returns bs else b ∷ without_returns bs

-- a byte before the first line
abbrev pub before : ℕ → List (List ℕ) → List (List ℕ)
before b [] = (b ∷ []) ∷ []
before b (l ∷ ls) = (b ∷ l) ∷ ls

-- each line ends with a line feed, which the last may lack
abbrev pub fed_lines : List ℕ → List (List ℕ)
fed_lines [] = []
fed_lines (b ∷ bs) = if b == 10 then [] ∷ fed_lines bs else before b (fed_lines bs)

abbrev pub lines_of : List ℕ → List (List ℕ)
lines_of bs = fed_lines (without_returns bs)

abbrev pub behind_blanks : List ℕ → List ℕ
behind_blanks line = drop (prefix_len is_blank line) line

-- nothing, or a comment
abbrev pub is_nothing : List ℕ → Bool
is_nothing [] = true
is_nothing (b ∷ bs) = (b == 45) && begins 45 bs

-- a line that is skipped
abbrev pub is_skipped : List ℕ → Bool
is_skipped line = is_nothing (behind_blanks line)
