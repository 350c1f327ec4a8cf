-- Where a token of a line begins.
use Rattle.std.specs.Prelude.{◌≡◌, ℕ, zero, suc, List, ◌++◌}
use Rattle.gx_lex.specs.Lexing.{Lexeme, IsLexeme, bytes_of}
use Rattle.gx_sql.specs.Lines.{behind_blanks}

-- the bytes behind a lexeme that stands first
abbrev pub IsBehindFirst : List ℕ → List ℕ → Type 0
IsBehindFirst bytes rest = (x : Lexeme) × IsLexeme x rest × (bytes ≡ bytes_of x ++ rest)

-- the bytes from the token on that stands behind so many others
abbrev pub IsTail : ℕ → List ℕ → List ℕ → Type 0
IsTail zero bytes tail = tail ≡ behind_blanks bytes
IsTail (suc k) bytes tail = (rest : List ℕ) × IsBehindFirst (behind_blanks bytes) rest × IsTail k rest tail
