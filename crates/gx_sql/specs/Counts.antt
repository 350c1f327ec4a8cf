-- The counts that a line may pass at a name in it. There the count decides, whatever the name is and whatever follows.
use Rattle.std.specs.Prelude.{◌≡◌, ℕ, nat_le, nat_eq, Bool, true, false, not, ◌&&◌, ◌||◌, List, [], ◌∷◌, ◌++◌, length}
use Rattle.std.specs.Cmp.Lexicographic.{pointwise}
use Rattle.gx_lex.specs.declared.token.Token.{Token}
use Rattle.gx_lex.specs.declared.token.Token.TheVariants as token
use Rattle.gx_lex.specs.declared.word.Word.TheVariants as word
use Rattle.gx_lex.specs.declared.symbol.Symbol.TheVariants as symbol
use Rattle.gx_grammar.specs.declared.fault.Limits.{Limits}
use Rattle.gx_grammar.specs.Rules.{both, behind}
use Rattle.gx_grammar.specs.Tokens.{is_word, is_sign, listed}
use Rattle.gx_lines.specs.declared.syn.ColumnSyn.{ColumnSyn}
use Rattle.gx_lines.specs.Queries.{name}
use Rattle.gx_lines.specs.Heads.{column}
use Rattle.gx_sql.specs.declared.refusal.Limit.{Limit}
use Rattle.gx_sql.specs.declared.refusal.Limit.TheVariants.{Sessions, Tables, Groups, Columns}

abbrev pub is_session : List ℕ → List (List ℕ × ℕ) → Bool
is_session name [] = false
is_session name (s ∷ ss) = pointwise nat_eq name s.0 || is_session name ss

-- the line is one of a 65th session
abbrev pub passes_sessions : List (List ℕ × ℕ) → List Token → Bool
passes_sessions sessions (token.Name name ∷ rest) = nat_le 64 (length sessions) && not (is_session name sessions)
passes_sessions sessions _ = false

-- the line is that of a 65th table
abbrev pub passes_tables : ℕ → List Token → Bool
passes_tables tables (y ∷ token.Name name ∷ rest) = nat_le 64 tables && is_word word.Table y
passes_tables tables _ = false

-- the line is that of a 65th group
abbrev pub passes_groups : ℕ → List Token → Bool
passes_groups groups (y ∷ token.Name name ∷ rest) = nat_le 64 groups && is_word word.Group y
passes_groups groups _ = false

-- "table" NAME "(" col { "," col }
abbrev pub begun_table : Limits → List ℕ × List ColumnSyn → List Token → Type 0
begun_table d = both (behind (is_word word.Table) (name d)) (behind (is_sign symbol.Open) (listed (column d)))

-- a table's line goes on with the name of a 33rd column
pub record PassesColumns (d : Limits) (ts : List Token) : Type 0 where
  pub begun : List Token
  pub table : List ℕ × List ColumnSyn
  pub written : begun_table d table begun
  pub full : length table.1 ≡ 32
  pub further : List ℕ
  pub rest : List Token
  pub tokens : ts ≡ begun ++ token.Symbol symbol.Comma ∷ token.Name further ∷ rest

-- where a head may stand
abbrev pub PassesInHead : Limits → ℕ → ℕ → List (List ℕ × ℕ) → List Token → Limit → Type 0
PassesInHead d tables groups sessions ts Sessions = passes_sessions sessions ts ≡ true
PassesInHead d tables groups sessions ts Tables = passes_tables tables ts ≡ true
PassesInHead d tables groups sessions ts Groups = passes_groups groups ts ≡ true
PassesInHead d tables groups sessions ts Columns = (passes_tables tables ts ≡ false) × PassesColumns d ts
PassesInHead d tables groups sessions ts _ = ⊥

-- where a session's line came before
abbrev pub PassesInLine : List (List ℕ × ℕ) → List Token → Limit → Type 0
PassesInLine sessions ts Sessions = passes_sessions sessions ts ≡ true
PassesInLine sessions ts _ = ⊥
