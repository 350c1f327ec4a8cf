-- The reader of a table's line up to its last column.
use Rattle.std.specs.Prelude.{◌≡◌, ℕ, Bool, false, List, ◌∷◌, length}
use Rattle.gx_lex.specs.declared.token.Token.{Token}
use Rattle.gx_lex.specs.declared.token.Token.TheVariants as token
use Rattle.gx_lex.specs.declared.word.Word.TheVariants as word
use Rattle.gx_lex.specs.declared.symbol.Symbol.TheVariants as symbol
use Rattle.gx_grammar.specs.declared.fault.Limits.{Limits}
use Rattle.gx_grammar.specs.Rules.{Reading, both_at, behind_at}
use Rattle.gx_grammar.specs.Tokens.{is_word, is_sign, listed_at}
use Rattle.gx_lines.specs.declared.syn.ColumnSyn.{ColumnSyn}
use Rattle.gx_lines.specs.Queries.{name_at}
use Rattle.gx_lines.specs.Heads.{column_at}
use Rattle.gx_sql.specs.Counts.{begun_table}

abbrev pub begun_table_at : Limits → List Token → Reading (List ℕ × List ColumnSyn)
begun_table_at d = both_at (behind_at (is_word word.Table) (name_at d)) (behind_at (is_sign symbol.Open) (listed_at (column_at d)))

-- the tokens are a table's line up to its 32nd column
abbrev pub IsFull : Limits → List Token → Type 0
IsFull d ts = (table : List ℕ × List ColumnSyn) × begun_table d table ts × (length table.1 ≡ 32)

-- a comma and a name
abbrev pub goes_on : List Token → Bool
goes_on (y ∷ token.Name name ∷ rest) = is_sign symbol.Comma y
goes_on _ = false
