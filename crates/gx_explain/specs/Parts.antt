-- Where the parts of a statement stand among the tokens of its line.
use Rattle.std.specs.Prelude.{ℕ, ◌+◌, ◌-◌, ◌==◌, Bool, true, false, not, ◌&&◌, ◌||◌, if◌then◌else◌, List, [], ◌∷◌, ◌++◌}
use Rattle.std.specs.List.{prefix_len}
use Rattle.gx_lex.specs.declared.token.Token.{Token}
use Rattle.gx_lex.specs.declared.token.Token.TheVariants as token
use Rattle.gx_lex.specs.declared.word.Word.{Word}
use Rattle.gx_lex.specs.declared.word.Word.TheVariants as word
use Rattle.gx_lex.specs.declared.symbol.Symbol.TheVariants as symbol
use Rattle.gx_grammar.specs.Tokens.{is_word, is_sign, is_comma}
use Rattle.gx_tree.specs.declared.schema.Column.{Column}
use Rattle.gx_resolve.specs.Naming.{is_column, is_among}

-- how many tokens stand before the first that is this word
abbrev pub before_word : Word → List Token → ℕ
before_word w ts = prefix_len (λ y. not (is_word w y)) ts

-- the parentheses that are open behind a token, and the parts that are left before the one that is looked for; a comma within parentheses ends no part
abbrev pub depth_behind : ℕ → Token → ℕ
depth_behind depth y = if is_sign symbol.Open y then depth + 1 else if is_sign symbol.Close y then depth - 1 else depth

abbrev pub parts_behind : ℕ → ℕ → Token → ℕ
parts_behind k depth y = if (depth == 0) && is_comma y then k - 1 else k

-- how many tokens stand before a part of a list between commas, where so many parts and so many open parentheses stand before it
abbrev pub before_part : ℕ → ℕ → List Token → ℕ
before_part k depth [] = 0
before_part k depth (y ∷ ts) = if k == 0 then 0 else before_part (parts_behind k depth y) (depth_behind depth y) ts + 1

-- the name of a table stands behind one of these words
abbrev pub is_table_word : Token → Bool
is_table_word y = is_word word.From y || (is_word word.Into y || (is_word word.Update y || is_word word.Table y))

-- how many tokens stand before the name of the table
abbrev pub before_table : List Token → ℕ
before_table ts = prefix_len (λ y. not (is_table_word y)) ts + 1

-- a name that is no column, and no table's
abbrev pub is_unknown : List Column → Bool → Token → Bool
is_unknown columns behind (token.Name n) = not behind && not (is_column columns n)
is_unknown columns behind _ = false

-- how many tokens stand before the first such name
abbrev pub before_unknown : List Column → Bool → List Token → ℕ
before_unknown columns behind [] = 0
before_unknown columns behind (y ∷ ts) = if is_unknown columns behind y then 0 else before_unknown columns (is_table_word y) ts + 1

-- behind these tokens stands the name of a column that SET assigns, or of one that a table line declares
abbrev pub opens : Bool → Token → Bool
opens true y = is_word word.Set y || is_comma y
opens false y = is_sign symbol.Open y || is_comma y

-- a name at such a place that stood at one before
abbrev pub is_repeated : List (List ℕ) → Bool → Token → Bool
is_repeated names opened (token.Name n) = opened && is_among names n
is_repeated names opened _ = false

abbrev pub with_name : List (List ℕ) → Bool → Token → List (List ℕ)
with_name names true (token.Name n) = names ++ n ∷ []
with_name names _ _ = names

-- how many tokens stand before the first such name
abbrev pub before_repeated : Bool → List (List ℕ) → Bool → List Token → ℕ
before_repeated assigned names opened [] = 0
before_repeated assigned names opened (y ∷ ts) = if is_repeated names opened y then 0 else before_repeated assigned (with_name names opened y) (opens assigned y) ts + 1
