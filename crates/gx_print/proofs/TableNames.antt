-- A table that was read has names of the language.
use Rattle.std.proofs.Common.{◌≡◌, ℕ, nat_le, Bool, true, false, if◌then◌else◌, List, [], ◌∷◌, ◌++◌, length, map, Option, Some, None, Ok, refl, sym, subst, arith}
use Rattle.gx_tree.specs.declared.schema.Schema.{Schema}
use Rattle.std.specs.List.{list_any}
use Rattle.gx_lex.specs.declared.word.Word.{Word}
use Rattle.gx_lex.specs.declared.word.Word.TheVariants as word_is
use Rattle.gx_lex.specs.declared.symbol.Symbol.TheVariants as symbol
use Rattle.gx_lex.specs.declared.token.Token.{Token}
use Rattle.gx_lex.specs.declared.token.Token.TheVariants as token
use Rattle.gx_lex.specs.Words.{keyword_of}
use Rattle.gx_lex.specs.Lexing.{is_capital, is_letter, is_word_byte, every, Begins, small, smalls, Lexeme, word, digits, text, sign, open_text, stray, IsLexeme, word_of, token_of, Lexes}
use Rattle.gx_grammar.specs.declared.fault.Limits.{Limits}
use Rattle.gx_grammar.specs.declared.fault.LineLimit.TheVariants as limit
use Rattle.gx_grammar.specs.Rules.{Is, Passes, many, made, behind}
use Rattle.gx_grammar.specs.Tokens.{is_word, is_sign, name_of, is_comma, listed, enclosed}
use Rattle.gx_lines.specs.declared.syn.ColumnSyn.{ColumnSyn}
use Rattle.gx_lines.specs.declared.syn.TableSyn.{TableSyn}
use Rattle.gx_lines.specs.declared.syn.LineSyn.TheVariants as line
use Rattle.gx_lines.specs.Queries as query
use Rattle.gx_lines.specs.Heads as head
use Rattle.gx_resolve.specs.Results.{◌>>=◌}
use Rattle.gx_resolve.specs.Resolving.{column_as, columns_new, dist_as, new_table}
use Rattle.gx_meaning.specs.Statements.{IsSchema}
use Rattle.gx_print.specs.Shapes.{is_small_letter, is_name_byte, IsName}
use Rattle.gx_print.specs.Limited.{Each, Some_each}
use Rattle.gx_print.specs.Reading.{IsNamed, IsColumnOf, IsTable}
use Rattle.gx_print.proofs.Resolved.{bound, same_ok}
use Rattle.gx_print.proofs.StmtWithin.{name_short}
use Rattle.gx_print.proofs.TidyWithin.{some_each_map}

-- TOKENS
-- a name among the tokens is one of the language
abbrev pub IsProper : Token → Type 0
IsProper (token.Name n) = IsName n
IsProper _ = Unit {0}

small_begins : (b : ℕ) → is_letter b ≡ true → is_small_letter (small b) ≡ true
small_begins b e = grind arith

small_goes : (b : ℕ) → is_word_byte b ≡ true → is_name_byte (small b) ≡ true
small_goes b e = grind arith

smalls_go : (w : List ℕ) → every is_word_byte w → every is_name_byte (smalls w)
smalls_go [] e = tt
smalls_go (b ∷ w) e = (small_goes b e.0, smalls_go w e.1)

smalls_begin : (w : List ℕ) → Begins is_letter is_word_byte w → Begins is_small_letter is_name_byte (smalls w)
smalls_begin [] e = absurd e
smalls_begin (b ∷ w) e = (small_begins b e.0, smalls_go w e.1)

word_proper : (k : Option Word) (w : List ℕ) (c : Bool) → Begins is_small_letter is_name_byte w → keyword_of w ≡ k → IsProper (word_of k w c)
word_proper (Some k) w c b e = tt
word_proper None w true b e = tt
word_proper None w false b e = (b, e)

lexeme_proper : (x : Lexeme) (rest : List ℕ) → IsLexeme x rest → IsProper (token_of x)
lexeme_proper (word w) rest h = word_proper (keyword_of (smalls w)) (smalls w) (list_any is_capital w) (smalls_begin w h.0) refl
lexeme_proper (digits w) rest h = tt
lexeme_proper (text t) rest h = tt
lexeme_proper (sign s) rest h = tt
lexeme_proper (open_text t) rest h = tt
lexeme_proper (stray b w) rest h = tt

pub tokens_proper : (ts : List Token) (bs : List ℕ) → Lexes ts bs → Each IsProper ts
tokens_proper [] bs w = tt
tokens_proper (t ∷ ts) bs (blanks, x, rest, p, h, k, q, w) = (subst IsProper (sym k) (lexeme_proper x rest h), tokens_proper ts rest w)

each_left : {A : Type 0} (P : A → Type 0) (us vs : List A) → Each P (us ++ vs) → Each P us
each_left P [] vs e = tt
each_left P (u ∷ us) vs e = (e.0, each_left P us vs e.1)

each_right : {A : Type 0} (P : A → Type 0) (us vs : List A) → Each P (us ++ vs) → Each P vs
each_right P [] vs e = e
each_right P (u ∷ us) vs e = each_right P us vs e.1

-- RULES
abbrev Has : {A : Type 0} → (A → List Token → Type 0) → (A → Type 0) → Type 0
Has {A = A} g P = (a : A) (ts : List Token) → Each IsProper ts → g a ts → P a

behind_has : {A : Type 0} (is : Token → Bool) (g : A → List Token → Type 0) (P : A → Type 0) → Has g P → Has (behind is g) P
behind_has is g P f a ts e (p, q, (us, vs, m, w, k)) = subst P (sym q) (f p.1 vs (each_right IsProper us vs (subst (Each IsProper) k e)) w)

many_have : {A : Type 0} (g : A → List Token → Type 0) (P : A → Type 0) → Has g P → (xs : List A) (ts : List Token) → Each IsProper ts → many g xs ts → Each P xs
many_have g P f [] ts e w = tt
many_have g P f (x ∷ xs) ts e (us, vs, a, m, k) =
    let both = subst (Each IsProper) k e in
    (f x us (each_left IsProper us vs both) a, many_have g P f xs vs (each_right IsProper us vs both) m)

list_has : {A : Type 0} (g : A → List Token → Type 0) (P : A → Type 0) → Has g P → Has (listed g) (Some_each P)
list_has g P f xs ts e (p, q, (us, vs, a, m, k)) =
    let both = subst (Each IsProper) k e in
    subst (Some_each P) (sym q) (f p.0 us (each_left IsProper us vs both) a, many_have (behind is_comma g) P (behind_has is_comma g P f) p.1 vs (each_right IsProper us vs both) m)

parens_have : {A : Type 0} (g : A → List Token → Type 0) (P : A → Type 0) → Has g P → Has (enclosed g) P
parens_have g P f a ts e (p, q, (us, vs, w, m, k)) = subst P (sym q) (behind_has (is_sign symbol.Open) g P f p.0 us (each_left IsProper us vs (subst (Each IsProper) k e)) w)

name_proper : (d : Limits) (n : List ℕ) (y : Token) → IsProper y → name_of d y ≡ Is n → IsName n
name_proper d n (token.Name m) p e = subst IsName (named (nat_le (length m) d.name) e) p where
  named : (b : Bool) → (if b then Is m else Passes limit.Name) ≡ Is n → m ≡ n
  named true e = cc
  named false e = absurd (cc)
name_proper d n (token.Word w) p e = absurd (cc)
name_proper d n (token.Number w) p e = absurd (cc)
name_proper d n (token.Text w) p e = absurd (cc)
name_proper d n (token.Symbol w) p e = absurd (cc)
name_proper d n token.Bad p e = absurd (cc)

name_named : (d : Limits) → Has (query.name d) (IsNamed d)
name_named d n ts e (y, q, k) = let f = subst (Each IsProper) k e in (name_proper d n y f.0 q, name_short d n ts (y, q, k))

abbrev IsColumnSyn : Limits → ColumnSyn → Type 0
IsColumnSyn d c = IsNamed d c.name

column_named : (d : Limits) → Has (head.column d) (IsColumnSyn d)
column_named d c ts e (p, q, (us, vs, w, m, k)) = subst (IsColumnSyn d) (sym q) (name_named d p.0 us (each_left IsProper us vs (subst (Each IsProper) k e)) w)

-- TABLES
abbrev TableNamed : Limits → TableSyn → Type 0
TableNamed d t = IsNamed d t.name × Some_each (IsColumnSyn d) t.columns

same_table : (t u : TableSyn) → line.Table t ≡ line.Table u → u ≡ t
same_table t u e = cc

table_named : (d : Limits) (t : TableSyn) (ts : List Token) → Each IsProper ts → head.table d (line.Table t) ts → TableNamed d t
table_named d t ts e (p, q, (us, vs, w, (us1, vs1, cs, m, k1), k)) =
    let both = subst (Each IsProper) k e in
    let rest = subst (Each IsProper) k1 (each_right IsProper us vs both) in
    subst (TableNamed d) (same_table t (record { name = p.0; columns = p.1.0; dist = p.1.1 }) q) (
      behind_has (is_word word_is.Table) (query.name d) (IsNamed d) (name_named d) p.0 us (each_left IsProper us vs both) w,
      parens_have (listed (head.column d)) (Some_each (IsColumnSyn d)) (list_has (head.column d) (IsColumnSyn d) (column_named d)) p.1.0 us1 (each_left IsProper us1 vs1 rest) cs,
    )

-- a table that a line of bytes declares is one that statements are read over
pub declared_table : (d : Limits) (t : TableSyn) (schema : Schema) (ts : List Token) (bs : List ℕ) → Lexes ts bs → head.table d (line.Table t) ts → new_table t ≡ Ok schema → IsSchema schema → IsTable d schema
declared_table d t schema ts bs cut spelled made is =
    let (n, c) = table_named d t ts (tokens_proper ts bs cut) spelled in
    let (u, p, h) = bound (columns_new [] t.columns) (λ u. dist_as (map column_as t.columns) t.dist >>= λ spread. Ok (record { name = t.name; columns = map column_as t.columns; dist = spread })) schema made in
    let (spread, q, h) = bound (dist_as (map column_as t.columns) t.dist) (λ spread. Ok (record { name = t.name; columns = map column_as t.columns; dist = spread })) schema h in
    let whole : Schema = record { name = t.name; columns = map column_as t.columns; dist = spread } in
    let same : whole ≡ schema = same_ok whole schema h in
    record {
      name = subst (λ (x : Schema). IsNamed d x.name) same n;
      columns = subst (λ (x : Schema). Some_each (IsColumnOf d) x.columns) same (some_each_map (IsColumnSyn d) (IsColumnOf d) column_as (λ x i. i) t.columns c);
      distinct = is.distinct;
    }
