-- The texts of a statement that was read are texts among its tokens.
use Rattle.std.proofs.Common.{◌≡◌, inl, inr, ℕ, ◌+◌, nat_le, Bool, true, false, if◌then◌else◌, List, [], ◌∷◌, ◌++◌, map, Option, Some, None, refl, sym, subst}
use Rattle.std.specs.Option.{option_map}
use Rattle.gx_lex.specs.declared.word.Word.TheVariants as word
use Rattle.gx_lex.specs.declared.symbol.Symbol.TheVariants as symbol
use Rattle.gx_lex.specs.declared.token.Token.{Token}
use Rattle.gx_lex.specs.declared.token.Token.TheVariants as token
use Rattle.gx_tree.specs.declared.schema.Column.{Column}
use Rattle.gx_tree.specs.declared.stmt.Level.{Level}
use Rattle.gx_grammar.specs.declared.fault.Limits.{Limits}
use Rattle.gx_grammar.specs.declared.syn.Syn.{Syn}
use Rattle.gx_grammar.specs.Rules.{maybe, many, behind}
use Rattle.gx_grammar.specs.Tokens.{is_word, is_sign, is_comma, listed, enclosed}
use Rattle.gx_grammar.specs.Grammar.{Shape, digits, minus_digits, text, column, parens, minus, negated, both, level, left_level, tokens_of, written, expr}
use Rattle.gx_lines.specs.declared.syn.SelectSyn.{SelectSyn}
use Rattle.gx_lines.specs.declared.syn.TupleSyn.{TupleSyn}
use Rattle.gx_lines.specs.declared.syn.AssignSyn.{AssignSyn}
use Rattle.gx_lines.specs.declared.syn.StmtSyn.{StmtSyn}
use Rattle.gx_lines.specs.declared.syn.StmtSyn.TheVariants as stmt
use Rattle.gx_lines.specs.Queries as query
use Rattle.gx_lines.specs.Statements as rule
use Rattle.gx_print.specs.Forms.{Form, enclosed_if, at_level, shape_of}
use Rattle.gx_print.specs.Limited.{Each, Maybe}
use Rattle.gx_print.proofs.Coded.{TokenOne}
use Rattle.gx_print.proofs.ShapeTexts.{TextsOne}
use Rattle.gx_print.proofs.Shallow.{form_again, form_is}
use Rattle.gx_print.proofs.Tidied.{tidy, tidy_tuple, tidy_assign, tidied}
use Rattle.gx_print.proofs.TidyForms.{tidy_texts}

-- EXPRESSIONS
texts_enclosed : (b : Bool) (s : Shape) → TextsOne s → TextsOne (enclosed_if b s)
texts_enclosed true s h = h
texts_enclosed false s h = h

texts_at : (p : ℕ) (f : Form) → TextsOne f.shape → TextsOne (at_level p f)
texts_at p f h = pick (nat_le p f.level)
  where
    pick : (b : Bool) → TextsOne (if b then f.shape else parens f.shape)
    pick true = h
    pick false = h

-- as it is printed
texts_again : (s : Shape) → TextsOne s → TextsOne (form_again s).shape
texts_again (digits n) h = tt
texts_again (minus_digits n) h = tt
texts_again (text t) h = h
texts_again (column c) h = tt
texts_again (parens s) h = texts_again s h
texts_again (minus s) h = texts_enclosed (form_again s).closed (form_again s).shape (texts_again s h)
texts_again (negated s) h = texts_at 3 (form_again s) (texts_again s h)
texts_again (both o a b) h = (texts_at (left_level o) (form_again a) (texts_again a h.0), texts_at (level o + 1) (form_again b) (texts_again b h.1))

parts : {A : Type 0} (P : A → Type 0) (us vs : List A) → Each P (us ++ vs) → Each P us × Each P vs
parts P [] vs e = (tt, e)
parts P (u ∷ us) vs e = let rest = parts P us vs e.1 in ((e.0, rest.0), rest.1)

abbrev pub AreOne : List Token → Type 0
AreOne ts = Each TokenOne ts

pub front : (ts us vs : List Token) → ts ≡ us ++ vs → AreOne ts → AreOne us
front ts us vs e h = let both = parts TokenOne us vs (subst AreOne e h) in both.0

pub back : (ts us vs : List Token) → ts ≡ us ++ vs → AreOne ts → AreOne vs
back ts us vs e h = let both = parts TokenOne us vs (subst AreOne e h) in both.1

shape_one : (s : Shape) → AreOne (tokens_of s) → TextsOne s
shape_one (digits n) h = tt
shape_one (minus_digits n) h = tt
shape_one (text t) h = h.0
shape_one (column c) h = tt
shape_one (parens s) h = shape_one s (front (tokens_of s ++ token.Symbol symbol.Close ∷ []) (tokens_of s) (token.Symbol symbol.Close ∷ []) refl h.1)
shape_one (minus s) h = shape_one s h.1
shape_one (negated s) h = shape_one s h.1
shape_one (both o a b) h =
    let all : List Token = tokens_of a ++ written o ∷ tokens_of b in
    let right = back all (tokens_of a) (written o ∷ tokens_of b) refl h in
    (shape_one a (front all (tokens_of a) (written o ∷ tokens_of b) refl h), shape_one b right.1)

abbrev pub SynOne : Syn → Type 0
SynOne t = TextsOne (shape_of t)

expr_one : (d : Limits) (t : Syn) (ts : List Token) → AreOne ts → expr d t ts → SynOne t
expr_one d t ts h (s, f, w, o, e, u) = subst SynOne (sym u) (subst (λ (g : Form). TextsOne g.shape) (sym (form_is s)) (texts_again s (shape_one s (subst AreOne e h))))

-- RULES
behind_one : {A : Type 0} (is : Token → Bool) (g : A → List Token → Type 0) (P : A → Type 0) → ((a : A) (ts : List Token) → AreOne ts → g a ts → P a) → (a : A) (ts : List Token) → AreOne ts → behind is g a ts → P a
behind_one is g P f a ts h (p, e, (us, vs, m, w, k)) = subst P (sym e) (f p.1 vs (back ts us vs k h) w)

many_one : {A : Type 0} (g : A → List Token → Type 0) (P : A → Type 0) → ((a : A) (ts : List Token) → AreOne ts → g a ts → P a) → (xs : List A) (ts : List Token) → AreOne ts → many g xs ts → Each P xs
many_one g P f [] ts h w = tt
many_one g P f (x ∷ xs) ts h (us, vs, a, m, k) = (f x us (front ts us vs k h) a, many_one g P f xs vs (back ts us vs k h) m)

list_one : {A : Type 0} (g : A → List Token → Type 0) (P : A → Type 0) → ((a : A) (ts : List Token) → AreOne ts → g a ts → P a) → (xs : List A) (ts : List Token) → AreOne ts → listed g xs ts → Each P xs
list_one g P f xs ts h (p, e, (us, vs, a, m, k)) = subst (Each P) (sym e) (f p.0 us (front ts us vs k h) a, many_one (behind is_comma g) P (behind_one is_comma g P f) p.1 vs (back ts us vs k h) m)

parens_one : {A : Type 0} (g : A → List Token → Type 0) (P : A → Type 0) → ((a : A) (ts : List Token) → AreOne ts → g a ts → P a) → (a : A) (ts : List Token) → AreOne ts → enclosed g a ts → P a
parens_one g P f a ts h (p, e, (us, vs, w, m, k)) = subst P (sym e) (behind_one (is_sign symbol.Open) g P f p.0 us (front ts us vs k h) w)

maybe_one : {A : Type 0} (g : A → List Token → Type 0) (P : A → Type 0) → ((a : A) (ts : List Token) → AreOne ts → g a ts → P a) → (o : Option A) (ts : List Token) → AreOne ts → maybe g o ts → Maybe P o
maybe_one g P f None ts h w = tt
maybe_one g P f (Some a) ts h w = f a ts h w

-- STATEMENTS
abbrev pub TupleOne : TupleSyn → Type 0
TupleOne t = Each SynOne t.values

abbrev pub AssignOne : AssignSyn → Type 0
AssignOne a = SynOne a.value

-- its texts may stand in a line
abbrev pub StmtOne : StmtSyn → Type 0
StmtOne (stmt.Select q) = Maybe SynOne q.cond
StmtOne (stmt.Insert t tuples) = Each TupleOne tuples
StmtOne (stmt.Update t assigns cond) = Each AssignOne assigns × Maybe SynOne cond
StmtOne (stmt.Delete t cond) = Maybe SynOne cond
StmtOne _ = Unit {0}

where_one : (d : Limits) (o : Option Syn) (ts : List Token) → AreOne ts → query.where_part d o ts → Maybe SynOne o
where_one d = maybe_one (behind (is_word word.Where) (expr d)) SynOne (behind_one (is_word word.Where) (expr d) SynOne (expr_one d))

select_one : (d : Limits) (q : SelectSyn) (ts : List Token) → AreOne ts → query.select d q ts → Maybe SynOne q.cond
select_one d q ts h (p, e, (us, vs, items, (us1, vs1, table, (us2, vs2, cond, rest, k2), k1), k)) =
    subst (λ (q : SelectSyn). Maybe SynOne q.cond) (sym e) (where_one d p.1.1.0 us2 (front vs1 us2 vs2 k2 (back vs us1 vs1 k1 (back ts us vs k h))) cond)

tuple_one : (d : Limits) (t : TupleSyn) (ts : List Token) → AreOne ts → rule.tuple d t ts → TupleOne t
tuple_one d t ts h (values, e, w) = subst TupleOne (sym e) (parens_one (listed (expr d)) (Each SynOne) (list_one (expr d) SynOne (expr_one d)) values ts h w)

assign_one : (d : Limits) (a : AssignSyn) (ts : List Token) → AreOne ts → rule.assign d a ts → AssignOne a
assign_one d a ts h (p, e, (us, vs, w, v, k)) = subst AssignOne (sym e) (behind_one (is_sign symbol.Equal) (expr d) SynOne (expr_one d) p.1 vs (back ts us vs k h) v)

begin_one : (o : Option Level) → StmtOne (rule.level_or o)
begin_one None = tt
begin_one (Some l) = tt

pub stmt_one : (d : Limits) (s : StmtSyn) (ts : List Token) → AreOne ts → rule.stmt d s ts → StmtOne s
stmt_one d s ts h (inl (o, e, w)) = subst StmtOne (sym e) (begin_one o)
stmt_one d s ts h (inr (inl (u, e, w))) = subst StmtOne (sym e) tt
stmt_one d s ts h (inr (inr (inl (u, e, w)))) = subst StmtOne (sym e) tt
stmt_one d s ts h (inr (inr (inr (inl (q, e, w))))) = subst StmtOne (sym e) (select_one d q ts h w)
stmt_one d s ts h (inr (inr (inr (inr (inl (p, e, (us, vs, t, v, k))))))) =
    subst StmtOne (sym e) (behind_one (is_word word.Values) (listed (rule.tuple d)) (Each TupleOne) (list_one (rule.tuple d) TupleOne (tuple_one d)) p.1 vs (back ts us vs k h) v)
stmt_one d s ts h (inr (inr (inr (inr (inr (inl (p, e, (us, vs, t, (us1, vs1, a, c, k1), k)))))))) =
    let set = back ts us vs k h in
    subst StmtOne (sym e) (
      behind_one (is_word word.Set) (listed (rule.assign d)) (Each AssignOne) (list_one (rule.assign d) AssignOne (assign_one d)) p.1.0 us1 (front vs us1 vs1 k1 set) a,
      where_one d p.1.1 vs1 (back vs us1 vs1 k1 set) c,
    )
stmt_one d s ts h (inr (inr (inr (inr (inr (inr (inl (p, e, (us, vs, t, c, k))))))))) = subst StmtOne (sym e) (where_one d p.1 vs (back ts us vs k h) c)
stmt_one d s ts h (inr (inr (inr (inr (inr (inr (inr (p, e, w)))))))) = subst StmtOne (sym e) tt

-- TIDIED
each_tidy : {A : Type 0} (P : A → Type 0) (g : A → A) → ((x : A) → P x → P (g x)) → (xs : List A) → Each P xs → Each P (map g xs)
each_tidy P g f [] e = tt
each_tidy P g f (x ∷ xs) e = (f x e.0, each_tidy P g f xs e.1)

cond_tidy : (o : Option Syn) → Maybe SynOne o → Maybe SynOne (option_map tidy o)
cond_tidy None e = tt
cond_tidy (Some t) e = tidy_texts t e

pub tidied_one : (columns : List Column) (s : StmtSyn) → StmtOne s → StmtOne (tidied columns s)
tidied_one columns (stmt.Begin l) h = tt
tidied_one columns stmt.Commit h = tt
tidied_one columns stmt.Rollback h = tt
tidied_one columns (stmt.Select q) h = cond_tidy q.cond h
tidied_one columns (stmt.Insert t tuples) h = each_tidy TupleOne tidy_tuple (λ t e. each_tidy SynOne tidy tidy_texts t.values e) tuples h
tidied_one columns (stmt.Update t assigns cond) h = (each_tidy AssignOne tidy_assign (λ a e. tidy_texts a.value e) assigns h.0, cond_tidy cond h.1)
tidied_one columns (stmt.Delete t cond) h = cond_tidy cond h
tidied_one columns (stmt.Lock t m) h = tt
