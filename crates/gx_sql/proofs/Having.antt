-- What holds of each value that a rule writes with tokens of bytes, if it holds of its parts.
use Rattle.std.proofs.Common.{◌≡◌, ℕ, ◌≤◌, nat_le, Bool, true, false, if◌then◌else◌, List, [], ◌∷◌, ◌++◌, length, Option, Some, None, refl, sym, subst, arith}
use Rattle.std.specs.List.{AllByRecursion, list_any}
use Rattle.gx_lex.specs.declared.word.Word.{Word}
use Rattle.gx_lex.specs.declared.symbol.Symbol.TheVariants as symbol
use Rattle.gx_lex.specs.declared.token.Token.{Token}
use Rattle.gx_lex.specs.declared.token.Token.TheVariants as token
use Rattle.gx_lex.specs.Words.{keyword_of}
use Rattle.gx_lex.specs.Lexing.{is_capital, is_letter, is_word_byte, every, Begins, small, smalls, Lexeme, word, digits, text, sign, open_text, stray, IsLexeme, word_of, token_of, Lexes}
use Rattle.gx_grammar.specs.declared.fault.Limits.{Limits}
use Rattle.gx_grammar.specs.declared.fault.LineLimit.TheVariants as limit
use Rattle.gx_grammar.specs.Rules.{Is, Passes, maybe, many, behind}
use Rattle.gx_grammar.specs.Tokens.{is_sign, name_of, is_comma, listed, enclosed}
use Rattle.gx_lines.specs.Queries as query
use Rattle.gx_store.specs.Limits.{is_small_letter, is_name_byte, IsWord}

abbrev pub HasOne : {A : Type 0} → List A → Type 0
HasOne [] = ⊥
HasOne (x ∷ xs) = Unit {0}

-- TOKENS
-- a name among the tokens is one of the language
abbrev pub IsProper : Token → Type 0
IsProper (token.Name n) = IsWord n
IsProper _ = Unit {0}

abbrev pub AreProper : List Token → Type 0
AreProper ts = AllByRecursion IsProper ts

small_begins : (b : ℕ) → is_letter b ≡ true → is_small_letter (small b) ≡ true
small_begins b e = grind arith

small_goes : (b : ℕ) → is_word_byte b ≡ true → is_name_byte (small b) ≡ true
small_goes b e = grind arith

smalls_go : (w : List ℕ) → every is_word_byte w → every is_name_byte (smalls w)
smalls_go [] e = tt
smalls_go (b ∷ w) e = (small_goes b e.0, smalls_go w e.1)

smalls_begin : (w : List ℕ) → Begins is_letter is_word_byte w → Begins is_small_letter is_name_byte (smalls w)
smalls_begin [] e = absurd e
smalls_begin (b ∷ w) e = (small_begins b e.0, smalls_go w e.1)

word_proper : (k : Option Word) (w : List ℕ) (c : Bool) → Begins is_small_letter is_name_byte w → keyword_of w ≡ k → IsProper (word_of k w c)
word_proper (Some k) w c b e = tt
word_proper None w true b e = tt
word_proper None w false b e = (b, e)

lexeme_proper : (x : Lexeme) (rest : List ℕ) → IsLexeme x rest → IsProper (token_of x)
lexeme_proper (word w) rest h = word_proper (keyword_of (smalls w)) (smalls w) (list_any is_capital w) (smalls_begin w h.0) refl
lexeme_proper (digits w) rest h = tt
lexeme_proper (text t) rest h = tt
lexeme_proper (sign s) rest h = tt
lexeme_proper (open_text t) rest h = tt
lexeme_proper (stray b w) rest h = tt

pub tokens_proper : (ts : List Token) (bs : List ℕ) → Lexes ts bs → AreProper ts
tokens_proper [] bs w = tt
tokens_proper (t ∷ ts) bs (blanks, x, rest, p, h, k, q, w) = (subst IsProper (sym k) (lexeme_proper x rest h), tokens_proper ts rest w)

pub front : (us vs : List Token) → AreProper (us ++ vs) → AreProper us
front [] vs e = tt
front (u ∷ us) vs e = (e.0, front us vs e.1)

pub back : (us vs : List Token) → AreProper (us ++ vs) → AreProper vs
back [] vs e = e
back (u ∷ us) vs e = back us vs e.1

-- RULES
abbrev pub Has : {A : Type 0} → (A → List Token → Type 0) → (A → Type 0) → Type 0
Has {A = A} g P = (a : A) (ts : List Token) → AreProper ts → g a ts → P a

pub behind_has : {A : Type 0} (is : Token → Bool) (g : A → List Token → Type 0) (P : A → Type 0) → Has g P → Has (behind is g) P
behind_has is g P f a ts e (p, q, (us, vs, m, w, k)) = subst P (sym q) (f p.1 vs (back us vs (subst AreProper k e)) w)

many_have : {A : Type 0} (g : A → List Token → Type 0) (P : A → Type 0) → Has g P → (xs : List A) (ts : List Token) → AreProper ts → many g xs ts → AllByRecursion P xs
many_have g P f [] ts e w = tt
many_have g P f (x ∷ xs) ts e (us, vs, a, m, k) =
    let both = subst AreProper k e in
    (f x us (front us vs both) a, many_have g P f xs vs (back us vs both) m)

-- one at least, and each so
abbrev pub AreSome : {A : Type 0} → (A → Type 0) → List A → Type 0
AreSome P xs = HasOne xs × AllByRecursion P xs

pub list_has : {A : Type 0} (g : A → List Token → Type 0) (P : A → Type 0) → Has g P → Has (listed g) (AreSome P)
list_has g P f xs ts e (p, q, (us, vs, a, m, k)) =
    let both = subst AreProper k e in
    subst (AreSome P) (sym q) (tt, (f p.0 us (front us vs both) a, many_have (behind is_comma g) P (behind_has is_comma g P f) p.1 vs (back us vs both) m))

pub parens_have : {A : Type 0} (g : A → List Token → Type 0) (P : A → Type 0) → Has g P → Has (enclosed g) P
parens_have g P f a ts e (p, q, (us, vs, w, m, k)) = subst P (sym q) (behind_has (is_sign symbol.Open) g P f p.0 us (front us vs (subst AreProper k e)) w)

-- where there is one, it is so
abbrev pub Maybe : {A : Type 0} → (A → Type 0) → Option A → Type 0
Maybe P None = Unit {0}
Maybe P (Some a) = P a

pub maybe_has : {A : Type 0} (g : A → List Token → Type 0) (P : A → Type 0) → Has g P → Has (maybe g) (Maybe P)
maybe_has g P f None ts e w = tt
maybe_has g P f (Some a) ts e w = f a ts e w

-- a name of the language that is short enough
abbrev pub IsNamed : Limits → List ℕ → Type 0
IsNamed d n = (length n ≤ d.name) × IsWord n

name_is : (d : Limits) (n : List ℕ) (y : Token) → IsProper y → name_of d y ≡ Is n → IsNamed d n
name_is d n (token.Name m) p e = pick (nat_le (length m) d.name) refl e
  where
    pick : (b : Bool) → nat_le (length m) d.name ≡ b → (if b then Is m else Passes limit.Name) ≡ Is n → IsNamed d n
    pick true q e =
        let same : m ≡ n = cc in
        let to : length m ≤ d.name = grind arith in
        subst (IsNamed d) same (to, p)
    pick false q e = absurd cc
name_is d n (token.Word w) p e = absurd cc
name_is d n (token.Number w) p e = absurd cc
name_is d n (token.Text w) p e = absurd cc
name_is d n (token.Symbol w) p e = absurd cc
name_is d n token.Bad p e = absurd cc

pub name_named : (d : Limits) → Has (query.name d) (IsNamed d)
name_named d n ts e (y, q, k) = let f = subst AreProper k e in name_is d n y f.0 q
