-- No line of a script is longer than its bytes, no line has more tokens than bytes, and no list more items behind the first than tokens.
use Rattle.std.proofs.Common.{◌∙◌, ℕ, ◌+◌, ◌≤◌, ◌==◌, suc, Bool, true, false, ◌&&◌, if◌then◌else◌, List, [], ◌∷◌, ◌++◌, length, ap, arith}
use Rattle.std.specs.List.{AllByRecursion}
use Rattle.std.proofs.lemmas.List.{length-append}
use Rattle.gx_lex.specs.declared.symbol.Symbol.{Symbol}
use Rattle.gx_lex.specs.declared.token.Token.{Token}
use Rattle.gx_lex.specs.Symbols.{bytes_of_symbol}
use Rattle.gx_lex.specs.Lexing.{Lexeme, word, digits, text, sign, open_text, stray, bytes_of, IsLexeme, Lexes}
use Rattle.gx_grammar.specs.Rules.{behind, many}
use Rattle.gx_grammar.specs.Tokens.{is_comma}
use Rattle.gx_sql.specs.Lines.{begins, before, fed_lines, lines_of, without_returns}

-- TOKENS
sign-some : (s : Symbol) → 1 ≤ length (bytes_of_symbol s)
sign-some s = grind arith

some : (x : Lexeme) (rest : List ℕ) → IsLexeme x rest → 1 ≤ length (bytes_of x)
some (word []) rest is = absurd is.0
some (word (b ∷ bs)) rest is = omega arith
some (digits []) rest is = absurd is.0
some (digits (b ∷ bs)) rest is = omega arith
some (text t) rest is = omega arith
some (sign s) rest is = sign-some s
some (open_text t) rest is = omega arith
some (stray b w) rest is = omega arith

pub tokens-few : (ts : List Token) (bs : List ℕ) → Lexes ts bs → length ts ≤ length bs
tokens-few [] bs l = omega arith
tokens-few (t ∷ ts) bs (blanks, x, rest, blank, is, token, cut, more) =
    let one = some x rest is in
    let few = tokens-few ts rest more in
    let whole = ap length cut ∙ length-append blanks (bytes_of x ++ rest) in
    let behind = length-append (bytes_of x) rest in
    omega (arith, one, few, whole, behind)

-- LISTS
pub items-few : {A : Type 0} (g : A → List Token → Type 0) (s : List A) (ts : List Token) → many (behind is_comma g) s ts → length s ≤ length ts
items-few g [] ts e = omega arith
items-few g (a ∷ s) ts (us, vs, (p, f, (ws, xs, (y, is, one), k, cut)), more, all) =
    let few = items-few g s vs more in
    let first = ap length cut ∙ length-append ws xs in
    let comma = ap length one in
    let whole = ap length all ∙ length-append us vs in
    omega (arith, few, first, comma, whole)

-- LINES
abbrev pub AreShort : ℕ → List (List ℕ) → Type 0
AreShort most ls = AllByRecursion (λ (l : List ℕ). length l ≤ most) ls

shorter : (m n : ℕ) (ls : List (List ℕ)) → m ≤ n → AreShort m ls → AreShort n ls
shorter m n [] more all = tt
shorter m n (l ∷ ls) more all = let short = all.0 in (omega (arith, more, short), shorter m n ls more all.1)

without-few : (bs : List ℕ) → length (without_returns bs) ≤ length bs
without-few [] = omega arith
without-few (b ∷ bs) = pick ((b == 13) && begins 10 bs) (without-few bs)
  where
    pick : (c : Bool) → length (without_returns bs) ≤ length bs → length (if c then without_returns bs else b ∷ without_returns bs) ≤ length (b ∷ bs)
    pick true few = omega (arith, few)
    pick false few = omega (arith, few)

before-short : (b m : ℕ) (ls : List (List ℕ)) → AreShort m ls → AreShort (suc m) (before b ls)
before-short b m [] all = (omega arith, tt)
before-short b m (l ∷ ls) all = let short = all.0 in (omega (arith, short), shorter m (suc m) ls (omega arith) all.1)

fed-short : (bs : List ℕ) → AreShort (length bs) (fed_lines bs)
fed-short [] = tt
fed-short (b ∷ bs) = pick (b == 10) (fed-short bs)
  where
    pick : (c : Bool) → AreShort (length bs) (fed_lines bs) → AreShort (length (b ∷ bs)) (if c then [] ∷ fed_lines bs else before b (fed_lines bs))
    pick true all = (omega arith, shorter (length bs) (length (b ∷ bs)) (fed_lines bs) (omega arith) all)
    pick false all = before-short b (length bs) (fed_lines bs) all

pub lines-short : (most : ℕ) (bytes : List ℕ) → length bytes ≤ most → AreShort most (lines_of bytes)
lines-short most bytes few =
    let less = without-few bytes in
    shorter (length (without_returns bytes)) most (lines_of bytes) (omega (arith, few, less)) (fed-short (without_returns bytes))
