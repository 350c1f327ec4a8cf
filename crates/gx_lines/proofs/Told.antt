-- A word or a sign is told by its number.
use Rattle.std.proofs.Common.{◌≡◌, ℕ, ◌==◌, zero, suc, true, false, List, [], ◌∷◌, Option, Some, None, refl, sym, ◌∙◌, ap, arith}
use Rattle.gx_lex.specs.Words as words
use Rattle.gx_lex.specs.Symbols as symbols
use Rattle.gx_lex.specs.declared.word.Word.{Word}
use Rattle.gx_lex.specs.declared.word.Word.TheVariants as word
use Rattle.gx_lex.specs.declared.symbol.Symbol.{Symbol}
use Rattle.gx_lex.specs.declared.symbol.Symbol.TheVariants as symbol
use Rattle.gx_lex.specs.declared.token.Token.{Token}
use Rattle.gx_lex.specs.declared.token.Token.TheVariants as token
use Rattle.gx_grammar.specs.Tokens.{is_word, is_sign}

nth : {A : Type 0} → List A → ℕ → Option A
nth [] n = None
nth (x ∷ xs) zero = Some x
nth (x ∷ xs) (suc n) = nth xs n

some_same : {A : Type 0} (x y : A) → Some x ≡ Some y → x ≡ y
some_same x y e = cc

same_number : (a b : ℕ) → (a == b) ≡ true → a ≡ b
same_number a b e = grind arith

all_signs : List Symbol
all_signs = symbol.Open ∷ symbol.Close ∷ symbol.Star ∷ symbol.Comma ∷ symbol.Plus ∷ symbol.Minus ∷ symbol.Slash ∷ symbol.Percent ∷ symbol.Colon ∷ symbol.Semicolon ∷ symbol.Equal ∷ symbol.NotEqual ∷ symbol.Less ∷ symbol.LessEqual ∷ symbol.Greater ∷ symbol.GreaterEqual ∷ []

word_at : (w : Word) → nth words.all_words (words.number_of w) ≡ Some w
unfolding nth
word_at word.Segments = refl
word_at word.Detector = refl
word_at word.On = refl
word_at word.Off = refl
word_at word.Table = refl
word_at word.Bigint = refl
word_at word.Text = refl
word_at word.Distributed = refl
word_at word.By = refl
word_at word.Randomly = refl
word_at word.Lose = refl
word_at word.Repeat = refl
word_at word.To = refl
word_at word.From = refl
word_at word.Number = refl
word_at word.Begin = refl
word_at word.Isolation = refl
word_at word.Level = refl
word_at word.Read = refl
word_at word.Committed = refl
word_at word.Repeatable = refl
word_at word.Commit = refl
word_at word.Rollback = refl
word_at word.Select = refl
word_at word.Group = refl
word_at word.Order = refl
word_at word.Limit = refl
word_at word.Insert = refl
word_at word.Into = refl
word_at word.Values = refl
word_at word.Update = refl
word_at word.Set = refl
word_at word.Delete = refl
word_at word.Where = refl
word_at word.Lock = refl
word_at word.In = refl
word_at word.Mode = refl
word_at word.Access = refl
word_at word.Share = refl
word_at word.Row = refl
word_at word.Exclusive = refl
word_at word.Count = refl
word_at word.Sum = refl
word_at word.Min = refl
word_at word.Max = refl
word_at word.Asc = refl
word_at word.Desc = refl
word_at word.Or = refl
word_at word.And = refl
word_at word.Not = refl

sign_at : (s : Symbol) → nth all_signs (symbols.number_of s) ≡ Some s
unfolding nth all_signs
sign_at symbol.Open = refl
sign_at symbol.Close = refl
sign_at symbol.Star = refl
sign_at symbol.Comma = refl
sign_at symbol.Plus = refl
sign_at symbol.Minus = refl
sign_at symbol.Slash = refl
sign_at symbol.Percent = refl
sign_at symbol.Colon = refl
sign_at symbol.Semicolon = refl
sign_at symbol.Equal = refl
sign_at symbol.NotEqual = refl
sign_at symbol.Less = refl
sign_at symbol.LessEqual = refl
sign_at symbol.Greater = refl
sign_at symbol.GreaterEqual = refl

same_word : (v w : Word) → (words.number_of v == words.number_of w) ≡ true → v ≡ w
same_word v w e = some_same v w (sym (word_at v) ∙ ap (nth words.all_words) (same_number (words.number_of v) (words.number_of w) e) ∙ word_at w)

same_sign : (v w : Symbol) → (symbols.number_of v == symbols.number_of w) ≡ true → v ≡ w
same_sign v w e = some_same v w (sym (sign_at v) ∙ ap (nth all_signs) (same_number (symbols.number_of v) (symbols.number_of w) e) ∙ sign_at w)

false_true : {P : Type 0} → false ≡ true → P
false_true e = cc

pub word_is : (w : Word) (y : Token) → is_word w y ≡ true → y ≡ token.Word w
word_is w (token.Word v) e = ap token.Word (same_word v w e)
word_is w (token.Symbol s) e = false_true e
word_is w (token.Name n) e = false_true e
word_is w (token.Number n) e = false_true e
word_is w (token.Text n) e = false_true e
word_is w token.Bad e = false_true e

pub sign_is : (s : Symbol) (y : Token) → is_sign s y ≡ true → y ≡ token.Symbol s
sign_is s (token.Symbol v) e = ap token.Symbol (same_sign v s e)
sign_is s (token.Word w) e = false_true e
sign_is s (token.Name n) e = false_true e
sign_is s (token.Number n) e = false_true e
sign_is s (token.Text n) e = false_true e
sign_is s token.Bad e = false_true e
