-- The reader of a line's tokens, byte by byte.
use Rattle.std.specs.Prelude.{ℕ, ◌+◌, ◌-◌, ◌*◌, Bool, ◌||◌, if◌then◌else◌, List, [], ◌∷◌, ◌++◌, Option, Some, None}
use Rattle.gx_lex.specs.declared.symbol.Symbol.{Symbol}
use Rattle.gx_lex.specs.declared.symbol.Symbol.TheVariants as symbol
use Rattle.gx_lex.specs.declared.token.Token.{Token}
use Rattle.gx_lex.specs.declared.token.Token.TheVariants as token
use Rattle.gx_lex.specs.Words.{keyword_of}
use Rattle.gx_lex.specs.Symbols.{symbol_of}
use Rattle.gx_lex.specs.Lexing.{is_blank, is_capital, is_letter, is_digit, is_word_byte, is_quote, is_less, is_greater, is_equal, small, fitting, word_of}

-- what the reader is in: a word in small letters and whether it had capitals, a number, a text, behind a quote in a text, ..
pub data State : Type 0 where
  Gap : State
  InWord : List ℕ → Bool → State
  InNumber : Option ℕ → State
  InText : List ℕ → State
  Quoted : List ℕ → State
  BehindLess : State
  BehindGreater : State
  Lost : State

abbrev pub word_token : List ℕ → Bool → Token
word_token w capital = word_of (keyword_of w) w capital

abbrev pub grown : Option ℕ → ℕ → Option ℕ
grown None d = None
grown (Some n) d = fitting (n * 10 + (d - 48))

abbrev pub put_symbol : List Token → Option Symbol → List Token × State
put_symbol out None = (out, Lost)
put_symbol out (Some s) = (out ++ token.Symbol s ∷ [], Gap)

-- what a byte begins
abbrev pub begin : List Token → ℕ → List Token × State
begin out b = if is_blank b then (out, Gap) else if is_letter b then (out, InWord (small b ∷ []) (is_capital b))
    else if is_digit b then (out, InNumber (Some (b - 48))) else if is_quote b then (out, InText []) else if is_less b then (out, BehindLess)
    else if is_greater b then (out, BehindGreater) else put_symbol out (symbol_of b)

abbrev pub next : List Token → State → ℕ → List Token × State
next out Gap b = begin out b
next out (InWord w capital) b = if is_word_byte b then (out, InWord (w ++ small b ∷ []) (capital || is_capital b)) else begin (out ++ word_token w capital ∷ []) b
next out (InNumber n) b = if is_digit b then (out, InNumber (grown n b)) else begin (out ++ token.Number n ∷ []) b
next out (InText w) b = if is_quote b then (out, Quoted w) else (out, InText (w ++ b ∷ []))
next out (Quoted w) b = if is_quote b then (out, InText (w ++ 39 ∷ [])) else begin (out ++ token.Text w ∷ []) b
next out BehindLess b = if is_equal b then (out ++ token.Symbol symbol.LessEqual ∷ [], Gap)
    else if is_greater b then (out ++ token.Symbol symbol.NotEqual ∷ [], Gap) else begin (out ++ token.Symbol symbol.Less ∷ []) b
next out BehindGreater b = if is_equal b then (out ++ token.Symbol symbol.GreaterEqual ∷ [], Gap) else begin (out ++ token.Symbol symbol.Greater ∷ []) b
next out Lost b = (out, Lost)

abbrev pub ended : List Token → State → List Token
ended out Gap = out
ended out (InWord w capital) = out ++ word_token w capital ∷ []
ended out (InNumber n) = out ++ token.Number n ∷ []
ended out (InText w) = out ++ token.Bad ∷ []
ended out (Quoted w) = out ++ token.Text w ∷ []
ended out BehindLess = out ++ token.Symbol symbol.Less ∷ []
ended out BehindGreater = out ++ token.Symbol symbol.Greater ∷ []
ended out Lost = out ++ token.Bad ∷ []

abbrev pub lex_on : List ℕ → List Token → State → List Token
lex_on [] out s = ended out s
lex_on (b ∷ bs) out s = lex_on bs (next out s b).0 (next out s b).1

abbrev pub lex : List ℕ → List Token
lex bs = lex_on bs [] Gap
