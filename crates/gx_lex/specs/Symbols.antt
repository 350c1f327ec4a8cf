-- The signs of the script language.
use Rattle.std.specs.Prelude.{ℕ, ◌==◌, if◌then◌else◌, List, [], ◌∷◌, Option, Some, None}
use Rattle.gx_lex.specs.declared.symbol.Symbol.{Symbol}
use Rattle.gx_lex.specs.declared.symbol.Symbol.TheVariants.{Open, Close, Star, Comma, Plus, Minus, Slash, Percent, Colon, Semicolon, Equal, NotEqual, Less, LessEqual, Greater, GreaterEqual}

-- the place among the signs
abbrev pub number_of : Symbol → ℕ
number_of Open = 0
number_of Close = 1
number_of Star = 2
number_of Comma = 3
number_of Plus = 4
number_of Minus = 5
number_of Slash = 6
number_of Percent = 7
number_of Colon = 8
number_of Semicolon = 9
number_of Equal = 10
number_of NotEqual = 11
number_of Less = 12
number_of LessEqual = 13
number_of Greater = 14
number_of GreaterEqual = 15

-- the bytes of a sign
abbrev pub bytes_of_symbol : Symbol → List ℕ
bytes_of_symbol Open = 40 ∷ []
bytes_of_symbol Close = 41 ∷ []
bytes_of_symbol Star = 42 ∷ []
bytes_of_symbol Comma = 44 ∷ []
bytes_of_symbol Plus = 43 ∷ []
bytes_of_symbol Minus = 45 ∷ []
bytes_of_symbol Slash = 47 ∷ []
bytes_of_symbol Percent = 37 ∷ []
bytes_of_symbol Colon = 58 ∷ []
bytes_of_symbol Semicolon = 59 ∷ []
bytes_of_symbol Equal = 61 ∷ []
bytes_of_symbol NotEqual = 60 ∷ 62 ∷ []
bytes_of_symbol Less = 60 ∷ []
bytes_of_symbol LessEqual = 60 ∷ 61 ∷ []
bytes_of_symbol Greater = 62 ∷ []
bytes_of_symbol GreaterEqual = 62 ∷ 61 ∷ []

-- the sign that is this byte alone and begins no longer one
abbrev pub symbol_of : ℕ → Option Symbol
symbol_of b = if b == 40 then Some Open else if b == 41 then Some Close else if b == 42 then Some Star else if b == 44 then Some Comma
    else if b == 43 then Some Plus else if b == 45 then Some Minus else if b == 47 then Some Slash else if b == 37 then Some Percent
    else if b == 58 then Some Colon else if b == 59 then Some Semicolon else if b == 61 then Some Equal else None
