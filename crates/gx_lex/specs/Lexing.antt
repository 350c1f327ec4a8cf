-- Which bytes are which tokens.
use Rattle.std.specs.Prelude.{◌≡◌, ℕ, ◌+◌, ◌-◌, ◌*◌, ◌==◌, nat_le, Bool, true, false, ◌&&◌, ◌||◌, if◌then◌else◌, List, [], ◌∷◌, ◌++◌, Option, Some, None}
use Rattle.std.specs.List.{list_any}
use Rattle.gx_lex.specs.declared.word.Word.{Word}
use Rattle.gx_lex.specs.declared.symbol.Symbol.{Symbol}
use Rattle.gx_lex.specs.declared.symbol.Symbol.TheVariants.{Less, Greater}
use Rattle.gx_lex.specs.declared.token.Token.{Token}
use Rattle.gx_lex.specs.declared.token.Token.TheVariants as token
use Rattle.gx_lex.specs.Words.{keyword_of}
use Rattle.gx_lex.specs.Symbols.{bytes_of_symbol, symbol_of}

-- space and tab
abbrev pub is_blank : ℕ → Bool
is_blank b = (b == 32) || (b == 9)

abbrev pub is_capital : ℕ → Bool
is_capital b = nat_le 65 b && nat_le b 90

abbrev pub is_letter : ℕ → Bool
is_letter b = (nat_le 97 b && nat_le b 122) || is_capital b

abbrev pub is_digit : ℕ → Bool
is_digit b = nat_le 48 b && nat_le b 57

-- letters, digits and the underscore
abbrev pub is_word_byte : ℕ → Bool
is_word_byte b = is_letter b || (is_digit b || (b == 95))

abbrev pub is_quote : ℕ → Bool
is_quote b = b == 39

abbrev pub is_less : ℕ → Bool
is_less b = b == 60

abbrev pub is_greater : ℕ → Bool
is_greater b = b == 62

abbrev pub is_equal : ℕ → Bool
is_equal b = b == 61

abbrev pub is_either : ℕ → Bool
is_either b = is_equal b || is_greater b

abbrev pub every : (ℕ → Bool) → List ℕ → Type 0
every p [] = Unit {0}
every p (b ∷ bs) = (p b ≡ true) × every p bs

-- the first byte, where there is one, isn't of the class
abbrev pub Without : (ℕ → Bool) → List ℕ → Type 0
Without p [] = Unit {0}
Without p (b ∷ bs) = p b ≡ false

-- what begins with a byte of one class and goes on with bytes of another
abbrev pub Begins : (ℕ → Bool) → (ℕ → Bool) → List ℕ → Type 0
Begins p q [] = ⊥
Begins p q (b ∷ bs) = (p b ≡ true) × every q bs

-- a letter in small
abbrev pub small : ℕ → ℕ
small b = if is_capital b then b + 32 else b

abbrev pub smalls : List ℕ → List ℕ
smalls [] = []
smalls (b ∷ bs) = small b ∷ smalls bs

-- each quote twice
abbrev pub doubled : List ℕ → List ℕ
doubled [] = []
doubled (b ∷ bs) = if is_quote b then 39 ∷ 39 ∷ doubled bs else b ∷ doubled bs

-- the number that digits write behind a number, in base ten
abbrev pub number_behind : ℕ → List ℕ → ℕ
number_behind n [] = n
number_behind n (d ∷ ds) = number_behind (n * 10 + (d - 48)) ds

-- a number of 64 bits
abbrev pub fitting : ℕ → Option ℕ
fitting n = if nat_le n 18446744073709551615 then Some n else None

-- what stands between blanks: a word, digits, a text in quotes (as its value), a sign, or the rest of a line that is no token
pub data Lexeme : Type 0 where
  word : List ℕ → Lexeme
  digits : List ℕ → Lexeme
  text : List ℕ → Lexeme
  sign : Symbol → Lexeme
  open_text : List ℕ → Lexeme
  stray : ℕ → List ℕ → Lexeme

abbrev pub bytes_of : Lexeme → List ℕ
bytes_of (word w) = w
bytes_of (digits w) = w
bytes_of (text t) = 39 ∷ (doubled t ++ 39 ∷ [])
bytes_of (sign s) = bytes_of_symbol s
bytes_of (open_text t) = 39 ∷ doubled t
bytes_of (stray b w) = b ∷ w

-- nothing begins with this byte
abbrev pub begins_nothing : ℕ → Type 0
begins_nothing b = (is_blank b ≡ false) × (is_letter b ≡ false) × (is_digit b ≡ false) × (is_quote b ≡ false) × (is_less b ≡ false) × (is_greater b ≡ false) × (symbol_of b ≡ None)

-- a sign that couldn't be longer before this rest
abbrev pub IsSign : Symbol → List ℕ → Type 0
IsSign Less rest = Without is_either rest
IsSign Greater rest = Without is_equal rest
IsSign _ rest = Unit {0}

-- a lexeme that couldn't be longer before this rest
abbrev pub IsLexeme : Lexeme → List ℕ → Type 0
IsLexeme (word w) rest = Begins is_letter is_word_byte w × Without is_word_byte rest
IsLexeme (digits w) rest = Begins is_digit is_digit w × Without is_digit rest
IsLexeme (text t) rest = Without is_quote rest
IsLexeme (sign s) rest = IsSign s rest
IsLexeme (open_text t) rest = rest ≡ []
IsLexeme (stray b w) rest = begins_nothing b × (rest ≡ [])

-- a keyword is read in any case; a name has no capitals
abbrev pub word_of : Option Word → List ℕ → Bool → Token
word_of (Some k) w capital = token.Word k
word_of None w true = token.Bad
word_of None w false = token.Name w

-- the token that a lexeme is
abbrev pub token_of : Lexeme → Token
token_of (word w) = word_of (keyword_of (smalls w)) (smalls w) (list_any is_capital w)
token_of (digits w) = token.Number (fitting (number_behind 0 w))
token_of (text t) = token.Text t
token_of (sign s) = token.Symbol s
token_of (open_text t) = token.Bad
token_of (stray b w) = token.Bad

-- the tokens of a line's bytes: blanks, a lexeme, and so on
abbrev pub Lexes : List Token → List ℕ → Type 0
Lexes [] bs = every is_blank bs
Lexes (t ∷ ts) bs = (blanks : List ℕ) × (x : Lexeme) × (rest : List ℕ) × every is_blank blanks × IsLexeme x rest × (t ≡ token_of x) × (bs ≡ blanks ++ (bytes_of x ++ rest)) × Lexes ts rest
