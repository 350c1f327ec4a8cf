-- Readers: what stands at the front of bytes, and what is left behind it.
use Rattle.std.specs.Prelude.{◌≡◌, ℕ, zero, suc, ◌+◌, ◌-◌, ◌*◌, ◌^◌, ◌==◌, nat_lt, false, if◌then◌else◌, List, [], ◌∷◌, ◌++◌, length, Option, Some, None, option_and_then}
use Rattle.std.specs.Option.{option_map}
use Rattle.std.specs.Borrow.{Bor}
use Rattle.gx_lex.specs.Lexing.{is_digit}
use Rattle.gx_store.specs.Limits.{is_name_byte}

-- what is read, and what is left behind it
abbrev pub Front : Type 0 → Type 0
Front A = Option (A × List ℕ)

abbrev pub IsRead : {A : Type 0} → Option A → List ℕ → Front A → Type 0
IsRead None left front = front ≡ None
IsRead (Some a) left front = front ≡ Some (a, left)

abbrev pub split_of : Option (ℕ × Bor (List ℕ)) → Front ℕ
split_of None = None
split_of (Some x) = Some (x.0, x.1.now)

-- one digit more, below a limit; no number of several digits begins with 0
abbrev pub grown : ℕ → ℕ → ℕ → Option ℕ
grown limit n d = if n == 0 then None else (if nat_lt (n * 10 + d) limit then Some (n * 10 + d) else None)

abbrev pub number_on : ℕ → ℕ → List ℕ → Front ℕ
number_on limit n [] = Some (n, [])
number_on limit n (b ∷ bs) = if is_digit b then option_and_then (λ m. number_on limit m bs) (grown limit n (b - 48)) else Some (n, b ∷ bs)

abbrev pub number_to : ℕ → List ℕ → Front ℕ
number_to limit [] = None
number_to limit (b ∷ bs) = if is_digit b then number_on limit (b - 48) bs else None

-- of 64 bits
abbrev pub number : List ℕ → Front ℕ
number = number_to (2 ^ 64)

-- behind a word
abbrev pub word : List ℕ → List ℕ → Front (Unit {0})
word [] bs = Some (tt, bs)
word (w ∷ ws) [] = None
word (w ∷ ws) (b ∷ bs) = if b == w then word ws bs else None

-- one thing and then another
abbrev pub with_first : {A B : Type 0} → A → B × List ℕ → Front (A × B)
with_first a x = Some ((a, x.0), x.1)

abbrev pub both : {A B : Type 0} → (List ℕ → Front A) → (List ℕ → Front B) → List ℕ → Front (A × B)
both first second bytes = option_and_then (λ x. option_and_then (λ y. with_first x.0 y) (second x.1)) (first bytes)

-- the same as something else
abbrev pub made : {A B : Type 0} → (A → B) → Front A → Front B
made f None = None
made f (Some x) = Some (f x.0, x.1)

-- a number below a limit
abbrev pub kept_below : ℕ → ℕ × List ℕ → Front ℕ
kept_below limit x = if nat_lt x.0 limit then Some x else None

abbrev pub number_below : ℕ → List ℕ → Front ℕ
number_below limit bytes = option_and_then (kept_below limit) (number bytes)

-- behind a word, something
abbrev pub behind : {A : Type 0} → List ℕ → (List ℕ → Front A) → List ℕ → Front A
behind w read bytes = option_and_then (λ x. read x.1) (word w bytes)

-- so many at most, to the end
abbrev pub many : {A : Type 0} → ℕ → (List ℕ → Front A) → List ℕ → Option (List A)
many n read [] = Some []
many zero read (b ∷ bs) = None
many (suc n) read (b ∷ bs) = option_and_then (λ x. option_map (λ xs. x.0 ∷ xs) (many n read x.1)) (read (b ∷ bs))

-- one after another, as many as there are, and nothing behind them
abbrev pub to_end : {A : Type 0} → (List ℕ → Front A) → List ℕ → Front (List A)
to_end read bytes = option_map (λ xs. (xs, [])) (many (length bytes) read bytes)

-- the one, or else the other
abbrev pub either : {A : Type 0} → Front A → Front A → Front A
either None other = other
either (Some x) other = Some x

-- What stands at the front of bytes is read exactly where it is its printed form: a value's text is read as the value, before whatever
-- ends it; and what is read is lawful, and its text stands there.
pub record IsReaderOf {A : Type 0} (text : A → List ℕ) (Is : A → Type 0) (Ends : List ℕ → Type 0) (read : List ℕ → Front A) : Type 0 where
  pub again : (a : A) (rest : List ℕ) → Is a → Ends rest → read (text a ++ rest) ≡ Some (a, rest)
  pub sound : (bytes rest : List ℕ) (a : A) → read bytes ≡ Some (a, rest) → Is a × (bytes ≡ text a ++ rest)

-- what is no digit ends a number
abbrev pub EndsNumber : List ℕ → Type 0
EndsNumber [] = Unit {0}
EndsNumber (b ∷ bs) = is_digit b ≡ false

-- what is in no name ends a name
abbrev pub EndsName : List ℕ → Type 0
EndsName [] = Unit {0}
EndsName (b ∷ bs) = is_name_byte b ≡ false

abbrev pub IsEnd : List ℕ → Type 0
IsEnd rest = rest ≡ []
