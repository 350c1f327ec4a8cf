-- Rules of a grammar, and readers that look one token ahead.
use Rattle.std.specs.Prelude.{◌≡◌, ◌⊎◌, ℕ, zero, suc, Bool, false, if◌then◌else◌, List, [], ◌∷◌, ◌++◌, length, Result, Ok, Err, Some, None, Option}
use Rattle.gx_lex.specs.declared.token.Token.{Token}
use Rattle.gx_grammar.specs.declared.fault.Limits.{Limits}
use Rattle.gx_grammar.specs.declared.fault.LineLimit.{LineLimit}
use Rattle.gx_grammar.specs.declared.fault.Fault.{Fault}
use Rattle.gx_grammar.specs.declared.fault.Fault.TheVariants.{Syntax, TooMany}
use Rattle.gx_grammar.specs.Limiting.{Keeps, KeepsBefore}

-- what a token is to a class of tokens: a value of it, no value, or one that passes a limit
pub data Pick (X : Type 0) : Type 0 where
  Is : X → Pick X
  Isnt : Pick X
  Passes : LineLimit → Pick X

-- RULES. A rule says which tokens write which value.

-- one token of a class
abbrev pub one : {X : Type 0} → (Token → Pick X) → X → List Token → Type 0
one f x ts = (y : Token) × (f y ≡ Is x) × (ts ≡ y ∷ [])

-- a value of one rule, then one of another
abbrev pub both : {A B : Type 0} → (A → List Token → Type 0) → (B → List Token → Type 0) → A × B → List Token → Type 0
both g h p ts = (us : List Token) × (vs : List Token) × g p.0 us × h p.1 vs × (ts ≡ us ++ vs)

abbrev pub maybe : {A : Type 0} → (A → List Token → Type 0) → Option A → List Token → Type 0
maybe g None ts = ts ≡ []
maybe g (Some a) ts = g a ts

-- as many as there are
abbrev pub many : {A : Type 0} → (A → List Token → Type 0) → List A → List Token → Type 0
many g [] ts = ts ≡ []
many g (a ∷ s) ts = (us : List Token) × (vs : List Token) × g a us × many g s vs × (ts ≡ us ++ vs)

-- a value made of another's
abbrev pub made : {A B : Type 0} → (A → B) → (A → List Token → Type 0) → B → List Token → Type 0
made {A = A} f g b ts = (a : A) × (b ≡ f a) × g a ts

-- of one rule or of another
abbrev pub either : {A : Type 0} → (A → List Token → Type 0) → (A → List Token → Type 0) → A → List Token → Type 0
either g h a ts = g a ts ⊎ h a ts

-- a word or a sign, by a test
abbrev pub marked : (Token → Bool) → Token → Pick (Unit {0})
marked is y = if is y then Is tt else Isnt

-- the rule behind a word or a sign
abbrev pub behind : {A : Type 0} → (Token → Bool) → (A → List Token → Type 0) → A → List Token → Type 0
behind is g = made (λ p. p.1) (both (one (marked is)) g)

-- READERS
-- what a reader answers: a value and the tokens that are left, or a fault and the tokens from the bad one on
abbrev pub Reading : Type 0 → Type 0
Reading X = Result (X × List Token) (Fault × List Token)

infixl 10 ◌>>=◌
abbrev pub ◌>>=◌ : {A B : Type 0} → Reading A → (A × List Token → Reading B) → Reading B
(Ok r) >>= f = f r
(Err e) >>= f = Err e

abbrev pub one_or : {X : Type 0} → Pick X → Token → List Token → Reading X
one_or (Is x) y ys = Ok (x, ys)
one_or Isnt y ys = Err (Syntax, y ∷ ys)
one_or (Passes l) y ys = Err (TooMany l, y ∷ ys)

abbrev pub one_at : {X : Type 0} → (Token → Pick X) → List Token → Reading X
one_at f [] = Err (Syntax, [])
one_at f (y ∷ ys) = one_or (f y) y ys

abbrev pub both_at : {A B : Type 0} → (List Token → Reading A) → (List Token → Reading B) → List Token → Reading (A × B)
both_at r s ts = do
  a ← r ts
  b ← s a.1
  Ok ((a.0, b.0), b.1)

abbrev pub maybe_at : {A : Type 0} → (Token → Bool) → (List Token → Reading A) → List Token → Reading (Option A)
maybe_at begins r [] = Ok (None, [])
maybe_at begins r (y ∷ ys) = if begins y then (r (y ∷ ys) >>= λ a. Ok (Some a.0, a.1)) else Ok (None, y ∷ ys)

abbrev pub many_on : {A : Type 0} → (Token → Bool) → (List Token → Reading A) → ℕ → List A → List Token → Reading (List A)
many_on begins r zero s ts = Ok (s, ts)
many_on begins r (suc n) s [] = Ok (s, [])
many_on begins r (suc n) s (y ∷ ys) = if begins y then (r (y ∷ ys) >>= λ a. many_on begins r n (s ++ a.0 ∷ []) a.1) else Ok (s, y ∷ ys)

abbrev pub many_at : {A : Type 0} → (Token → Bool) → (List Token → Reading A) → List Token → Reading (List A)
many_at begins r ts = many_on begins r (length ts) [] ts

abbrev pub made_at : {A B : Type 0} → (A → B) → (List Token → Reading A) → List Token → Reading B
made_at f r ts = do
  a ← r ts
  Ok (f a.0, a.1)

abbrev pub behind_at : {A : Type 0} → (Token → Bool) → (List Token → Reading A) → List Token → Reading A
behind_at is r = made_at (λ p. p.1) (both_at (one_at (marked is)) r)

abbrev pub starts : (Token → Bool) → List Token → Bool
starts is [] = false
starts is (y ∷ ys) = is y

-- one of two rules, by the first token
abbrev pub either_at : {A : Type 0} → (Token → Bool) → (List Token → Reading A) → (List Token → Reading A) → List Token → Reading A
either_at begins r s ts = if starts begins ts then r ts else s ts

-- two lists that go on with the same token, or both end
abbrev pub Same : List Token → List Token → Type 0
Same [] [] = Unit {0}
Same [] (y ∷ ys) = ⊥
Same (x ∷ xs) [] = ⊥
Same (x ∷ xs) (y ∷ ys) = x ≡ y

-- WHOLE LINES
-- some tokens behind these make something of the rule
abbrev pub CanGo : {X : Type 0} → (X → List Token → Type 0) → List Token → Type 0
CanGo {X = X} g us = (more : List Token) × (x : X) × g x (us ++ more)

-- These tokens can't go on with the first of the rest, whatever stands behind it and under any limits; where there is no rest, they aren't whole.
abbrev pub CannotGo : {X : Type 0} → (Limits → X → List Token → Type 0) → List Token → List Token → Type 0
CannotGo {X = X} g us [] = (e : Limits) (x : X) → g e x us → ⊥
CannotGo g us (y ∷ ys) = (e : Limits) → CanGo (g e) (us ++ y ∷ []) → ⊥

-- What is answered of a line: a value that its tokens write; or the first token that can't continue a reading is wrong;
-- or it is the first that can't within the limits, and this limit is the first that must be raised:
-- under none that keep it the tokens go on, and under some that keep those before it they do.
abbrev pub Verdict : {X : Type 0} → (Limits → X → List Token → Type 0) → Limits → List Token → Result X Fault → Type 0
Verdict g d ts (Ok x) = g d x ts
Verdict g d ts (Err Syntax) = (us : List Token) × (rest : List Token) × (ts ≡ us ++ rest) × CanGo (g d) us × CannotGo g us rest
Verdict g d ts (Err (TooMany l)) = (us : List Token) × (y : Token) × (rest : List Token) × (ts ≡ us ++ y ∷ rest) × CanGo (g d) us
    × ((e : Limits) → Keeps l d e → CanGo (g e) (us ++ y ∷ []) → ⊥) × ((e : Limits) × KeepsBefore l d e × CanGo (g e) (us ++ y ∷ []))

-- The tokens go on, and with the first of the rest, or where there is none the end, they don't, for this fault.
abbrev pub Stops : {X : Type 0} → (Limits → X → List Token → Type 0) → Limits → List Token → List Token → Fault → Type 0
Stops g d us rest Syntax = CanGo (g d) us × CannotGo g us rest
Stops g d us [] (TooMany l) = ⊥
Stops g d us (y ∷ rest) (TooMany l) = CanGo (g d) us × ((e : Limits) → Keeps l d e → CanGo (g e) (us ++ y ∷ []) → ⊥) × ((e : Limits) × KeepsBefore l d e × CanGo (g e) (us ++ y ∷ []))

-- a reading with nothing behind it
abbrev pub whole_of : {X : Type 0} → Reading X → Result X Fault
whole_of (Ok (x, [])) = Ok x
whole_of (Ok (x, y ∷ ys)) = Err Syntax
whole_of (Err (e, rest)) = Err e

abbrev pub whole_at : {X : Type 0} → (List Token → Reading X) → List Token → Result X Fault
whole_at r ts = whole_of (r ts)
