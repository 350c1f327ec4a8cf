-- Whole numbers with a sign are read as they are printed, in any number of bits.
use Rattle.std.proofs.Common.{◌≡◌, ℕ, zero, suc, ◌+◌, ◌%◌, ◌^◌, ◌<◌, ◌≤◌, ◌==◌, nat_lt, Bool, true, false, if◌then◌else◌, ℤ, pos, negsuc}
use Rattle.std.proofs.Common.{List, [], ◌∷◌, ◌++◌, codes, Option, Some, None, refl, sym, ◌∙◌, ap, subst, inl, inr, arith}
use Rattle.std.specs.Prelude.{option_and_then, ◌⊎◌}
use Rattle.std.specs.Option.{option_map}
use Rattle.std.specs.Fmt.{decimal, signed_decimal}
use Rattle.std.proofs.lemmas.Fmt.{decimal_by_steps_wide}
use Rattle.std.proofs.lemmas.Option.{none-some, some_pair_parts, option_and_then_some}
use Rattle.gx_trace.specs.Readers.{Front, number_to, word, EndsNumber, IsReaderOf}
use Rattle.gx_trace.specs.Values.{minus, negative, plus, positive, taken, whole}
use Rattle.gx_trace.proofs.Alternatives.{one-or-other, said-as}
use Rattle.gx_trace.proofs.Digits.{number-again, number-sound}
use Rattle.gx_trace.proofs.Readers.{behind-word}
use Rattle.gx_trace.proofs.Words.{if-true, if-false}

-- the same text, written otherwise
pub text-said-as : {A : Type 0} {text : A → List ℕ} {Is : A → Type 0} {Ends : List ℕ → Type 0} {read : List ℕ → Front A} (other : A → List ℕ) → IsReaderOf text Is Ends read → ((a : A) → Is a → other a ≡ text a) → IsReaderOf other Is Ends read
text-said-as {read = read} other r same = record {
  again = λ a rest is ends. ap (λ x. read (x ++ rest)) (same a is) ∙ r.again a rest is ends;
  sound = λ bytes rest a e. let (is, t) = r.sound bytes rest a e in (is, t ∙ ap (λ x. x ++ rest) (sym (same a is)));
}

-- a number begins with a digit
abbrev pub BeginsWithDigit : ℕ → List ℕ → Type 0
BeginsWithDigit n ds = (d : ℕ) × (more : List ℕ) × (ds ≡ (48 + d) ∷ more) × (d < 10)

pub first-digit : (n : ℕ) → n < 10 ^ 64 → BeginsWithDigit n (decimal n)
first-digit = decimal_by_steps_wide BeginsWithDigit (λ n l. (n, [], refl, l)) (λ n ds l x. (x.0, x.1 ++ (48 + n % 10) ∷ [], ap (λ y. y ++ (48 + n % 10) ∷ []) x.2, x.3))

pub not-word : (w : ℕ) (ws : List ℕ) (n : ℕ) (rest : List ℕ) → n < 10 ^ 64 → ((d : ℕ) → d < 10 → (48 + d == w) ≡ false) → word (w ∷ ws) (decimal n ++ rest) ≡ None
not-word w ws n rest small other =
    let (d, more, is, digit) = first-digit n small in
    ap (λ x. word (w ∷ ws) (x ++ rest)) is ∙ if-false (48 + d == w) (word ws (more ++ rest)) None (other d digit)

-- as many below 0 as not
abbrev pub IsWithin : ℕ → ℤ → Type 0
IsWithin half (pos n) = n < half
IsWithin half (negsuc n) = n < half

-- below a limit, and on both sides of 0 below half of it
module _ (limit half : ℕ) (more : half < limit) (some_digits : 10 ≤ limit) (few_digits : limit ≤ 10 ^ 64) where
  abbrev IsPositive : ℤ → Type 0
  IsPositive (pos n) = n < half
  IsPositive (negsuc n) = ⊥

  abbrev IsNegative : ℤ → Type 0
  IsNegative (pos n) = ⊥
  IsNegative (negsuc n) = n < half

  plus-by : (n : ℕ) (z : ℤ) (left rest : List ℕ) (c : Bool) → nat_lt n half ≡ c
      → option_map (λ (y : ℤ). let p : ℤ × List ℕ = (y, left) in p) (if c then Some (pos n) else None) ≡ Some (z, rest) → (n < half) × (pos n ≡ z) × (left ≡ rest)
  plus-by n z left rest false c e = absurd (none-some _ e)
  plus-by n z left rest true c e = let (p, q) = some_pair_parts (pos n) z left rest e in (grind (arith, c), p, q)

  minus-by : (n : ℕ) (z : ℤ) (left rest : List ℕ) (c : Bool) → nat_lt n half ≡ c
      → option_map (λ (y : ℤ). let p : ℤ × List ℕ = (y, left) in p) (if c then Some (negsuc n) else None) ≡ Some (z, rest) → (n < half) × (negsuc n ≡ z) × (left ≡ rest)
  minus-by n z left rest false c e = absurd (none-some _ e)
  minus-by n z left rest true c e = let (p, q) = some_pair_parts (negsuc n) z left rest e in (grind (arith, c), p, q)

  positive-again : (z : ℤ) (rest : List ℕ) → IsPositive z → EndsNumber rest → positive limit half (signed_decimal z ++ rest) ≡ Some (z, rest)
  positive-again (pos n) rest is ends =
      let small : nat_lt n half ≡ true = grind (arith, is) in
      ap (option_and_then (taken (plus half))) (number-again limit some_digits few_digits n rest (omega (arith, is, more)) ends) ∙ ap (option_map (λ (y : ℤ). let p : ℤ × List ℕ = (y, rest) in p)) (if-true (nat_lt n half) (Some (pos n)) None small)
  positive-again (negsuc n) rest is ends = absurd is

  positives : IsReaderOf signed_decimal IsPositive EndsNumber (positive limit half)
  positives = record {
    again = positive-again;
    sound = λ bytes rest z e. option_and_then_some (taken (plus half)) (number_to limit bytes) (z, rest) e (λ x is t.
        let (small, p, q) = plus-by x.0 z x.1 rest (nat_lt x.0 half) refl t in
        let (_, stands) = number-sound limit some_digits few_digits bytes x.1 x.0 is in
        (subst IsPositive p small, stands ∙ (λ i. signed_decimal (p i) ++ q i)));
  }

  abbrev magnitude : ℤ → List ℕ
  magnitude (pos n) = []
  magnitude (negsuc n) = decimal (suc n)

  abbrev behind_minus : List ℕ → Front ℤ
  behind_minus bytes = option_and_then (taken (minus half)) (number_to limit bytes)

  minus-again : (z : ℤ) (rest : List ℕ) → IsNegative z → EndsNumber rest → behind_minus (magnitude z ++ rest) ≡ Some (z, rest)
  minus-again (pos n) rest is ends = absurd is
  minus-again (negsuc n) rest is ends =
      let small : nat_lt n half ≡ true = grind (arith, is) in
      ap (option_and_then (taken (minus half))) (number-again limit some_digits few_digits (suc n) rest (omega (arith, is, more)) ends)
      ∙ ap (option_map (λ (y : ℤ). let p : ℤ × List ℕ = (y, rest) in p)) (if-true (nat_lt n half) (Some (negsuc n)) None small)

  minus-stands : (m : ℕ) (z : ℤ) (bytes left rest : List ℕ) → bytes ≡ decimal m ++ left → taken (minus half) (m, left) ≡ Some (z, rest) → IsNegative z × (bytes ≡ magnitude z ++ rest)
  minus-stands zero z bytes left rest stands e = absurd (none-some _ e)
  minus-stands (suc n) z bytes left rest stands e =
      let (small, p, q) = minus-by n z left rest (nat_lt n half) refl e in
      (subst IsNegative p small, stands ∙ (λ i. magnitude (p i) ++ q i))

  magnitudes : IsReaderOf magnitude IsNegative EndsNumber behind_minus
  magnitudes = record {
    again = minus-again;
    sound = λ bytes rest z e. option_and_then_some (taken (minus half)) (number_to limit bytes) (z, rest) e (λ x is t. minus-stands x.0 z bytes x.1 rest (number-sound limit some_digits few_digits bytes x.1 x.0 is).1 t);
  }

  with-sign : (z : ℤ) → IsNegative z → signed_decimal z ≡ codes "-" ++ magnitude z
  with-sign (pos n) is = absurd is
  with-sign (negsuc n) is = refl

  negatives : IsReaderOf signed_decimal IsNegative EndsNumber (negative limit half)
  negatives = text-said-as signed_decimal (behind-word (codes "-") magnitudes) with-sign

  no-minus : (z : ℤ) (rest : List ℕ) → IsPositive z → negative limit half (signed_decimal z ++ rest) ≡ None
  no-minus (pos n) rest is = ap (option_and_then (λ x. behind_minus x.1)) (not-word 45 [] n rest (omega (arith, is, more, few_digits)) (λ d l. grind arith))
  no-minus (negsuc n) rest is = absurd is

  has-sign : (z : ℤ) → IsWithin half z → IsNegative z ⊎ IsPositive z
  has-sign (pos n) is = inr is
  has-sign (negsuc n) is = inl is

  of-sign : (z : ℤ) → IsNegative z ⊎ IsPositive z → IsWithin half z
  of-sign (pos n) is = elim is [ inl h ↦ absurd h | inr h ↦ h ]
  of-sign (negsuc n) is = elim is [ inl h ↦ h | inr h ↦ absurd h ]

  pub wholes : IsReaderOf signed_decimal (IsWithin half) EndsNumber (whole limit half)
  wholes = said-as (IsWithin half) EndsNumber (one-or-other signed_decimal IsNegative IsPositive negatives positives no-minus) has-sign of-sign (λ rest ends. ends)
