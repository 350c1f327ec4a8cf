-- A number at the front of bytes.
use Rattle.std.proofs.Common.{◌≡◌, ℕ, ◌+◌, ◌-◌, ◌*◌, ◌/◌, ◌%◌, ◌^◌, ◌<◌, ◌≤◌, ◌==◌, nat_lt, Bool, true, false, if◌then◌else◌, List, [], ◌∷◌, ◌++◌, Some, None, refl, sym, ◌∙◌, ap, arith, append_assoc}
use Rattle.std.specs.Prelude.{option_and_then}
use Rattle.std.specs.Fmt.{decimal}
use Rattle.std.proofs.lemmas.Fmt.{decimal_by_steps_wide, decimal_step_wide, decimal_digit}
use Rattle.std.proofs.lemmas.Option.{none-some, some_pair_parts}
use Rattle.gx_trace.specs.Readers.{Front, grown, number_on, number, number_to, EndsNumber}
use Rattle.gx_lex.specs.Lexing.{is_digit}
use Rattle.gx_trace.proofs.Words.{if-true, if-false}

digit-of : (d : ℕ) → d < 10 → is_digit (48 + d) ≡ true
digit-of d l = grind arith

-- below a limit of at most 64 digits
module _ (limit : ℕ) (some_digits : 10 ≤ limit) (few_digits : limit ≤ 10 ^ 64) where
  grown-of : (n d : ℕ) → 0 < n → n * 10 + d < limit → grown limit n d ≡ Some (n * 10 + d)
  grown-of n d some small =
      let a : (n == 0) ≡ false = grind arith in
      let b : nat_lt (n * 10 + d) limit ≡ true = grind arith in
      if-false (n == 0) None _ a ∙ if-true (nat_lt (n * 10 + d) limit) _ None b

  abbrev IsFed : ℕ → List ℕ → Type 0
  IsFed n ds = n < limit → (rest : List ℕ) → number_to limit (ds ++ rest) ≡ number_on limit n rest

  fed-one : (n : ℕ) → n < 10 → IsFed n ((48 + n) ∷ [])
  fed-one n l small rest =
      let d : (48 + n) - 48 ≡ n = omega arith in
      if-true (is_digit (48 + n)) (number_on limit ((48 + n) - 48) rest) None (digit-of n l) ∙ ap (λ x. number_on limit x rest) d

  goes-on : (m d n : ℕ) (rest : List ℕ) → d < 10 → grown limit m d ≡ Some n → number_on limit m ((48 + d) ∷ rest) ≡ number_on limit n rest
  goes-on m d n rest l e =
      let back : (48 + d) - 48 ≡ d = omega arith in
      if-true (is_digit (48 + d)) (option_and_then (λ k. number_on limit k rest) (grown limit m ((48 + d) - 48))) (Some (m, (48 + d) ∷ rest)) (digit-of d l)
      ∙ ap (λ x. option_and_then (λ k. number_on limit k rest) (grown limit m x)) back
      ∙ ap (option_and_then (λ k. number_on limit k rest)) e

  fed-more : (n : ℕ) (ds : List ℕ) → 10 ≤ n → IsFed (n / 10) ds → IsFed n (ds ++ ((48 + n % 10) ∷ []))
  fed-more n ds l ih small rest =
      let whole : (n / 10) * 10 + n % 10 ≡ n = omega arith in
      ap (number_to limit) (append_assoc ds ((48 + n % 10) ∷ []) rest)
      ∙ ih (omega (arith, small)) ((48 + n % 10) ∷ rest)
      ∙ goes-on (n / 10) (n % 10) n rest (omega arith) (grown-of (n / 10) (n % 10) (omega arith) (omega (arith, small)) ∙ ap Some whole)

  fed : (n : ℕ) → n < limit → IsFed n (decimal n)
  fed n small = decimal_by_steps_wide IsFed fed-one fed-more n (omega (arith, small, few_digits))

  ended : (n : ℕ) (rest : List ℕ) → EndsNumber rest → number_on limit n rest ≡ Some (n, rest)
  ended n [] e = refl
  ended n (b ∷ bs) e = if-false (is_digit b) _ _ e

  pub number-again : (n : ℕ) (rest : List ℕ) → n < limit → EndsNumber rest → number_to limit (decimal n ++ rest) ≡ Some (n, rest)
  number-again n rest small ends = fed n small small rest ∙ ended n rest ends

  -- a number with one more digit
  decimal-more : (n d : ℕ) → 0 < n → d < 10 → n * 10 + d < limit → decimal (n * 10 + d) ≡ decimal n ++ (48 + d) ∷ []
  decimal-more n d some digit small =
      let front : (n * 10 + d) / 10 ≡ n = omega arith in
      let last : (n * 10 + d) % 10 ≡ d = omega arith in
      decimal_step_wide (n * 10 + d) (omega arith) (omega (arith, small, few_digits)) ∙ (λ i. decimal (front i) ++ ((48 + last i) ∷ []))

  digit-bounds : (b : ℕ) → is_digit b ≡ true → (48 ≤ b) × (b ≤ 57)
  digit-bounds b e = (grind arith, grind arith)

  abbrev IsFrom : ℕ → List ℕ → ℕ → List ℕ → Type 0
  IsFrom m bs n rest = (n < limit) × (decimal m ++ bs ≡ decimal n ++ rest)

  here : (m n : ℕ) (bs rest : List ℕ) → m < limit → ◌≡◌ {A = Front ℕ} (Some (m, bs)) (Some (n, rest)) → IsFrom m bs n rest
  here m n bs rest small e = let (a, b) = some_pair_parts m n bs rest e in (omega (arith, a), (λ i. decimal (a i) ++ b i))

  behind-digit : (m b n : ℕ) (bs rest : List ℕ) → is_digit b ≡ true → ((k : ℕ) → k < limit → number_on limit k bs ≡ Some (n, rest) → IsFrom k bs n rest)
      → (z : Bool) → (m == 0) ≡ z → (s : Bool) → nat_lt (m * 10 + (b - 48)) limit ≡ s
      → option_and_then (λ k. number_on limit k bs) (if z then None else (if s then Some (m * 10 + (b - 48)) else None)) ≡ Some (n, rest) → IsFrom m (b ∷ bs) n rest
  behind-digit m b n bs rest digit ih true ez s es e = absurd (none-some _ e)
  behind-digit m b n bs rest digit ih false ez false es e = absurd (none-some _ e)
  behind-digit m b n bs rest digit ih false ez true es e =
      let bounds = digit-bounds b digit in
      let some : 0 < m = grind arith in
      let small : m * 10 + (b - 48) < limit = grind arith in
      let (fits, is) = ih (m * 10 + (b - 48)) small e in
      let back : 48 + (b - 48) ≡ b = omega (arith, bounds.0) in
      let more : decimal (m * 10 + (b - 48)) ≡ decimal m ++ (48 + (b - 48)) ∷ [] = decimal-more m (b - 48) some (omega (arith, bounds.1)) small in
      (fits, sym (append_assoc (decimal m) (b ∷ []) bs) ∙ ap (λ x. (decimal m ++ x ∷ []) ++ bs) (sym back) ∙ ap (λ x. x ++ bs) (sym more) ∙ is)

  from-by : (m b n : ℕ) (bs rest : List ℕ) (c : Bool) → is_digit b ≡ c → m < limit → ((k : ℕ) → k < limit → number_on limit k bs ≡ Some (n, rest) → IsFrom k bs n rest)
      → (if c then option_and_then (λ k. number_on limit k bs) (grown limit m (b - 48)) else Some (m, b ∷ bs)) ≡ Some (n, rest) → IsFrom m (b ∷ bs) n rest
  from-by m b n bs rest true c small ih e = behind-digit m b n bs rest c ih (m == 0) refl (nat_lt (m * 10 + (b - 48)) limit) refl e
  from-by m b n bs rest false c small ih e = here m n (b ∷ bs) rest small e

  from : (bs rest : List ℕ) (m n : ℕ) → m < limit → number_on limit m bs ≡ Some (n, rest) → IsFrom m bs n rest
  from [] rest m n small e = here m n [] rest small e
  from (b ∷ bs) rest m n small e = from-by m b n bs rest (is_digit b) refl small (λ k. from bs rest k n) e

  first-by : (b n : ℕ) (bs rest : List ℕ) (c : Bool) → is_digit b ≡ c → (if c then number_on limit (b - 48) bs else None) ≡ Some (n, rest) → (n < limit) × (b ∷ bs ≡ decimal n ++ rest)
  first-by b n bs rest false c e = absurd (none-some _ e)
  first-by b n bs rest true c e =
      let bounds = digit-bounds b c in
      let back : 48 + (b - 48) ≡ b = omega (arith, bounds.0) in
      let (fits, is) = from bs rest (b - 48) n (omega (arith, bounds.1, some_digits)) e in
      (fits, ap (λ x. x ∷ bs) (sym back) ∙ ap (λ x. x ++ bs) (sym (decimal_digit (b - 48) (omega (arith, bounds.1)))) ∙ is)

  pub number-sound : (bs rest : List ℕ) (n : ℕ) → number_to limit bs ≡ Some (n, rest) → (n < limit) × (bs ≡ decimal n ++ rest)
  number-sound [] rest n e = absurd (none-some _ e)
  number-sound (b ∷ bs) rest n e = first-by b n bs rest (is_digit b) refl e
