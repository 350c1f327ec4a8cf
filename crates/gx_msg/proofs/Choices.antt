-- Choices by tests, and digits.
use Rattle.std.proofs.Common.{◌≡◌, ℕ, ◌+◌, ◌*◌, ◌/◌, ◌%◌, ◌^◌, ◌<◌, ◌≤◌, ◌==◌, nat_le, nat_lt, Bool, true, false, if◌then◌else◌, [], ◌∷◌, ◌++◌, refl, ◌∙◌, arith}
use Rattle.std.specs.Fmt.{decimal}
use Rattle.std.proofs.lemmas.Fmt.{decimal_step, decimal_digit}
use Rattle.gx_msg.specs.Steps.{is_digit}

pub pick : {A : Type 0} (P : A → Type 0) (c : Bool) (x y : A) → (c ≡ true → P x) → (c ≡ false → P y) → P (if c then x else y)
pick P true x y f g = f refl
pick P false x y f g = g refl

pub if_true : {A : Type 0} (c : Bool) (x y : A) → c ≡ true → (if c then x else y) ≡ x
if_true c x y e = grind arith

pub if_false : {A : Type 0} (c : Bool) (x y : A) → c ≡ false → (if c then x else y) ≡ y
if_false c x y e = grind arith

pub same_number : (a b : ℕ) → (a == b) ≡ true → a ≡ b
same_number a b e = grind arith

pub other_number : (a b : ℕ) → (a == b) ≡ false → a ≡ b → ⊥
other_number a b e f = grind arith

pub by_le : (a b : ℕ) → nat_le a b ≡ true → a ≤ b
by_le a b e = grind arith

pub by_lt : (a b : ℕ) → nat_lt a b ≡ true → a < b
by_lt a b e = grind arith

pub digit_bounds : (b : ℕ) → is_digit b ≡ true → (48 ≤ b) × (b ≤ 57)
digit_bounds b e = (grind arith, grind arith)

-- a number with one more digit
pub decimal-more : (n d : ℕ) → 0 < n → d < 10 → n * 10 + d < 2 ^ 64 → decimal (n * 10 + d) ≡ decimal n ++ (48 + d) ∷ []
decimal-more n d some digit small =
    let front : (n * 10 + d) / 10 ≡ n = omega arith in
    let last : (n * 10 + d) % 10 ≡ d = omega arith in
    decimal_step (n * 10 + d) (omega arith) small ∙ (λ i. decimal (front i) ++ ((48 + last i) ∷ []))

pub decimal-first : (d : ℕ) → d < 10 → decimal d ≡ (48 + d) ∷ []
decimal-first d digit = decimal_digit d digit
