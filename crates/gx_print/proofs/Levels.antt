-- Levels and tests.
use Rattle.std.proofs.Common.{◌≡◌, ℕ, ◌+◌, ◌<◌, ◌≤◌, nat_le, Bool, true, false, if◌then◌else◌, length, refl, arith}
use Rattle.gx_grammar.specs.declared.fault.Limits.{Limits}
use Rattle.gx_grammar.specs.declared.syn.Op.{Op}
use Rattle.gx_grammar.specs.Grammar.{level, left_level, Shape, digits, minus_digits, text, column, parens, minus, negated, both, Fits, Within}

pick : {A : Type 0} (P : A → Type 0) (c : Bool) (x y : A) → (c ≡ true → P x) → (c ≡ false → P y) → P (if c then x else y)
pick P true x y f g = f refl
pick P false x y f g = g refl

pub pick_le : {A : Type 0} (P : A → Type 0) (a b : ℕ) (x y : A) → (a ≤ b → P x) → (b < a → P y) → P (if nat_le a b then x else y)
pick_le P a b x y f g = pick P (nat_le a b) x y (λ e. f (grind arith)) (λ e. g (grind arith))

pub by_le : {A : Type 0} (a b : ℕ) (x y : A) → a ≤ b → (if nat_le a b then x else y) ≡ x
by_le a b x y l = grind arith

pub level_from : (o : Op) → 1 ≤ level o
level_from o = grind arith

pub level_to : (o : Op) → level o ≤ 6
level_to o = grind arith

pub left_from : (o : Op) → level o ≤ left_level o
left_from o = grind arith

pub left_to : (o : Op) → left_level o ≤ level o + 1
left_to o = grind arith

pub fits_less : (p q : ℕ) (s : Shape) → p ≤ q → Fits q s → Fits p s
fits_less p q (digits n) l f = omega arith
fits_less p q (minus_digits n) l f = omega arith
fits_less p q (text n) l f = omega arith
fits_less p q (column n) l f = omega arith
fits_less p q (parens s) l f = (omega arith, f.1)
fits_less p q (minus s) l f = (omega arith, f.1, f.2)
fits_less p q (negated s) l f = (omega arith, f.1)
fits_less p q (both o a b) l f = (omega arith, f.1, f.2)

-- what is within the limit with more around it is so with less
pub within_down : (d : Limits) (m n : ℕ) (after : Bool) (s : Shape) → n ≤ m → Within d m after s → Within d n after s
within_down d m n after (digits k) l w = omega arith
within_down d m n after (minus_digits k) l w = omega arith
within_down d m n after (text t) l w = let a : length t ≤ d.text = w.0 in let b : m ≤ d.depth = w.1 in (a, omega arith)
within_down d m n after (column c) l w = let a : length c ≤ d.name = w.0 in let b : m ≤ d.depth = w.1 in (a, omega arith)
within_down d m n true (parens s) l w = within_down d m n false s l w
within_down d m n false (parens s) l w = within_down d (m + 1) (n + 1) false s (omega arith) w
within_down d m n after (minus s) l w = within_down d (m + 1) (n + 1) true s (omega arith) w
within_down d m n after (negated s) l w = within_down d (m + 1) (n + 1) false s (omega arith) w
within_down d m n after (both o a b) l w = (within_down d m n false a l w.0, within_down d m n false b l w.1)

pub within_after : (d : Limits) (n : ℕ) (s : Shape) → Within d n false s → Within d n true s
within_after d n (digits k) w = w
within_after d n (minus_digits k) w = w
within_after d n (text k) w = w
within_after d n (column c) w = w
within_after d n (parens s) w = within_down d (n + 1) n false s (omega arith) w
within_after d n (minus s) w = w
within_after d n (negated s) w = w
within_after d n (both o a b) w = w
