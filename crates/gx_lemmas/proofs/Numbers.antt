-- Whole numbers and tests of them; each lemma by its left side.
use Rattle.std.proofs.Common.{◌≡◌, ◌≤◌, ◌<◌, ℕ, ◌+◌, true, false, arith, eqb, nat_lt, ◌==◌}
use Rattle.std.proofs.lemmas.Bool.Decides.{nat_tests}

-- TESTS
pub eqb-self : (a : ℕ) → eqb a a ≡ true
eqb-self a = grind (arith, nat_tests)

pub same-of : (a b : ℕ) → (a == b) ≡ true → a ≡ b
same-of a b e = grind (arith, nat_tests)

pub eqb-of : (a b : ℕ) → a ≡ b → eqb a b ≡ true
eqb-of a b e = grind (arith, nat_tests)

pub eqb-turned : (a b : ℕ) → eqb a b ≡ false → eqb b a ≡ false
eqb-turned a b e = grind (arith, nat_tests)

pub eqb-back : (a b : ℕ) → eqb a b ≡ true → eqb b a ≡ true
eqb-back a b e = grind (arith, nat_tests)

pub eqb-swap : (a b : ℕ) → eqb a b ≡ eqb b a
eqb-swap a b = grind (arith, nat_tests)

pub lt-of : (a b : ℕ) → nat_lt a b ≡ true → a < b
lt-of a b e = grind (arith, nat_tests)

pub le-of : (a b : ℕ) → nat_lt a b ≡ false → b ≤ a
le-of a b e = grind (arith, nat_tests)

-- SUMS
pub plus-none : (a : ℕ) → a + 0 ≡ a
plus-none a = omega arith

pub same-plus-none : (a : ℕ) → a ≡ a + 0
same-plus-none a = omega arith

pub none-plus : (a : ℕ) → 0 + a ≡ a
none-plus a = omega arith

-- ORDER
pub one-le-none : 1 ≤ 0 → ⊥
one-le-none e = omega arith

pub one-le-zero : (a : ℕ) → 1 ≤ a → a ≡ 0 → ⊥
one-le-zero a e f = omega arith

pub lt-none : (a : ℕ) → a < 0 → ⊥
lt-none a e = omega arith

pub lt-le : (a b : ℕ) → a < b → b ≤ a → ⊥
lt-le a b e f = omega arith

pub lt-next : (a b : ℕ) → a < b + 1 → eqb a b ≡ false → a < b
lt-next a b e f = grind (arith, nat_tests)

pub le-apart : (a b : ℕ) → a ≤ b → eqb a b ≡ false → a + 1 ≤ b
le-apart a b e f = grind (arith, nat_tests)
