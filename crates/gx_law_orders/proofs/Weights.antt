-- Sums over the first numbers.
use Rattle.std.proofs.Common.{◌≡◌, ◌≤◌, ℕ, zero, suc, ◌+◌, Bool, true, false, refl, sym, subst, arith, eqb}
use Rattle.std.proofs.lemmas.Bool.{eqb-true}
use Rattle.std.proofs.lemmas.Bool.Decides.{nat_tests}

abbrev pub weight : (ℕ → ℕ) → ℕ → ℕ
weight f zero = 0
weight f (suc n) = f (suc n) + weight f n

module _ (f h : ℕ → ℕ) (g : ℕ) (others : (k : ℕ) → eqb k g ≡ false → h k ≡ f k) where
  -- behind the place all are the same
  low-same : (n : ℕ) → suc n ≤ g → weight h n ≡ weight f n
  low-same zero l = refl
  low-same (suc n) l = sums (h (suc n)) (f (suc n)) (weight h n) (weight f n) (others (suc n) (apart (suc n) g l)) (low-same n (lower n g l))
    where
      apart : (a b : ℕ) → suc a ≤ b → eqb a b ≡ false
      apart a b l = grind (arith, nat_tests)

      lower : (a b : ℕ) → suc (suc a) ≤ b → suc a ≤ b
      lower a b l = omega arith

      sums : (a b c d : ℕ) → a ≡ b → c ≡ d → a + c ≡ b + d
      sums a b c d e i = omega arith

  pub weight-more : (m : ℕ) → h g ≤ f g + m → (n : ℕ) → weight h n ≤ weight f n + m
  weight-more m l zero = least 0 m
    where
      least : (a b : ℕ) → a ≤ a + b
      least a b = omega arith
  weight-more m l (suc n) = by_test (eqb (suc n) g) refl (weight-more m l n)
    where
      here : (a b c d : ℕ) → a ≤ b + m → c ≡ d → a + c ≤ b + d + m
      here a b c d l e = omega arith

      there : (a b c d : ℕ) → a ≡ b → c ≤ d + m → a + c ≤ b + d + m
      there a b c d e l = omega arith

      by_test : (b : Bool) → eqb (suc n) g ≡ b → weight h n ≤ weight f n + m → h (suc n) + weight h n ≤ f (suc n) + weight f n + m
      by_test true e r = here (h (suc n)) (f (suc n)) (weight h n) (weight f n) (subst (λ k. h k ≤ f k + m) (sym (eqb-true (suc n) g e)) l) (low-same n (subst (λ k. suc n ≤ k) (eqb-true (suc n) g e) (same (suc n))))
        where
          same : (a : ℕ) → a ≤ a
          same a = omega arith
      by_test false e r = there (h (suc n)) (f (suc n)) (weight h n) (weight f n) (others (suc n) e) r

  pub weight-less : h g + 1 ≤ f g → 1 ≤ g → (n : ℕ) → g ≤ n → weight h n + 1 ≤ weight f n
  weight-less l one zero in_it = never g one in_it
    where
      never : {A : Type 0} (a : ℕ) → 1 ≤ a → a ≤ 0 → A
      never a x y = absurd (no a x y)
        where
          no : (a : ℕ) → 1 ≤ a → a ≤ 0 → ⊥
          no a x y = omega arith
  weight-less l one (suc n) in_it = by_test (eqb (suc n) g) refl (weight-less l one n)
    where
      here : (a b c d : ℕ) → a + 1 ≤ b → c ≡ d → a + c + 1 ≤ b + d
      here a b c d l e = omega arith

      there : (a b c d : ℕ) → a ≡ b → c + 1 ≤ d → a + c + 1 ≤ b + d
      there a b c d e l = omega arith

      below : (a b : ℕ) → a ≤ suc b → eqb (suc b) a ≡ false → a ≤ b
      below a b l e = grind (arith, nat_tests)

      same : (a : ℕ) → a ≤ a
      same a = omega arith

      by_test : (b : Bool) → eqb (suc n) g ≡ b → (g ≤ n → weight h n + 1 ≤ weight f n) → h (suc n) + weight h n + 1 ≤ f (suc n) + weight f n
      by_test true e r = here (h (suc n)) (f (suc n)) (weight h n) (weight f n) (subst (λ k. h k + 1 ≤ f k) (sym (eqb-true (suc n) g e)) l) (low-same n (subst (λ k. suc n ≤ k) (eqb-true (suc n) g e) (same (suc n))))
      by_test false e r = there (h (suc n)) (f (suc n)) (weight h n) (weight f n) (others (suc n) e) (r (below g n in_it e))
