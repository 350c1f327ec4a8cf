-- A list of numbers, read place by place.
use Rattle.std.proofs.Common.{◌≡◌, ◌<◌, ℕ, suc, ◌+◌, List, [], ◌∷◌, ap, sym, ◌∙◌, refl, arith, get_or, length}
use Rattle.std.specs.Prelude.{map}
use Rattle.std.specs.List.{range_with_len}

read-from : (f : ℕ → ℕ) (a : ℕ) (xs : List ℕ) → ((i : ℕ) → i < length xs → f (a + i) ≡ get_or xs i 0) → map f (range_with_len a (length xs)) ≡ xs
read-from f a [] reads = refl
read-from f a (x ∷ xs) reads =
    ap (λ n. f n ∷ map f (range_with_len (a + 1) (length xs))) (first a) ∙ ap (λ y. y ∷ map f (range_with_len (a + 1) (length xs))) (reads 0 (below (length xs)))
    ∙ ap (λ ys. x ∷ ys) (read-from f (a + 1) xs (λ i inside. ap f (next a i) ∙ reads (suc i) (above i (length xs) inside)))
  where
    first : (a : ℕ) → a ≡ a + 0
    first a = omega arith

    below : (n : ℕ) → 0 < suc n
    below n = omega arith

    next : (a i : ℕ) → a + 1 + i ≡ a + suc i
    next a i = omega arith

    above : (i n : ℕ) → i < n → suc i < suc n
    above i n h = omega (arith, h)

-- all of it
pub read-all : (f : ℕ → ℕ) (xs : List ℕ) (n : ℕ) → length xs ≡ n → ((i : ℕ) → f i ≡ get_or xs i 0) → map f (range_with_len 0 n) ≡ xs
read-all f xs n count reads = ap (λ k. map f (range_with_len 0 k)) (sym count) ∙ read-from f 0 xs (λ i inside. ap f (none i) ∙ reads i)
  where
    none : (i : ℕ) → 0 + i ≡ i
    none i = omega arith
