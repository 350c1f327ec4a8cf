-- Rows that an owner deals out are divided.
use Rattle.std.proofs.Common.{ℕ, zero, suc, ◌+◌, ◌<◌, ◌≤◌, ◌≡◌, ◌==◌, ◌∙◌, Bool, true, false, cond, not, List, [], ◌∷◌, ◌++◌, filter, map, refl, ap, subst, arith}
use Rattle.std.proofs.lemmas.Bool.Decides.{nat_tests}
use Rattle.std.proofs.lemmas.List.Elements.{recursion_from_All}
use Rattle.std.proofs.lemmas.List.Sorted.{IsPermutation-append_right, IsPermutation-filter_both, IsPermutation-refl, IsPermutation-trans}
use Rattle.std.specs.List.{All, AllByRecursion, range_with_len}
use Rattle.std.specs.List.Sorted.{IsPermutation}
use Rattle.gx_tree.specs.declared.row.KeyedRow.{KeyedRow}
use Rattle.gx_meaning.specs.Answer.{dealt_by, together}
use Rattle.gx_gather.proofs.Keys.{filter-through}

module _ (owner : KeyedRow → ℕ) where
  abbrev part : List KeyedRow → ℕ → List KeyedRow
  part rows number = filter (λ row. owner row == number) rows

  abbrev others : ℕ → List KeyedRow → List KeyedRow
  others k rows = filter (λ row. not (owner row == k)) rows

  abbrev Within : ℕ → ℕ → List KeyedRow → Type 0
  Within k n rows = AllByRecursion (λ row. (k ≤ owner row) × (owner row < k + n)) rows

  apart : (o i k : ℕ) → k < i → (o == i) ≡ true → not (o == k) ≡ true
  apart o i k above is = grind (arith, nat_tests)

  part-others : (k i : ℕ) (rows : List KeyedRow) → k < i → part (others k rows) i ≡ part rows i
  part-others k i rows above = filter-through (λ row. owner row == i) (λ row. not (owner row == k)) (λ row is. apart (owner row) i k above is) rows

  parts-others : (k from n : ℕ) (rows : List KeyedRow) → k < from → map (part (others k rows)) (range_with_len from n) ≡ map (part rows) (range_with_len from n)
  parts-others k from zero rows above = refl
  parts-others k from (suc n) rows above =
      ap (λ l. l ∷ map (part (others k rows)) (range_with_len (from + 1) n)) (part-others k from rows above) ∙ ap (λ l. part rows from ∷ l) (parts-others k (from + 1) n rows (omega (arith, above)))

  next-bound : (o k n : ℕ) → (o == k) ≡ false → k ≤ o → o < k + suc n → (k + 1 ≤ o) × (o < k + 1 + n)
  next-bound o k n other low high = (grind (arith, nat_tests), omega (arith, high))

  within-step : (k n : ℕ) (row : KeyedRow) (rows : List KeyedRow) (b : Bool) → (owner row == k) ≡ b → (k ≤ owner row) × (owner row < k + suc n) → Within (k + 1) n (others k rows) → Within (k + 1) n (cond (not b) (row ∷ others k rows) (others k rows))
  within-step k n row rows true is bounds more = more
  within-step k n row rows false is bounds more = (next-bound (owner row) k n is bounds.0 bounds.1, more)

  within-others : (k n : ℕ) (rows : List KeyedRow) → Within k (suc n) rows → Within (k + 1) n (others k rows)
  within-others k n [] all = tt
  within-others k n (row ∷ rows) all = within-step k n row rows (owner row == k) refl all.0 (within-others k n rows all.1)

  none-within : (k : ℕ) (rows : List KeyedRow) → Within k 0 rows → IsPermutation rows []
  none-within k [] all = IsPermutation-refl []
  none-within k (row ∷ rows) all = let low : k ≤ owner row = all.0.0 in let high : owner row < k + 0 = all.0.1 in absurd (omega (arith, low, high))

  divided-from : (k n : ℕ) (rows : List KeyedRow) → Within k n rows → IsPermutation rows (together (map (part rows) (range_with_len k n)))
  divided-from k zero rows all = none-within k rows all
  divided-from k (suc n) rows all =
      let rest = divided-from (k + 1) n (others k rows) (within-others k n rows all) in
      let here = IsPermutation-filter_both (λ row. owner row == k) (λ row. not (owner row == k)) (λ row. refl) rows in
      let both = IsPermutation-trans rows (part rows k ++ others k rows) (part rows k ++ together (map (part (others k rows)) (range_with_len (k + 1) n))) here
      (IsPermutation-append_right (part rows k) (others k rows) (together (map (part (others k rows)) (range_with_len (k + 1) n))) rest) in
      subst (λ parts. IsPermutation rows (part rows k ++ together parts)) (parts-others k (k + 1) n rows (omega arith)) both

  from-zero : (n : ℕ) (rows : List KeyedRow) → AllByRecursion (λ row. owner row < n) rows → Within 0 n rows
  from-zero n [] all = tt
  from-zero n (row ∷ rows) all = ((omega arith, omega (arith, all.0)), from-zero n rows all.1)

  pub divided : (n : ℕ) (rows : List KeyedRow) → All (λ row. owner row < n) rows → IsPermutation rows (together (dealt_by owner n rows))
  divided n rows all = divided-from 0 n rows (from-zero n rows (recursion_from_All _ rows all))
