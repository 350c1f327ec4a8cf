-- A map as its entries, in the order of their keys.
use Rattle.std.specs.Prelude.{◌≡◌, ℕ, ◌<◌, ◌≤◌, false, IsSome, List, Option, length, slice_index_or}
use Rattle.std.specs.BTreeMap.{is_at}
use Rattle.std.specs.List.Sorted.{IsStrictlySortedBy}
use Rattle.std.specs.Map.{keys_of, lookup}
use Rattle.std.specs.Ordering.{is_gt}
use Rattle.std.specs.declared.cmp.Ordering.{Ordering}
use Rattle.std.specs.declared.cmp.Ordering.TheVariants.{Less, Equal, Greater}

-- the value at a key
abbrev pub at : {K X : Type 0} → (K → K → Ordering) → List (K × X) → K → Option X
at cmp entries key = lookup (is_at (cmp key)) entries

-- no key is below this one
abbrev pub IsLeast : {K X : Type 0} → (K → K → Ordering) → List (K × X) → K → Type 0
IsLeast cmp entries key = (q : _) → IsSome (at cmp entries q) → is_gt (cmp key q) ≡ false

-- each key is below those behind it
abbrev pub IsRising : {K X : Type 0} → (K → K → Ordering) → List (K × X) → Type 0
IsRising cmp entries = IsStrictlySortedBy cmp (keys_of entries)

-- the key that a query compares to stands at a place
pub record StandsAt {K X : Type 0} (compare : K → Ordering) (entries : List (K × X)) (place : ℕ) : Type 0 where
  pub inside : place < length entries
  pub same : (d : K × X) → let e = slice_index_or entries place d in compare e.0 ≡ Equal

-- it would stand at the place: the keys before it are below, and those from it on are above
pub record IsGapFor {K X : Type 0} (compare : K → Ordering) (entries : List (K × X)) (place : ℕ) : Type 0 where
  pub inside : place ≤ length entries
  pub below : (i : ℕ) (d : K × X) → i < place → let e = slice_index_or entries i d in compare e.0 ≡ Greater
  pub above : (i : ℕ) (d : K × X) → place ≤ i → i < length entries → let e = slice_index_or entries i d in compare e.0 ≡ Less
