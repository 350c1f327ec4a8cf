-- Entries that a test keeps are in the order in which they were.
use Rattle.std.proofs.Common.{◌≡◌, List, [], ◌∷◌, Bool, true, false, cond}
use Rattle.std.proofs.lemmas.Map.Keys.{sorted_head, sorted_tail}
use Rattle.std.specs.Prelude.{filter}
use Rattle.std.specs.List.{AllByRecursion}
use Rattle.std.specs.List.Sorted.{IsStrictlySortedBy}
use Rattle.std.specs.Map.{keys_of}
use Rattle.std.specs.declared.cmp.Ordering.{Ordering}
use Rattle.std.specs.declared.cmp.Ordering.TheVariants.{Less}

all_once : {K X : Type 0} (P : K → Type 0) (e : K × X) (es : List (K × X)) (b : Bool) → P e.0 → AllByRecursion P (keys_of es) → AllByRecursion P (keys_of (cond b (e ∷ es) es))
all_once P e es true first all = (first, all)
all_once P e es false first all = all

all_kept : {K X : Type 0} (p : K × X → Bool) (P : K → Type 0) (es : List (K × X)) → AllByRecursion P (keys_of es) → AllByRecursion P (keys_of (filter p es))
all_kept p P [] all = tt
all_kept p P (e ∷ es) all = all_once P e (filter p es) (p e) all.0 (all_kept p P es all.1)

sorted_once : {K X : Type 0} (c : K → K → Ordering) (e : K × X) (es : List (K × X)) (b : Bool) → AllByRecursion (λ y. c e.0 y ≡ Less) (keys_of es) → IsStrictlySortedBy c (keys_of es) → IsStrictlySortedBy c (keys_of (cond b (e ∷ es) es))
unfolding IsStrictlySortedBy
sorted_once c e es true first sorted = (first, sorted)
sorted_once c e es false first sorted = sorted

pub IsStrictlySortedBy-keys_filter : {K X : Type 0} (c : K → K → Ordering) (p : K × X → Bool) (es : List (K × X)) → IsStrictlySortedBy c (keys_of es) → IsStrictlySortedBy c (keys_of (filter p es))
IsStrictlySortedBy-keys_filter c p [] sorted = sorted
IsStrictlySortedBy-keys_filter c p (e ∷ es) sorted =
    sorted_once c e (filter p es) (p e) (all_kept p (λ y. c e.0 y ≡ Less) es (sorted_head c e.0 (keys_of es) sorted)) (IsStrictlySortedBy-keys_filter c p es (sorted_tail c e.0 (keys_of es) sorted))
