-- A node more keeps a list rising.
use Rattle.std.proofs.Common.{◌≡◌, ◌<◌, ℕ, List, [], ◌∷◌, ◌++◌, Bool, true, false, refl, sym, subst, cond, nat_cmp, Less, arith, eqb, ltb, filter}
use Rattle.std.proofs.lemmas.Bool.{ltb-true}
use Rattle.std.proofs.lemmas.Bool.Decides.{nat_tests}
use Rattle.std.proofs.lemmas.List.Kept.{IsStrictlySortedBy-filter}
use Rattle.std.specs.Cmp.{nat_cmp_is}
use Rattle.std.specs.List.{AllByRecursion}
use Rattle.std.specs.List.Sorted.{IsStrictlySortedBy}
use Rattle.gx_ids.specs.declared.ids.Node.{Node}
use Rattle.gx_dtx.specs.Nodes.{AreRising, has, with_node}

abbrev IsUnder : Node → Node → Type 0
IsUnder i j = nat_cmp i.0 j.0 ≡ Less

less : (m n : ℕ) → m < n → nat_cmp m n ≡ Less
less m n l = sym (nat_cmp_is m n Less l)

all-append : (P : Node → Type 0) (xs ys : List Node) → AllByRecursion P xs → AllByRecursion P ys → AllByRecursion P (xs ++ ys)
all-append P [] ys a b = b
all-append P (x ∷ xs) ys a b = (a.0, all-append P xs ys a.1 b)

-- two rising lists, the one below the other
append-rising : (xs ys : List Node) → AreRising xs → AreRising ys → AllByRecursion (λ x. AllByRecursion (IsUnder x) ys) xs → AreRising (xs ++ ys)
unfolding IsStrictlySortedBy
append-rising [] ys r s f = s
append-rising (x ∷ xs) ys r s f = (all-append (IsUnder x) xs ys r.0 f.0, append-rising xs ys r.1 s f.1)

-- those above a node, and those below
above-under : (i x : Node) (ns : List Node) → ltb x.0 i.0 ≡ true → AllByRecursion (IsUnder x) (filter (λ j. ltb i.0 j.0) ns)
above-under i x [] l = tt
above-under i x (n ∷ ns) l = by_test (ltb i.0 n.0) refl (above-under i x ns l)
  where
    through : (a b c : ℕ) → ltb a b ≡ true → ltb b c ≡ true → a < c
    through a b c e f = grind (arith, nat_tests)

    by_test : (b : Bool) → ltb i.0 n.0 ≡ b → AllByRecursion (IsUnder x) (filter (λ j. ltb i.0 j.0) ns) → AllByRecursion (IsUnder x) (cond b (n ∷ filter (λ j. ltb i.0 j.0) ns) (filter (λ j. ltb i.0 j.0) ns))
    by_test true e r = (less x.0 n.0 (through x.0 i.0 n.0 l e), r)
    by_test false e r = r

above-all : (i : Node) (ns : List Node) → AllByRecursion (IsUnder i) (filter (λ j. ltb i.0 j.0) ns)
above-all i [] = tt
above-all i (n ∷ ns) = by_test (ltb i.0 n.0) refl (above-all i ns)
  where
    by_test : (b : Bool) → ltb i.0 n.0 ≡ b → AllByRecursion (IsUnder i) (filter (λ j. ltb i.0 j.0) ns) → AllByRecursion (IsUnder i) (cond b (n ∷ filter (λ j. ltb i.0 j.0) ns) (filter (λ j. ltb i.0 j.0) ns))
    by_test true e r = (less i.0 n.0 (ltb-true i.0 n.0 e), r)
    by_test false e r = r

below-all : (i : Node) (ns ms : List Node) → AllByRecursion (λ x. AllByRecursion (IsUnder x) (i ∷ filter (λ j. ltb i.0 j.0) ms)) (filter (λ j. ltb j.0 i.0) ns)
below-all i [] ms = tt
below-all i (n ∷ ns) ms = by_test (ltb n.0 i.0) refl (below-all i ns ms)
  where
    P : Node → Type 0
    P x = AllByRecursion (IsUnder x) (i ∷ filter (λ j. ltb i.0 j.0) ms)

    by_test : (b : Bool) → ltb n.0 i.0 ≡ b → AllByRecursion (λ x. AllByRecursion (IsUnder x) (i ∷ filter (λ j. ltb i.0 j.0) ms)) (filter (λ j. ltb j.0 i.0) ns)
        → AllByRecursion (λ x. AllByRecursion (IsUnder x) (i ∷ filter (λ j. ltb i.0 j.0) ms)) (cond b (n ∷ filter (λ j. ltb j.0 i.0) ns) (filter (λ j. ltb j.0 i.0) ns))
    by_test true e r = ((less n.0 i.0 (ltb-true n.0 i.0 e), above-under i n ms e), r)
    by_test false e r = r

middle : (xs ys : List Node) (i : Node) → (xs ++ i ∷ []) ++ ys ≡ xs ++ (i ∷ ys)
middle [] ys i = refl
middle (x ∷ xs) ys i = Rattle.std.proofs.Common.ap (λ zs. x ∷ zs) (middle xs ys i)

first-above : (i : Node) (ns : List Node) → AreRising (filter (λ j. ltb i.0 j.0) ns) → AreRising (i ∷ filter (λ j. ltb i.0 j.0) ns)
unfolding IsStrictlySortedBy
first-above i ns h = (above-all i ns, h)

put-rising : (i : Node) (ns : List Node) → AreRising ns → AreRising (filter (λ j. ltb j.0 i.0) ns ++ (i ∷ filter (λ j. ltb i.0 j.0) ns))
put-rising i ns r = append-rising (filter (λ j. ltb j.0 i.0) ns) (i ∷ filter (λ j. ltb i.0 j.0) ns) (IsStrictlySortedBy-filter _ _ ns r) (first-above i ns (IsStrictlySortedBy-filter _ _ ns r)) (below-all i ns ns)

pub rising-with : (i : Node) (ns : List Node) → AreRising ns → AreRising (with_node i ns)
rising-with i ns r = by_test (has i ns)
  where
    by_test : (b : Bool) → AreRising (cond b ns (filter (λ j. ltb j.0 i.0) ns ++ i ∷ [] ++ filter (λ j. ltb i.0 j.0) ns))
    by_test true = r
    by_test false = subst AreRising (sym (middle (filter (λ j. ltb j.0 i.0) ns) (filter (λ j. ltb i.0 j.0) ns) i)) (put-rising i ns r)
