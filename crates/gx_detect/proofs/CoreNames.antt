-- The names of a core, in order.
use Rattle.std.proofs.Common.{◌≡◌, ◌<◌, ℕ, zero, suc, List, [], ◌∷◌, inl, inr, true, filter, map, length, get_or, sym, refl, ap, subst, ◌∙◌, arith}
use Rattle.std.proofs.lemmas.Bool.Decides.{nat_tests}
use Rattle.std.proofs.lemmas.Bool.{ltb-true, eqb-true, eq-eqb}
use Rattle.std.proofs.lemmas.List.{get_or-map}
use Rattle.std.proofs.lemmas.Map.Keys.{sorted_from_strictly_increasing, below_from_sorted}
use Rattle.std.specs.Prelude.{IfOk, Result, Ok, Err, Bool, nat_lt}
use Rattle.std.specs.List.{Contains, AllPairs, count_by}
use Rattle.std.specs.List.Sorted.{IsStrictlyIncreasing}
use Rattle.gx_ids.specs.declared.ids.Gxid.{Gxid}
use Rattle.gx_waits.specs.declared.placed_edge.PlacedEdge.{PlacedEdge}
use Rattle.gx_waits.specs.Closed.{IsNamed}
use Rattle.gx_waits.specs.Victims.{IsNamedInCore}
use Rattle.gx_waits.proofs.Members.{has_from_contains, contains_from_has}
use Rattle.gx_waits.proofs.Determined.{same_gxid}
use Rattle.gx_detect.specs.declared.place.Aim.TheVariants.{Core}
use Rattle.gx_detect.specs.declared.place.Place.{Place}
use Rattle.gx_detect.specs.declared.place.Place.TheVariants.{Anywhere}
use Rattle.gx_detect.specs.Core.{IsCore, AreNamed, waiter_is_left}
use Rattle.gx_detect.specs.Place.{need_of, waits_in}
use Rattle.gx_detect.specs.Reducing.{AreAmong, IsBacked}
use Rattle.gx_detect.proofs.Marks.{none_counted, some_counted}
use Rattle.gx_detect.proofs.Stuck.{has_filter, filter_has, holder_waits, map_has, has_map}

pub if_ok_weaker : {T E : Type 0} (P Q : T → Type 0) (r : Result T E) → ((x : T) → P x → Q x) → IfOk r P → IfOk r Q
if_ok_weaker P Q (Ok x) f p = f x p
if_ok_weaker P Q (Err e) f p = p

waits_test : (count : Place → ℕ) (e : PlacedEdge) → 0 < count (Anywhere e.edge.waiter) → waiter_is_left count e ≡ true
unfolding waiter_is_left
waits_test count e l = grind (arith, nat_tests)

test_waits : (count : Place → ℕ) (e : PlacedEdge) → waiter_is_left count e ≡ true → 0 < count (Anywhere e.edge.waiter)
unfolding waiter_is_left
test_waits count e t = ltb-true 0 (count (Anywhere e.edge.waiter)) t

abbrev pub gxid_of : ℕ → Gxid
gxid_of n = record { 0 = n }

abbrev pub waiter_number : PlacedEdge → ℕ
waiter_number e = e.edge.waiter.0

length-names : (l : List ℕ) → length (map gxid_of l) ≡ length l
length-names [] = refl
length-names (n ∷ l) = ap suc (length-names l)

rising_names : (sorted : List ℕ) → IsStrictlyIncreasing sorted → AllPairs (λ v w. v.0 < w.0) (map gxid_of sorted)
rising_names sorted up i j d before below =
    let short : j < length sorted = subst (λ n. j < n) (length-names sorted) below in
    let inside : i < length sorted = omega arith in
    let a : get_or (map gxid_of sorted) i d ≡ gxid_of (get_or sorted i 0) = get_or-map gxid_of sorted i 0 d inside in
    let b : get_or (map gxid_of sorted) j d ≡ gxid_of (get_or sorted j 0) = get_or-map gxid_of sorted j 0 d short in
    let less : get_or sorted i 0 < get_or sorted j 0 = below_from_sorted sorted i j 0 (sorted_from_strictly_increasing sorted up) before short in
    subst (λ v. v.0 < (get_or (map gxid_of sorted) j d).0) (sym a) (subst (λ w. get_or sorted i 0 < w.0) (sym b) less)

-- who waits in a core, by the counts of its edges
module _ (part : List PlacedEdge) (backed : IsBacked Core part) (count : Place → ℕ) (counts : (p : Place) → count p ≡ count_by (waits_in p) part) where
  waiter_of : (v : Gxid) → IsNamed part v → (e : PlacedEdge) × Contains part e × (e.edge.waiter ≡ v)
  waiter_of v (e, c, inl p) = (e, c, p)
  waiter_of v (e, c, inr p) = let f = backed e c (need_of e) (inl refl) in (f.0, f.1, holder_waits e f.0 f.2 ∙ p)

  pub named_is_counted : (v : Gxid) → IsNamed part v → 0 < count (Anywhere v)
  named_is_counted v named = go (count (Anywhere v)) refl
    where
      go : (n : ℕ) → count (Anywhere v) ≡ n → 0 < n
      go zero z =
          let e = waiter_of v named in
          absurd (none_counted (waits_in (Anywhere v)) part e.0 (sym (counts (Anywhere v)) ∙ z) (has_from_contains e.0 part e.1) (eq-eqb e.0.edge.waiter.0 v.0 (ap (λ g. g.0) e.2)))
      go (suc n) z = omega arith

  pub counted_is_named : (v : Gxid) → 0 < count (Anywhere v) → IsNamed part v
  counted_is_named v l =
      let e = some_counted (waits_in (Anywhere v)) part (subst (λ n. 0 < n) (counts (Anywhere v)) l) in
      (e.0, contains_from_has e.0 part e.1, inl (same_gxid e.0.edge.waiter v (eqb-true e.0.edge.waiter.0 v.0 e.2)))

  pub named_tested : (v : Gxid) (b : Bool) → b ≡ nat_lt 0 (count (Anywhere v)) → (b ≡ true → IsNamed part v) × (IsNamed part v → b ≡ true)
  named_tested v b is = (
    λ t. counted_is_named v (ltb-true 0 (count (Anywhere v)) (sym is ∙ t)),
    λ n. is ∙ below (count (Anywhere v)) (named_is_counted v n),
  )
    where
      below : (k : ℕ) → 0 < k → nat_lt 0 k ≡ true
      below k l = grind (arith, nat_tests)

  module _ (edges : List PlacedEdge) (among : AreAmong part edges) (numbers sorted : List ℕ) (names : List Gxid) (n : numbers ≡ map waiter_number (filter (waiter_is_left count) edges))
      (same : (k : ℕ) → (Contains sorted k → Contains numbers k) × (Contains numbers k → Contains sorted k)) (up : IsStrictlyIncreasing sorted) (g : names ≡ map gxid_of sorted) where
    named_is_name : (v : Gxid) → IsNamed part v → Contains names v
    named_is_name v named =
        let e = waiter_of v named in
        let l : 0 < count (Anywhere e.0.edge.waiter) = subst (λ w. 0 < count (Anywhere w)) (sym e.2) (named_is_counted v named) in
        let inside = has_filter (waiter_is_left count) edges e.0 (has_from_contains e.0 edges (among e.0 e.1)) (waits_test count e.0 l) in
        let number = has_map waiter_number (filter (waiter_is_left count) edges) e.0 inside in
        let there : Contains sorted (waiter_number e.0) = (same (waiter_number e.0)).1 (subst (λ x. Contains x (waiter_number e.0)) (sym n) (contains_from_has (waiter_number e.0) (map waiter_number (filter (waiter_is_left count) edges)) number)) in
        subst (λ x. Contains x v) (sym g) (subst (λ w. Contains (map gxid_of sorted) w) e.2
        (contains_from_has e.0.edge.waiter (map gxid_of sorted) (has_map gxid_of sorted (waiter_number e.0) (has_from_contains (waiter_number e.0) sorted there))))

    name_is_named : (v : Gxid) → Contains names v → IsNamed part v
    name_is_named v c =
        let k = map_has gxid_of sorted v (has_from_contains v (map gxid_of sorted) (subst (λ x. Contains x v) g c)) in
        let number = (same k.0).0 (contains_from_has k.0 sorted k.1) in
        let e = map_has waiter_number (filter (waiter_is_left count) edges) k.0 (has_from_contains k.0 (map waiter_number (filter (waiter_is_left count) edges)) (subst (λ x. Contains x k.0) n number)) in
        let l = test_waits count e.0 (filter_has (waiter_is_left count) edges e.0 e.1).1 in
        let is : e.0.edge.waiter ≡ v = same_gxid e.0.edge.waiter v (e.2 ∙ ap (λ w. w.0) k.2) in
        subst (λ w. IsNamed part w) is (counted_is_named e.0.edge.waiter l)

    pub are_named : AreNamed part names
    are_named = record {
      all_of_them = named_is_name;
      no_others = name_is_named;
      rising = subst (λ l. AllPairs (λ v w. v.0 < w.0) l) (sym g) (rising_names sorted up);
    }

-- names of a core are those of the core as the definitions say it
pub core_name : (edges core : List PlacedEdge) (v : Gxid) → IsCore edges core → IsNamed core v → IsNamedInCore edges v
core_name edges core v k (e, c, m) = (e, record { part = core; is_part = k.part; member = c }, m)

pub name_in_core : (edges core : List PlacedEdge) (v : Gxid) → IsCore edges core → IsNamedInCore edges v → IsNamed core v
name_in_core edges core v k (e, c, m) = (e, k.whole e c, m)
