-- Records of transactions that are found, written, added and dropped.
use Rattle.std.proofs.Common.{◌≡◌, ◌≢◌, ℕ, ◌+◌, ◌<◌, ◌≤◌, is_some, List, [], ◌∷◌, ◌++◌, length, get_or, eqb, not, ◌&&◌, refl, sym, ap, ◌∙◌, Bool, true, false, cond, arith, suc, zero, slice_get, slice_set}
use Rattle.std.proofs.lemmas.Bool.Decides.{nat_tests}
use Rattle.std.proofs.lemmas.Grind.{common_steps}
use Rattle.std.proofs.lemmas.List.Folds.{find_at, find-set, find_past, find-append}
use Rattle.std.proofs.lemmas.List.Quantifiers.{position-Some}
use Rattle.std.proofs.lemmas.Option.{slice_get-get_or, slice_get_past}
use Rattle.std.specs.List.{find, position, position_or_len}
use Rattle.std.specs.Option.{option_or}
use Rattle.std.specs.Prelude.{Option, Some, None}
use Rattle.gx_ids.specs.declared.ids.Gxid.{Gxid}
use Rattle.gx_locks.specs.declared.owner.Owner.{Owner}
use Rattle.gx_locks.specs.Owners.{is_owner, owner_in}
use Rattle.gx_locks.specs.Rack.{no_shelf}
use Rattle.gx_locks.specs.Room.{bit}

named : (l : Bool) (n m : ℕ) → (l && eqb n m) ≡ true → n ≡ m
named true n m is = grind (arith, nat_tests)
named false n m is = absurd (cc)

pub other_owner : (g k : Gxid) (o : Owner) → k ≢ g → is_owner g o ≡ true → is_owner k o ≡ false
other_owner g k o other is = by_test (is_owner k o) refl
  where
    same : (a b : Gxid) → a.0 ≡ b.0 → a ≡ b
    same a b e = grind (arith, nat_tests)

    by_test : (b : Bool) → is_owner k o ≡ b → b ≡ false
    by_test true e = absurd (other (same k g (sym (named o.is_live o.gxid.0 k.0 e) ∙ named o.is_live o.gxid.0 g.0 is)))
    by_test false e = refl

-- how many records are live
abbrev pub live : List Owner → ℕ
live [] = 0
live (o ∷ os) = bit o.is_live + live os

pub live-less : (os : List Owner) (i : ℕ) (o d : Owner) → i < length os → (get_or os i d).is_live ≡ true → o.is_live ≡ false → live (slice_set os i o) < live os
live-less [] i o d inside was isnt = absurd (omega (arith, inside))
live-less (x ∷ os) zero o d inside was isnt =
    let one : bit x.is_live ≡ 1 = ap bit was in
    let none : bit o.is_live ≡ 0 = ap bit isnt in
    omega (arith, one, none)
live-less (x ∷ os) (suc i) o d inside was isnt =
    let less = live-less os i o d (omega (arith, inside)) was isnt in
    omega (arith, less)

pub is_live : (l b : Bool) → (l && b) ≡ true → l ≡ true
is_live true b is = refl
is_live false b is = absurd (cc)

abbrev pub no_owner : Gxid → Owner
no_owner g = record { is_live = true; gxid = g; holds = no_shelf; end = no_shelf }

pub none_of : {A : Type 0} (o : Option A) → is_some o ≡ false → o ≡ None
none_of (Some x) e = absurd (cc)
none_of None e = refl

module _ (os : List Owner) (g : Gxid) (i : ℕ) (at : position (is_owner g) os ≡ Some i) where
  placed : i ≡ position_or_len (is_owner g) os
  placed = grind (arith, common_steps)

  pub its : (d : Owner) → is_owner g (get_or os i d) ≡ true
  its d = (position-Some (is_owner g) os i d at).1

  module _ (d : Owner) where
    pub inside : i < length os
    inside = (position-Some (is_owner g) os i d at).0

    pub found : owner_in os g ≡ Some (get_or os i d)
    found = find_at (is_owner g) os ∙ ap (slice_get os) (sym placed) ∙ slice_get-get_or os i d inside

    pub found-set : (o : Owner) → is_owner g o ≡ true → owner_in (slice_set os i o) g ≡ Some o
    found-set o is = find-set (is_owner g) os i o placed inside is

    pub found-past : (k : Gxid) (o : Owner) → k ≢ g → is_owner g o ≡ true → owner_in (slice_set os i o) k ≡ owner_in os k
    found-past k o other is = find_past (is_owner k) os i o d (other_owner g k (get_or os i d) other (its d)) (other_owner g k o other is)

    -- it is free from now on
    pub found-freed : (k : Gxid) (o : Owner) → k ≢ g → is_owner k o ≡ false → owner_in (slice_set os i o) k ≡ owner_in os k
    found-freed k o other isnt = find_past (is_owner k) os i o d (other_owner g k (get_or os i d) other (its d)) isnt

pub unfound : (os : List Owner) (g : Gxid) → position (is_owner g) os ≡ None → owner_in os g ≡ None
unfound os g at = find_at (is_owner g) os ∙ slice_get_past os (position_or_len (is_owner g) os) past
  where
    past : length os ≤ position_or_len (is_owner g) os
    past = grind (arith, common_steps)

-- a record that is free or is put behind the others is taken
first_of : {A : Type 0} (b : Bool) (x : A) (rest : Option A) → cond b (Some x) rest ≡ None → (b ≡ false) × (rest ≡ None)
first_of true x rest none = absurd (cc)
first_of false x rest none = (refl, none)

find-taken : {A : Type 0} (p : A → Bool) (xs : List A) (i : ℕ) (y : A) → find p xs ≡ None → i < length xs → p y ≡ true → find p (slice_set xs i y) ≡ Some y
find-taken p [] i y none inside is = absurd (omega (arith, inside))
find-taken p (x ∷ xs) zero y none inside is = ap (λ b. cond b (Some y) (find p xs)) is
find-taken p (x ∷ xs) (suc i) y none inside is =
    let first = first_of (p x) x (find p xs) none in
    ap (λ b. cond b (Some x) (find p (slice_set xs i y))) first.0 ∙ find-taken p xs i y first.1 (omega (arith, inside)) is

option_or-None : {A : Type 0} (o : Option A) → option_or o None ≡ o
option_or-None None = refl
option_or-None (Some x) = refl

pub is_free : (l : Bool) → not l ≡ true → l ≡ false
is_free true e = sym e
is_free false e = refl

its_own : (o : Owner) → o.is_live ≡ true → is_owner o.gxid o ≡ true
its_own o live = ap (λ l. l && eqb o.gxid.0 o.gxid.0) live ∙ itself o.gxid.0
  where
    itself : (n : ℕ) → eqb n n ≡ true
    itself n = grind (arith, nat_tests)

module _ (os : List Owner) (o : Owner) (live : o.is_live ≡ true) (none : owner_in os o.gxid ≡ None) where
  pub pushed-own : owner_in (os ++ o ∷ []) o.gxid ≡ Some o
  pushed-own =
      find-append (is_owner o.gxid) os (o ∷ [])
      ∙ ap (λ f. option_or f (find (is_owner o.gxid) (o ∷ []))) none
      ∙ ap (λ b. cond b (Some o) None) (its_own o live)

  pub pushed-other : (k : Gxid) → k ≢ o.gxid → owner_in (os ++ o ∷ []) k ≡ owner_in os k
  pushed-other k other =
      find-append (is_owner k) os (o ∷ [])
      ∙ ap (λ b. option_or (owner_in os k) (cond b (Some o) None)) (other_owner o.gxid k o other (its_own o live))
      ∙ option_or-None (owner_in os k)

  module _ (i : ℕ) (d : Owner) (at : position (λ owner. not owner.is_live) os ≡ Some i) where
    pub taken-own : owner_in (slice_set os i o) o.gxid ≡ Some o
    taken-own = find-taken (is_owner o.gxid) os i o none (position-Some (λ owner. not owner.is_live) os i d at).0 (its_own o live)

    pub taken-other : (k : Gxid) → k ≢ o.gxid → owner_in (slice_set os i o) k ≡ owner_in os k
    taken-other k other =
        find_past (is_owner k) os i o d
        (ap (λ l. l && eqb (get_or os i d).gxid.0 k.0) (is_free (get_or os i d).is_live (position-Some (λ owner. not owner.is_live) os i d at).1))
        (other_owner o.gxid k o other (its_own o live))
