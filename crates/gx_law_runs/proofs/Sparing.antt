-- What becomes of a transaction's wait among others' locks.
use Rattle.std.proofs.Common.{◌≡◌, ◌==◌, ℕ, List, [], ◌∷◌, ◌++◌, Some, None, Bool, true, false, not, refl, ap, ◌∙◌, if◌then◌else◌, arith, cond, eqb}
use Rattle.std.proofs.lemmas.Bool.Decides.{nat_tests}
use Rattle.std.specs.Prelude.{find, is_some}
use Rattle.gx_lemmas.proofs.Numbers.{eqb-self}
use Rattle.gx_waits.specs.declared.claim.Claim.{Claim}
use Rattle.gx_waits.specs.Claims.{is_of, without}
use Rattle.gx_locks.specs.Locks.{Locks, resumed, wait_of}
use Rattle.gx_rules.specs.Coordinators.{Coord}
use Rattle.gx_rules.specs.Locks.{released, with_wait}
use Rattle.gx_law_order.specs.Standings.{gx}

-- a transaction has a wait at the coordinator
abbrev pub HasWait : Coord → ℕ → Type 0
HasWait c g = is_some (wait_of c.locks (gx g)) ≡ true

-- every other transaction's wait is as it was
abbrev pub Spares : Locks → Locks → ℕ → Type 0
Spares old new g = (h : ℕ) → eqb h g ≡ false → wait_of new (gx h) ≡ wait_of old (gx h)

not-own : (a g h : ℕ) → (a == g) ≡ true → eqb h g ≡ false → (a == h) ≡ false
not-own a g h e f = grind (arith, nat_tests)

find-less : (g h : ℕ) (xs : List Claim) → eqb h g ≡ false → find (is_of (gx h)) (without (gx g) xs) ≡ find (is_of (gx h)) xs
find-less g h [] f = refl
find-less g h (x ∷ xs) f = by_test (is_of (gx g) x) refl (find-less g h xs f)
  where
    by_test : (b : Bool) → is_of (gx g) x ≡ b → find (is_of (gx h)) (without (gx g) xs) ≡ find (is_of (gx h)) xs → find (is_of (gx h)) (cond (not b) (x ∷ without (gx g) xs) (without (gx g) xs)) ≡ find (is_of (gx h)) (x ∷ xs)
    by_test true e r = r ∙ passed (is_of (gx h) x) (not-own x.gxid.0 g h e f)
      where
        passed : (b : Bool) → b ≡ false → find (is_of (gx h)) xs ≡ (if b then Some x else find (is_of (gx h)) xs)
        passed true q = absurd (cc)
        passed false q = refl
    by_test false e r = ap (λ o. if is_of (gx h) x then Some x else o) r

find-more : (h : ℕ) (xs : List Claim) (wanted : Claim) → is_of (gx h) wanted ≡ false → find (is_of (gx h)) (xs ++ wanted ∷ []) ≡ find (is_of (gx h)) xs
find-more h [] wanted e = ap (λ (b : Bool). if b then Some wanted else None) e
find-more h (x ∷ xs) wanted e = ap (λ o. if is_of (gx h) x then Some x else o) (find-more h xs wanted e)

find-own : (g : ℕ) (xs : List Claim) (wanted : Claim) → is_of (gx g) wanted ≡ true → is_some (find (is_of (gx g)) (xs ++ wanted ∷ [])) ≡ true
find-own g [] wanted e = ap (λ (b : Bool). is_some (if b then Some wanted else None)) e
find-own g (x ∷ xs) wanted e = by_test (is_of (gx g) x) (find-own g xs wanted e)
  where
    by_test : (b : Bool) → is_some (find (is_of (gx g)) (xs ++ wanted ∷ [])) ≡ true → is_some (if b then Some x else find (is_of (gx g)) (xs ++ wanted ∷ [])) ≡ true
    by_test true f = refl
    by_test false f = f

-- at an end, at a resumption, and where a wait is added
pub released-spares : (l : Locks) (g : ℕ) → Spares l (released l (gx g)) g
released-spares l g h e = find-less g h l.waits e

pub resumed-spares : (l : Locks) (g : ℕ) (wanted : Claim) → Spares l (resumed l (gx g) (Some wanted)) g
resumed-spares l g wanted h e = find-less g h l.waits e

module _ (l : Locks) (g : ℕ) (wanted : Claim) (own : wanted.gxid ≡ gx g) where
  pub waits-spares : Spares l (with_wait l wanted) g
  waits-spares h e = find-more h l.waits wanted (ap (λ k. k.0 == h) own ∙ turned h g e)
    where
      turned : (h g : ℕ) → eqb h g ≡ false → (g == h) ≡ false
      turned h g e = grind (arith, nat_tests)

  pub waits-own : is_some (wait_of (with_wait l wanted) (gx g)) ≡ true
  waits-own = find-own g l.waits wanted (ap (λ k. k.0 == g) own ∙ eqb-self g)
