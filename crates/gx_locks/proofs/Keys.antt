-- Under which keys a claim stands.
use Rattle.std.proofs.Common.{◌≡◌, ◌≢◌, ◌⊎◌, inl, inr, refl, sym, ap, subst, ◌∙◌, Bool, true, false, eqb, arith, ⊎_elim, ℕ, ◌≤◌, ◌<◌}
use Rattle.std.proofs.lemmas.Bool.Decides.{nat_tests}
use Rattle.gx_ids.specs.declared.ids.Gxid.{Gxid}
use Rattle.gx_waits.specs.declared.object.Object.{Object}
use Rattle.gx_waits.specs.declared.claim.Claim.{Claim}
use Rattle.gx_locks.specs.declared.key.Key.{Key}
use Rattle.gx_locks.specs.declared.key.Key.TheVariants.{On, Of}
use Rattle.gx_waits.specs.Claim.{same_object}
use Rattle.gx_waits.specs.Claims.{is_of}
use Rattle.gx_locks.specs.Holds.{is_under}
use Rattle.gx_locks.specs.Room.{bit}
use Rattle.gx_locks.proofs.Meets.{same_object-same, same_object-itself}

-- the claim stands under its object and its transaction, and under no other key
abbrev pub Stands : Key → Claim → Type 0
Stands k c = ((k ≡ On c.object) × (is_under k c ≡ true)) ⊎ (((k ≡ Of c.gxid) × (is_under k c ≡ true)) ⊎ ((k ≢ On c.object) × (k ≢ Of c.gxid) × (is_under k c ≡ false)))

pub under_own : (c : Claim) → is_under (On c.object) c ≡ true
under_own c = same_object-itself c.object

pub of_own : (c : Claim) → is_under (Of c.gxid) c ≡ true
of_own c = grind (arith, nat_tests)

pub on_isnt_of : (o : Object) (g : Gxid) → On o ≢ Of g
on_isnt_of o g same = cc

pub of_isnt_on : (o : Object) (g : Gxid) → Of g ≢ On o
of_isnt_on o g same = cc

apart : (k l : Key) (c : Claim) → is_under k c ≡ false → is_under l c ≡ true → k ≢ l
apart k l c is isnt same = let both : is_under l c ≡ false = subst (λ m. is_under m c ≡ false) same is in absurd (cc)

same_gxid : (g h : Gxid) → eqb h.0 g.0 ≡ true → g ≡ h
same_gxid g h same = grind (arith, nat_tests)

stands_on : (o : Object) (c : Claim) (b : Bool) → same_object o c.object ≡ b → Stands (On o) c
stands_on o c true is = inl (ap On (same_object-same o c.object is), is)
stands_on o c false is = inr (inr (apart (On o) (On c.object) c is (under_own c), on_isnt_of o c.gxid, is))

stands_of : (g : Gxid) (c : Claim) (b : Bool) → is_of g c ≡ b → Stands (Of g) c
stands_of g c true is = inr (inl (ap Of (same_gxid g c.gxid is), is))
stands_of g c false is = inr (inr (of_isnt_on c.object g, apart (Of g) (Of c.gxid) c is (of_own c), is))

pub stands : (k : Key) (c : Claim) → Stands k c
stands (On o) c = stands_on o c (same_object o c.object) refl
stands (Of g) c = stands_of g c (is_of g c) refl

-- a change under the one key and then under the other
module _ {A : Type 0} (c : Claim) (f : A → A) (p q r : Key → A) (on : q (On c.object) ≡ f (p (On c.object))) (on_else : (k : Key) → k ≢ On c.object → q k ≡ p k) (of : r (Of c.gxid) ≡ f (q (Of c.gxid))) (of_else : (k : Key) → k ≢ Of c.gxid → r k ≡ q k) where
  at_on : r (On c.object) ≡ f (p (On c.object))
  at_on = of_else (On c.object) (on_isnt_of c.object c.gxid) ∙ on

  at_of : r (Of c.gxid) ≡ f (p (Of c.gxid))
  at_of = of ∙ ap f (on_else (Of c.gxid) (of_isnt_on c.object c.gxid))

  pub both_under : (k : Key) → is_under k c ≡ true → r k ≡ f (p k)
  both_under k is =
      ⊎_elim
      (λ (s : (k ≡ On c.object) × (is_under k c ≡ true)). subst (λ l. r l ≡ f (p l)) (sym s.0) at_on)
      (λ rest. ⊎_elim
      (λ (s : (k ≡ Of c.gxid) × (is_under k c ≡ true)). subst (λ l. r l ≡ f (p l)) (sym s.0) at_of)
      (λ (s : (k ≢ On c.object) × (k ≢ Of c.gxid) × (is_under k c ≡ false)). absurd (never (is_under k c) is s.2))
      rest)
      (stands k c)
    where
      never : (b : Bool) → b ≡ true → b ≡ false → ⊥
      never b is isnt = cc

  pub both_apart : (k : Key) → is_under k c ≡ false → r k ≡ p k
  both_apart k isnt = of_else k (apart k (Of c.gxid) c isnt (of_own c)) ∙ on_else k (apart k (On c.object) c isnt (under_own c))

-- a place under a key of the claim
pub placed : (b : Bool) (n m : ℕ) → b ≡ true → bit b ≤ n → m ≡ n → 0 < m
placed true n m is room same = omega (arith, room, same)
placed false n m is room same = absurd (cc)
