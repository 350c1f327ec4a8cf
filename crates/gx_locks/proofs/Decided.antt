-- Keys are told apart.
use Rattle.std.proofs.Common.{◌≡◌, ◌≢◌, ◌⊎◌, inl, inr, refl, sym, ap, subst, ◌∙◌, Bool, true, false, arith}
use Rattle.std.proofs.lemmas.Bool.Decides.{nat_tests}
use Rattle.gx_locks.specs.contracts.key.KeyPartialEq.TheImpl as block
use Rattle.gx_locks.specs.declared.key.Key.{Key}
use Rattle.gx_locks.specs.declared.key.Key.TheVariants.{On, Of}
use Rattle.gx_waits.specs.Claim.{same_object}
use Rattle.gx_waits.specs.declared.object.Object.{Object}
use Rattle.gx_waits.specs.declared.object.Object.TheVariants.{Relation, Tuple, Transaction}
use Rattle.gx_locks.proofs.Meets.{same_object-same, same_object-itself}

-- the derived test tells keys apart
eq_is : (a b : Object) → block.ghosts.eq (On a) (On b) ≡ same_object a b
eq_is (Relation t) (Relation u) = refl
eq_is (Relation t) (Tuple q) = refl
eq_is (Relation t) (Transaction h) = refl
eq_is (Tuple r) (Relation u) = refl
eq_is (Tuple r) (Tuple q) = refl
eq_is (Tuple r) (Transaction h) = refl
eq_is (Transaction g) (Relation u) = refl
eq_is (Transaction g) (Tuple q) = refl
eq_is (Transaction g) (Transaction h) = refl

pub same_key : (k l : Key) → block.ghosts.eq k l ≡ true → k ≡ l
same_key (On a) (On b) e = ap On (same_object-same a b (sym (eq_is a b) ∙ e))
same_key (Of g) (Of h) e = grind (arith, nat_tests)
same_key (On a) (Of h) e = absurd (cc)
same_key (Of g) (On b) e = absurd (cc)

pub key_itself : (k : Key) → block.ghosts.eq k k ≡ true
key_itself (On a) = eq_is a a ∙ same_object-itself a
key_itself (Of g) = grind (arith, nat_tests)

pub other_key : (k l : Key) → l ≢ k → block.ghosts.eq k l ≡ false
other_key k l other = by_test (block.ghosts.eq k l) refl
  where
    by_test : (b : Bool) → block.ghosts.eq k l ≡ b → b ≡ false
    by_test true e = absurd (other (sym (same_key k l e)))
    by_test false e = refl

pub key_decides : (k l : Key) → (k ≡ l) ⊎ (k ≢ l)
key_decides k l = by_test (block.ghosts.eq k l) refl
  where
    apart : (b : Bool) → b ≡ true → b ≡ false → ⊥
    apart b is isnt = cc

    by_test : (b : Bool) → block.ghosts.eq k l ≡ b → (k ≡ l) ⊎ (k ≢ l)
    by_test true e = inl (same_key k l e)
    by_test false e = inr (λ same. apart (block.ghosts.eq k l) (subst (λ m. block.ghosts.eq k m ≡ true) same (key_itself k)) e)
