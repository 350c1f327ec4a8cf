-- Whether nobody below a gxid is in a set.
use Rattle.std.proofs.Common.{◌≡◌, ℕ, ◌<◌, zero, suc, Bool, true, false, [], refl, sym, ◌∙◌, eqb, arith}
use Rattle.std.proofs.lemmas.Bool.{and_from}
use Rattle.std.proofs.lemmas.Bool.Decides.{nat_tests}
use Rattle.std.specs.BTreeSet.{BTreeSet, IsLowerBound, contains}
use Rattle.std.specs.Ordering.{is_gt, nat_cmp}
use Rattle.std.specs.Prelude.{not, nat_le, IsTrue}
use Rattle.gx_ids.specs.declared.ids.Gxid.{Gxid}
use Rattle.gx_dsnap.specs.Gxids.{gxid_cmp}
use Rattle.gx_rules.specs.Maps.{each_below}

each_below-all : (m : ℕ) (f : ℕ → Bool) → ((n : ℕ) → n < m → f n ≡ true) → each_below m f ≡ true
each_below-all zero f all = refl
each_below-all (suc m) f all = and_from (f m) (each_below m f) (all m (omega arith)) (each_below-all m f (λ n low. all n (omega arith)))

pub each_below-none : (m k : ℕ) (f : ℕ → Bool) → k < m → f k ≡ false → each_below m f ≡ false
each_below-none zero k f low e = absurd (omega arith)
each_below-none (suc m) k f low e = by_test (eqb k m) refl (each_below-none m k f)
  where
    by_test : (b : Bool) → eqb k m ≡ b → (k < m → f k ≡ false → each_below m f ≡ false) → each_below (suc m) f ≡ false
    by_test true same more = grind (arith, nat_tests)
    by_test false other more = let less : k < m = grind (arith, nat_tests) in grind (arith, more less e)

pub each_below-one : (m k : ℕ) (f : ℕ → Bool) → k < m → each_below m f ≡ true → f k ≡ true
each_below-one m k f low all = by_test (f k) refl
  where
    differ : false ≡ true → ⊥
    differ e = cc

    by_test : (b : Bool) → f k ≡ b → b ≡ true
    by_test true e = refl
    by_test false e = absurd (differ (sym (each_below-none m k f low e) ∙ all))

module _ (holders : BTreeSet Gxid) where
  abbrev is_out : ℕ → Bool
  is_out n = not (contains gxid_cmp holders (record { 0 = n }))

  above : (k : Gxid) (n : ℕ) (b : Bool) → n < k.0 → contains gxid_cmp holders (record { 0 = n }) ≡ b → (IsTrue b → is_gt (nat_cmp k.0 n) ≡ false) → not b ≡ true
  above k n true low e least = let over : is_gt (nat_cmp k.0 n) ≡ false = least refl in grind (arith, nat_tests)
  above k n false low e least = refl

  pub none_below-first : (k : Gxid) (low : ℕ) → IsTrue (contains gxid_cmp holders k) → IsLowerBound gxid_cmp holders k → (b : Bool) → nat_le low k.0 ≡ b → b ≡ each_below low is_out
  none_below-first k low there least true e = sym (each_below-all low is_out (λ n under. above k n (contains gxid_cmp holders (record { 0 = n })) (grind (arith, nat_tests)) refl (least (record { 0 = n }))))
  none_below-first k low there least false e = sym (each_below-none low k.0 is_out (grind (arith, nat_tests)) (is_in (contains gxid_cmp holders k) there))
    where
      is_in : (b : Bool) → IsTrue b → not b ≡ false
      is_in true there = refl
      is_in false there = absurd (cc)

  pub none_below-nobody : (low : ℕ) → holders.keys ≡ [] → true ≡ each_below low is_out
  none_below-nobody low none = sym (each_below-all low is_out (λ n under. rw none refl))
