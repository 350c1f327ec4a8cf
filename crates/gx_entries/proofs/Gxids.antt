-- When a gxid is the one that is looked for.
use Rattle.std.proofs.Common.{◌≡◌, ◌<◌, ◌∙◌, ℕ, Bool, true, false, ap, arith, eqb, ltb, refl, sym}
use Rattle.std.proofs.lemmas.Bool.{eqb-true, ltb-true}
use Rattle.std.proofs.lemmas.Bool.Decides.{nat_tests}
use Rattle.std.specs.BTreeMap.{is_at}
use Rattle.std.specs.Cmp.{nat_cmp_is}
use Rattle.std.specs.Ordering.{is_eq, nat_cmp}
use Rattle.std.specs.declared.cmp.Ordering.TheVariants.{Less, Equal, Greater}
use Rattle.gx_ids.specs.declared.ids.Gxid.{Gxid}
use Rattle.gx_dsnap.specs.Gxids.{gxid_cmp}

pub is_at-eqb : (a b : ℕ) → is_eq (nat_cmp a b) ≡ eqb b a
is_at-eqb a b = by_order (ltb a b) refl (eqb b a) refl
  where
    same : (a b : ℕ) → eqb b a ≡ true → a ≡ b
    same a b e = sym (eqb-true b a e)

    above : (a b : ℕ) → eqb b a ≡ false → ltb a b ≡ false → b < a
    above a b e h = grind (arith, nat_tests)

    by_order : (t : Bool) → ltb a b ≡ t → (u : Bool) → eqb b a ≡ u → is_eq (nat_cmp a b) ≡ u
    by_order t h true e = ap is_eq (sym (nat_cmp_is a b Equal (same a b e)))
    by_order true h false e = ap is_eq (sym (nat_cmp_is a b Less (ltb-true a b h)))
    by_order false h false e = ap is_eq (sym (nat_cmp_is a b Greater (above a b e h)))

-- another gxid is at no key of this one
pub apart : (g q : Gxid) → is_at (gxid_cmp g) q ≡ false → (k : Gxid) → is_at (gxid_cmp g) k ≡ true → is_at (gxid_cmp q) k ≡ false
apart g q other k here = is_at-eqb q.0 k.0 ∙ differ g.0 q.0 k.0 (sym (is_at-eqb g.0 q.0) ∙ other) (sym (is_at-eqb g.0 k.0) ∙ here)
  where
    differ : (g q k : ℕ) → eqb q g ≡ false → eqb k g ≡ true → eqb k q ≡ false
    differ g q k e h = grind (arith, nat_tests)

-- a gxid is at itself
pub itself : (g : Gxid) → is_at (gxid_cmp g) g ≡ true
itself g = is_at-eqb g.0 g.0 ∙ same g.0
  where
    same : (n : ℕ) → eqb n n ≡ true
    same n = grind (arith, nat_tests)

-- what is at one key is at the other
pub alike : (g q : Gxid) → is_at (gxid_cmp g) q ≡ true → q ≡ g
alike g q here = ap (λ n. record { 0 = n }) (eqb-true q.0 g.0 (sym (is_at-eqb g.0 q.0) ∙ here))
