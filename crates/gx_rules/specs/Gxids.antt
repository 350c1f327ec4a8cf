-- Numbers of transactions, and that they rise.
use Rattle.std.proofs.Common.{◌≡◌, ℕ, zero, suc, ◌+◌, ◌<◌, ◌∙◌, List, [], ◌∷◌, sym, subst}
use Rattle.std.proofs.Math.Nat.{add-suc, le-add_right, lt-suc_self, lt_trans, suc-add}
use Rattle.std.proofs.lemmas.List.Elements.{All-cons, All-filter, All-nil}
use Rattle.std.proofs.lemmas.List.Kept.{IsStrictlySortedBy-filter}
use Rattle.std.specs.Prelude.{All, filter, Bool}
use Rattle.std.specs.Cmp.{nat_cmp_is}
use Rattle.std.specs.List.{AllByRecursion}
use Rattle.std.specs.List.Sorted.{IsStrictlySortedBy}
use Rattle.std.specs.declared.cmp.Ordering.TheVariants.{Less}
use Rattle.gx_ids.specs.declared.ids.Gxid.{Gxid}
use Rattle.gx_dsnap.specs.Gxids.{IsRising, gxid_cmp}

-- so many gxids from a number on
abbrev pub gxids_from : ℕ → ℕ → List Gxid
gxids_from a zero = []
gxids_from a (suc n) = record { 0 = a } ∷ gxids_from (suc a) n

above : (a b n : ℕ) → a < b → AllByRecursion (λ y. gxid_cmp (record { 0 = a }) y ≡ Less) (gxids_from b n)
above a b zero below = tt
above a b (suc n) below = (sym (nat_cmp_is a b Less below), above a (suc b) n (lt_trans below (lt-suc_self b)))

gxids_from-rising : (a n : ℕ) → IsRising (gxids_from a n)
unfolding IsStrictlySortedBy
gxids_from-rising a zero = tt
gxids_from-rising a (suc n) = (above a (suc a) n (lt-suc_self a), gxids_from-rising (suc a) n)

gxids_from-under : (a n m : ℕ) → a + n ≡ m → All (λ g. g.0 < m) (gxids_from a n)
gxids_from-under a zero m e = All-nil (λ (g : Gxid). g.0 < m)
gxids_from-under a (suc n) m e =
    All-cons (λ g. g.0 < m) (record { 0 = a }) (gxids_from (suc a) n) (subst (λ x. a < x) (next a n m e) (le-add_right (suc a) n)) (gxids_from-under (suc a) n m (next a n m e))
  where
    next : (a n m : ℕ) → a + suc n ≡ m → suc a + n ≡ m
    next a n m e = suc-add a n ∙ sym (add-suc a n) ∙ e

-- those of them that pass a test rise, and are below the next
pub filter-rising : (p : Gxid → Bool) (a n : ℕ) → IsRising (filter p (gxids_from a n))
filter-rising p a n = IsStrictlySortedBy-filter gxid_cmp p (gxids_from a n) (gxids_from-rising a n)

pub filter-under : (p : Gxid → Bool) (a n m : ℕ) → a + n ≡ m → All (λ g. g.0 < m) (filter p (gxids_from a n))
filter-under p a n m e = All-filter p (λ g. g.0 < m) (gxids_from a n) (gxids_from-under a n m e)
