-- A list that was sorted and rid of repeats.
use Rattle.std.proofs.Common.{◌≡◌, List, eqb, arith, sym, subst}
use Rattle.std.proofs.lemmas.Bool.Decides.{nat_tests}
use Rattle.std.proofs.lemmas.Cmp.{nat_cmp_total, on_total, nat_eq_equiv, on_equiv}
use Rattle.std.proofs.lemmas.List.Kept.{IsStrictlySortedBy-dedup, Contains-dedup, Contains-from_dedup}
use Rattle.std.proofs.lemmas.List.Sorted.{Contains-permutation, IsPermutation-sym}
use Rattle.std.specs.Cmp.{IsTotalOrder, IsEquivalence}
use Rattle.std.specs.Prelude.{Bool, true}
use Rattle.std.specs.List.{dedup}
use Rattle.std.specs.List.Sorted.{IsPermutation, IsSorted}
use Rattle.std.specs.Ordering.{eq_by_cmp}
use Rattle.gx_ids.specs.declared.ids.Gxid.{Gxid}
use Rattle.gx_locks.specs.Claims.{gxid_cmp}
use Rattle.gx_locks.specs.Locks.{AreRisen}

abbrev pub same_gxid : Gxid → Gxid → Bool
same_gxid g h = eqb g.0 h.0

gxid_cmp-total : IsTotalOrder gxid_cmp
gxid_cmp-total = on_total (λ (g : Gxid). g.0) nat_cmp_total

same_gxid-equiv : IsEquivalence same_gxid
same_gxid-equiv = on_equiv (λ (g : Gxid). g.0) nat_eq_equiv

ties : (g h : Gxid) → same_gxid g h ≡ eq_by_cmp gxid_cmp g h
ties g h = grind (arith, nat_tests)

exact : (g h : Gxid) → same_gxid g h ≡ true → g ≡ h
exact g h same = grind (arith, nat_tests)

-- sorted, and each once
pub AreRisen-dedup : (all sorted risen : List Gxid) → IsPermutation all sorted → IsSorted gxid_cmp sorted → risen ≡ dedup same_gxid sorted → AreRisen risen all
AreRisen-dedup all sorted risen moved in_order is =
    subst
    (λ (gs : List Gxid). AreRisen gs all)
    (sym is)
    (record {
      rising = IsStrictlySortedBy-dedup gxid_cmp-total ties sorted in_order;
      all_of_them = λ g there. Contains-dedup same_gxid-equiv exact sorted g (Contains-permutation all sorted g moved there);
      no_others = λ g there. Contains-permutation sorted all g (IsPermutation-sym all sorted moved) (Contains-from_dedup same_gxid sorted g there);
    })
