-- The order of identities.
use Rattle.std.proofs.Common.{◌≡◌, true, false, List, [], ◌∷◌, refl, arith}
use Rattle.std.proofs.lemmas.Bool.Decides.{nat_tests}
use Rattle.std.specs.List.{AllByRecursion}
use Rattle.std.specs.Ordering.{is_lt}
use Rattle.std.specs.declared.cmp.Ordering.TheVariants.{Less, Equal, Greater}
use Rattle.std.specs.declared.cmp.Ordering.{Ordering}
use Rattle.gx_ids.specs.declared.rid.Rid.{Rid}
use Rattle.gx_meaning.specs.Order.{rid_order}
use Rattle.gx_store.specs.Marks.{is_same_rid}

pub less_trans : (a b c : Rid) → rid_order a b ≡ Less → rid_order b c ≡ Less → rid_order a c ≡ Less
less_trans a b c e f = grind (arith, nat_tests)

pub not_less : (a b : Rid) → is_same_rid a b ≡ false → is_lt (rid_order b a) ≡ false → rid_order a b ≡ Less
not_less a b e f = grind (arith, nat_tests)

pub less_is : (o : Ordering) → is_lt o ≡ true → o ≡ Less
less_is Less e = refl
less_is Equal e = absurd (cc)
less_is Greater e = absurd (cc)

pub less_apart : (a b : Rid) → rid_order a b ≡ Less → is_same_rid b a ≡ false
less_apart a b e = grind (arith, nat_tests)

pub less_apart_back : (a b : Rid) → rid_order a b ≡ Less → is_same_rid a b ≡ false
less_apart_back a b e = grind (arith, nat_tests)

pub all_above : (a b : Rid) (rs : List Rid) → rid_order a b ≡ Less → AllByRecursion (λ r. rid_order b r ≡ Less) rs → AllByRecursion (λ r. rid_order a r ≡ Less) rs
all_above a b [] e all = tt
all_above a b (r ∷ rs) e all = (less_trans a b r e all.0, all_above a b rs e all.1)
