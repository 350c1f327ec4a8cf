-- The laws of the order of values, which the type of keys cites.
use Rattle.std.proofs.Common.{◌≡◌, ℕ, refl, subst}
use Rattle.std.specs.Prelude.{ℤ, pos, List, [], Some}
use Rattle.std.specs.Cmp.{IsTotalOrder, IsEquivalence, IsPartialOrder, IsPartialEquivalence, eq_by_cmp_equiv, partial_equiv_from_equiv, int_cmp_total, nat_cmp_total, on_total, po, then_total}
use Rattle.std.specs.Cmp.Lexicographic.{lists_total, nat_list_cmp_total, slice_cmp}
use Rattle.std.specs.Ordering.{eq_by_cmp, int_cmp, nat_cmp, ordering_then}
use Rattle.std.specs.declared.cmp.Ordering.{Ordering}
use Rattle.std.specs.declared.cmp.Ordering.TheVariants.{Less, Equal, Greater}
use Rattle.gx_tree.specs.Value.{value_order}
use Rattle.gx_tree.specs.declared.value.Value.{Value}
use Rattle.gx_tree.specs.declared.value.Value.TheVariants.{Int, Text}
use Rattle.gx_meaning.specs.Order.{rising}

-- whether it is a text, its number and its text, by which values are ordered in turn
abbrev pub rank : Value → ℕ
rank (Int _) = 0
rank (Text _) = 1

abbrev pub number : Value → ℤ
number (Int n) = n
number (Text _) = pos 0

abbrev pub text : Value → List ℕ
text (Int _) = []
text (Text t) = t

abbrev pub by_parts : Value → Value → Ordering
by_parts a b = ordering_then (nat_cmp (rank a) (rank b)) (ordering_then (int_cmp (number a) (number b)) (slice_cmp nat_cmp (text a) (text b)))

pub then-Equal : (o : Ordering) → ordering_then o Equal ≡ o
then-Equal Less = refl
then-Equal Equal = refl
then-Equal Greater = refl

pub by_parts-value_order : (a b : Value) → by_parts a b ≡ value_order a b
by_parts-value_order (Int m) (Int n) = then-Equal (int_cmp m n)
by_parts-value_order (Int m) (Text t) = refl
by_parts-value_order (Text s) (Int n) = refl
by_parts-value_order (Text s) (Text t) = refl

pub value_order-total : IsTotalOrder value_order
value_order-total =
    subst IsTotalOrder (λ i a b. by_parts-value_order a b i) (then_total (on_total rank nat_cmp_total) (then_total (on_total number int_cmp_total) (on_total text nat_list_cmp_total)))

pub rising-total : IsTotalOrder rising
rising-total = lists_total value_order-total

pub rising-equiv : IsEquivalence (eq_by_cmp rising)
rising-equiv = eq_by_cmp_equiv rising-total

pub rising-per : IsPartialEquivalence (eq_by_cmp rising)
rising-per = partial_equiv_from_equiv rising-equiv

pub rising-po : IsPartialOrder (eq_by_cmp rising) (λ a b. Some (rising a b))
rising-po = po rising-total (λ a b. refl)
