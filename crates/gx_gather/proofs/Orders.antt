-- Laws of the orders of values, keys, rows and groups.
use Rattle.std.proofs.Common.{◌≡◌, ◌∙◌, Bool, true, false, List, [], ◌∷◌, refl, ap, sym, subst}
use Rattle.std.proofs.lemmas.Cmp.{tied_itself, upto}
use Rattle.std.specs.Cmp.{IsTotalOrder, back_total, nat_cmp_total, on_total, then_total}
use Rattle.std.specs.Option.{option_cmp}
use Rattle.std.specs.Ordering.{is_eq, is_gt, ordering_reverse, ordering_then}
use Rattle.std.specs.Prelude.{Option, None, Some, slice_get}
use Rattle.std.specs.declared.cmp.Ordering.{Ordering}
use Rattle.std.specs.declared.cmp.Ordering.TheVariants.{Less, Equal, Greater}
use Rattle.gx_ids.specs.declared.rid.Rid.{Rid}
use Rattle.gx_tree.proofs.Values.{same_value}
use Rattle.gx_tree.specs.Value.{value_order}
use Rattle.gx_tree.specs.declared.row.KeyedRow.{KeyedRow}
use Rattle.gx_tree.specs.declared.value.Value.{Value}
use Rattle.gx_gather.specs.Laws.{rising-total, value_order-total}
use Rattle.gx_meaning.specs.Order.{by_place, by_places, directed, group_order, rid_order, rising, row_order}
use Rattle.gx_meaning.specs.declared.sort_key.SortKey.{SortKey}
use Rattle.gx_gather.proofs.InOrder.{Equal-from, tied-from}

-- ---- what a test for Greater says
gt-less : (o : Ordering) → is_gt o ≡ true → ordering_reverse o ≡ Less
gt-less Less e = cc
gt-less Equal e = cc
gt-less Greater e = refl

less-gt : (o : Ordering) → ordering_reverse o ≡ Less → is_gt o ≡ true
less-gt Less e = cc
less-gt Equal e = cc
less-gt Greater e = refl

module _ {X : Type 0} {R : X → X → Ordering} (o : IsTotalOrder R) where
  above-below : (a b : X) → is_gt (R a b) ≡ true → R b a ≡ Less
  above-below a b e = o.antisymm b a ∙ gt-less (R a b) e

  below-above : (a b : X) → R b a ≡ Less → is_gt (R a b) ≡ true
  below-above a b e = less-gt (R a b) (sym (o.antisymm b a) ∙ e)

  above-trans : (a b c : X) → is_gt (R a b) ≡ true → is_gt (R b c) ≡ true → is_gt (R a c) ≡ true
  above-trans a b c e f = below-above a c (o.trans c b a (above-below b c f) (above-below a b e))

  above-once : (a b : X) → is_gt (R a b) ≡ true → is_gt (R b a) ≡ true → ⊥
  above-once a b e f = let g : is_gt Less ≡ true = ap is_gt (sym (above-below a b e)) ∙ f in cc

  tie-from : (a b : X) → is_gt (R a b) ≡ false → is_gt (R b a) ≡ false → R a b ≡ Equal
  tie-from a b e f = tied-from (R a b) e (ap is_gt (sym (o.antisymm b a)) ∙ f)

pub gt-trans : (a b c : Value) → is_gt (value_order a b) ≡ true → is_gt (value_order b c) ≡ true → is_gt (value_order a c) ≡ true
gt-trans a b c e f = above-trans value_order-total a b c e f

pub not_gt-trans : (a b c : Value) → is_gt (value_order a b) ≡ false → is_gt (value_order b c) ≡ false → is_gt (value_order a c) ≡ false
not_gt-trans a b c e f = upto value_order-total a b c e f

pub gt-once : (a b : Value) → is_gt (value_order a b) ≡ true → is_gt (value_order b a) ≡ true → ⊥
gt-once a b e f = above-once value_order-total a b e f

pub tie-once : (a b : Value) → is_gt (value_order a b) ≡ false → is_gt (value_order b a) ≡ false → a ≡ b
tie-once a b e f = same_value a b (tie-from value_order-total a b e f)

-- ---- keys
first-Equal : (o p : Ordering) → ordering_then o p ≡ Equal → (o ≡ Equal) × (p ≡ Equal)
first-Equal Less p e = cc
first-Equal Equal p e = (refl, e)
first-Equal Greater p e = cc

pub rising-exact : (a b : List Value) → rising a b ≡ Equal → a ≡ b
rising-exact [] [] e = refl
rising-exact [] (b ∷ bs) e = cc
rising-exact (a ∷ as') [] e = cc
rising-exact (a ∷ as') (b ∷ bs) e =
    let both = first-Equal (value_order a b) (rising as' bs) e in
    let head : a ≡ b = same_value a b both.0 in
    let tail : as' ≡ bs = rising-exact as' bs both.1 in
    cc

pub same-exact : (a b : List Value) → is_eq (rising a b) ≡ true → a ≡ b
same-exact a b e = rising-exact a b (Equal-from (rising a b) e)

-- ---- rows and groups
module _ {X : Type 0} {R : X → X → Ordering} (o : IsTotalOrder R) where
  option-antisymm : (x y : Option X) → option_cmp R x y ≡ ordering_reverse (option_cmp R y x)
  option-antisymm None None = refl
  option-antisymm None (Some y) = refl
  option-antisymm (Some x) None = refl
  option-antisymm (Some x) (Some y) = o.antisymm x y

  option-trans : (x y z : Option X) → option_cmp R x y ≡ Less → option_cmp R y z ≡ Less → option_cmp R x z ≡ Less
  option-trans None None z e f = cc
  option-trans None (Some y) None e f = cc
  option-trans None (Some y) (Some z) e f = refl
  option-trans (Some x) None z e f = cc
  option-trans (Some x) (Some y) None e f = cc
  option-trans (Some x) (Some y) (Some z) e f = o.trans x y z e f

  option-congr : (x y z : Option X) → option_cmp R x y ≡ Equal → option_cmp R x z ≡ option_cmp R y z
  option-congr None None z e = refl
  option-congr None (Some y) z e = cc
  option-congr (Some x) None z e = cc
  option-congr (Some x) (Some y) None e = refl
  option-congr (Some x) (Some y) (Some z) e = o.congr x y z e

  option-total : IsTotalOrder (option_cmp R)
  option-total = record { antisymm = option-antisymm; trans = option-trans; congr = option-congr }

-- the other way round
turned-total : {X : Type 0} {R : X → X → Ordering} → IsTotalOrder R → IsTotalOrder (λ x y. ordering_reverse (R x y))
turned-total {X} {R} o = subst IsTotalOrder (λ i x y. o.antisymm y x i) (back_total o)

directed-total : {X : Type 0} {R : X → X → Ordering} (desc : Bool) → IsTotalOrder R → IsTotalOrder (λ x y. directed desc (R x y))
directed-total true o = turned-total o
directed-total false o = o

by_place-total : (key : SortKey) → IsTotalOrder (by_place key)
by_place-total key = directed-total key.desc (on_total (λ (values : List Value). slice_get values key.place) (option-total value_order-total))

none-total : {X : Type 0} → IsTotalOrder (λ (x y : X). Equal)
none-total = record { antisymm = λ x y. refl; trans = λ x y z e f. e; congr = λ x y z e. refl }

pub by_places-total : (keys : List SortKey) → IsTotalOrder (by_places keys)
by_places-total [] = none-total
by_places-total (key ∷ keys) = then_total (by_place-total key) (by_places-total keys)

pub rid_order-total : IsTotalOrder rid_order
rid_order-total =
    then_total (on_total (λ (r : Rid). r.gxid.0) nat_cmp_total) (then_total (on_total (λ (r : Rid). r.cid.0) nat_cmp_total) (on_total (λ (r : Rid). r.ordinal) nat_cmp_total))

pub row_order-total : (keys : List SortKey) → IsTotalOrder (row_order keys)
row_order-total keys = then_total (on_total (λ (r : KeyedRow). r.row) (by_places-total keys)) (on_total (λ (r : KeyedRow). r.rid) rid_order-total)

pub group_order-total : (keys : List SortKey) → IsTotalOrder (group_order keys)
group_order-total keys = then_total (by_places-total keys) rising-total

-- rows that tie have one identity
pub row-tie : (keys : List SortKey) (a b : KeyedRow) → is_eq (row_order keys a b) ≡ true → is_eq (rid_order a.rid b.rid) ≡ true
row-tie keys a b e = ap is_eq (first-Equal (by_places keys a.row b.row) (rid_order a.rid b.rid) (Equal-from (row_order keys a b) e)).1

tie-cases : (o p : Ordering) → (p ≡ Equal → o ≡ Equal) → is_eq (ordering_then o p) ≡ is_eq p
tie-cases Less Less same = refl
tie-cases Less Equal same = let e : Less ≡ Equal = same refl in cc
tie-cases Less Greater same = refl
tie-cases Equal p same = refl
tie-cases Greater Less same = refl
tie-cases Greater Equal same = let e : Greater ≡ Equal = same refl in cc
tie-cases Greater Greater same = refl

-- keys tie in the order of groups exactly where they are the same
pub group-tie : (keys : List SortKey) (a b : List Value) → is_eq (group_order keys a b) ≡ is_eq (rising a b)
group-tie keys a b = tie-cases (by_places keys a b) (rising a b) (λ e. ap (by_places keys a) (sym (rising-exact a b e)) ∙ tied_itself (by_places-total keys) a)
