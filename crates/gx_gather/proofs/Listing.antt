-- The groups of a map as a list, and that list in the order of the answer.
use Rattle.std.proofs.Common.{◌≡◌, ◌∙◌, Bool, true, false, cond, List, [], ◌∷◌, filter, map, refl, ap, sym, subst}
use Rattle.std.specs.BTreeMap.{is_at}
use Rattle.std.specs.Cmp.{IsTotalOrder, on_total}
use Rattle.std.specs.List.{AllByRecursion}
use Rattle.std.specs.List.Sorted.{IsStrictlySortedBy}
use Rattle.std.specs.Map.{keys_of as keys_in, lookup}
use Rattle.std.specs.Ordering.{is_eq, is_gt}
use Rattle.std.specs.Prelude.{Option, None, Some}
use Rattle.std.specs.declared.cmp.Ordering.{Ordering}
use Rattle.std.specs.declared.cmp.Ordering.TheVariants.{Less, Equal}
use Rattle.gx_tree.specs.declared.cell.Cell.{Cell}
use Rattle.gx_tree.specs.declared.part.Group.{Group}
use Rattle.gx_tree.specs.declared.query.Query.{Query}
use Rattle.gx_tree.specs.declared.row.KeyedRow.{KeyedRow}
use Rattle.gx_tree.specs.declared.value.Value.{Value}
use Rattle.gx_meaning.specs.Answer.{group_of}
use Rattle.gx_meaning.specs.Groups.{is_same_key, keys_of}
use Rattle.gx_gather.specs.Laws.{rising-total}
use Rattle.gx_meaning.specs.Order.{group_order, in_order, rising}
use Rattle.gx_meaning.specs.Tallies.{entry_group, has_group, total_at}
use Rattle.gx_meaning.specs.declared.sort_key.SortKey.{SortKey}
use Rattle.gx_gather.proofs.InOrder.{Equal-from, Rises, filter-in_order, rises_in_order, rises_same}
use Rattle.gx_gather.proofs.Keys.{filter-keys_of, if_there}
use Rattle.gx_gather.proofs.Orders.{group-tie, same-exact}
use Rattle.gx_gather.proofs.Totals.{filter-map}

-- ---- lists in order by the keys of their items
module _ {K X : Type 0} {R : K → K → Ordering} (o : IsTotalOrder R) (key : X → K) where
  all_map : (f : K → X) → ((k : K) → key (f k) ≡ k) → (x : K) (ks : List K) → AllByRecursion (λ y. is_gt (R x y) ≡ false) ks → AllByRecursion (λ y. is_gt (R x (key y)) ≡ false) (map f ks)
  all_map f back x [] all = tt
  all_map f back x (k ∷ ks) all = (ap (λ y. is_gt (R x y)) (back k) ∙ all.0, all_map f back x ks all.1)

  pub rises_map : (f : K → X) → ((k : K) → key (f k) ≡ k) → (ks : List K) → Rises o ks → Rises (on_total key o) (map f ks)
  rises_map f back [] up = tt
  rises_map f back (k ∷ ks) up = (subst (λ z. AllByRecursion (λ y. is_gt (R z (key y)) ≡ false) (map f ks)) (sym (back k)) (all_map f back k ks up.0), rises_map f back ks up.1)

  all_strict : (x : K) (xs : List X) → AllByRecursion (λ y. R x y ≡ Less) (map key xs) → AllByRecursion (λ y. is_gt (R x (key y)) ≡ false) xs
  all_strict x [] all = tt
  all_strict x (y ∷ ys) all = (ap is_gt all.0, all_strict x ys all.1)

  pub rises_from_strict : (xs : List X) → IsStrictlySortedBy R (map key xs) → Rises (on_total key o) xs
  unfolding IsStrictlySortedBy
  rises_from_strict [] sorted = tt
  rises_from_strict (x ∷ xs) sorted = (all_strict (key x) xs sorted.0, rises_from_strict xs sorted.1)

-- ---- the entries of a map
abbrev entry : Option (List Cell) → List Value → List Group
entry None q = []
entry (Some cells) q = record { key = q; cells = cells } ∷ []

no-entry : (q k : List Value) (es : List (List Value × List Cell)) → rising q k ≡ Equal → AllByRecursion (λ y. rising k y ≡ Less) (keys_in es) → filter (λ g. is_same_key q g.key) (map entry_group es) ≡ []
no-entry q k [] e all = refl
no-entry q k (x ∷ es) e all = ap (λ t. cond (is_eq t) (entry_group x ∷ filter (λ g. is_same_key q g.key) (map entry_group es)) (filter (λ g. is_same_key q g.key) (map entry_group es))) (rising-total.congr q k x.0 e ∙ all.0) ∙ no-entry q k es e all.1

filter-entries-step : (q : List Value) (x : List Value × List Cell) (es : List (List Value × List Cell)) (b : Bool) → is_same_key q x.0 ≡ b → AllByRecursion (λ y. rising x.0 y ≡ Less) (keys_in es) → filter (λ g. is_same_key q g.key) (map entry_group es) ≡ entry (lookup (is_at (rising q)) es) q → cond b (entry_group x ∷ filter (λ g. is_same_key q g.key) (map entry_group es)) (filter (λ g. is_same_key q g.key) (map entry_group es)) ≡ entry (cond b (Some x.1) (lookup (is_at (rising q)) es)) q
filter-entries-step q x es true same all more =
    ap (λ l. entry_group x ∷ l) (no-entry q x.0 es (Equal-from (rising q x.0) same) all) ∙ ap (λ k. record { key = k; cells = x.1 } ∷ []) (sym (same-exact q x.0 same))
filter-entries-step q x es false same all more = more

filter-entries : (q : List Value) (es : List (List Value × List Cell)) → IsStrictlySortedBy rising (keys_in es) → filter (λ g. is_same_key q g.key) (map entry_group es) ≡ entry (lookup (is_at (rising q)) es) q
unfolding IsStrictlySortedBy
filter-entries q [] sorted = refl
filter-entries q (x ∷ es) sorted = filter-entries-step q x es (is_same_key q x.0) refl sorted.0 (filter-entries q es sorted.1)

keys-entries : (es : List (List Value × List Cell)) → map (λ g. g.key) (map entry_group es) ≡ keys_in es
keys-entries [] = refl
keys-entries (x ∷ es) = ap (λ l. x.0 ∷ l) (keys-entries es)

module _ (query : Query) (rows : List KeyedRow) where
  total-entry : (q : List Value) (b : Bool) → entry (cond b (Some (group_of query rows q).cells) None) q ≡ map (group_of query rows) (if_there b q)
  total-entry q true = refl
  total-entry q false = refl

  -- the groups that have a key, among those whose keys stand in an order
  at-key : (q : List Value) (ks : List (List Value)) → filter (is_same_key q) ks ≡ if_there (has_group query.group rows q) q → filter (λ g. is_same_key q g.key) (map (group_of query rows) ks) ≡ map (group_of query rows) (if_there (has_group query.group rows q) q)
  at-key q ks there = filter-map (λ g. is_same_key q g.key) (group_of query rows) ks ∙ ap (map (group_of query rows)) there

  -- a map that has at each key the aggregates of the rows lists the groups, rising
  pub listed_is : (es : List (List Value × List Cell)) → IsStrictlySortedBy rising (keys_in es) → ((q : List Value) → lookup (is_at (rising q)) es ≡ total_at query rows q) → map entry_group es ≡ map (group_of query rows) (in_order rising (keys_of query.group rows))
  listed_is es sorted totals =
      let ks = in_order rising (keys_of query.group rows) in
      rises_same (on_total (λ (g : Group). g.key) rising-total) (map entry_group es) (map (group_of query rows) ks)
      (rises_from_strict rising-total (λ (g : Group). g.key) (map entry_group es) (subst (IsStrictlySortedBy rising) (sym (keys-entries es)) sorted))
      (rises_map rising-total (λ (g : Group). g.key) (group_of query rows) (λ k. refl) ks (rises_in_order rising-total (keys_of query.group rows)))
      (λ g. filter-entries g.key es sorted ∙ ap (λ o. entry o g.key) (totals g.key) ∙ total-entry g.key (has_group query.group rows g.key)
      ∙ sym (at-key g.key ks (filter-in_order rising-total g.key (keys_of query.group rows) ∙ filter-keys_of query.group rows g.key)))

-- a test for a tie is a test for the same key
pub by-key : {X : Type 0} (keys : List SortKey) (key : X → List Value) (q : List Value) (xs : List X) → filter (λ x. is_eq (group_order keys q (key x))) xs ≡ filter (λ x. is_same_key q (key x)) xs
by-key keys key q xs = λ i. filter (λ x. group-tie keys q (key x) i) xs
