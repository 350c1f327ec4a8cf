-- The answer over the whole from that over the parts of a division.
use Rattle.std.proofs.Common.{◌||◌, ℕ, ◌≤◌, ◌≡◌, ◌∙◌, Bool, true, false, cond, List, [], ◌∷◌, ◌++◌, filter, map, length, refl, ap, sym, arith}
use Rattle.std.proofs.lemmas.List.Sorted.{list_any-IsPermutation}
use Rattle.std.specs.List.{flat_map, zip}
use Rattle.std.specs.List.Sorted.{IsPermutation, IsSortedBy}
use Rattle.std.specs.Ordering.{is_eq, is_lt}
use Rattle.gx_tree.specs.declared.part.Part.{Part}
use Rattle.gx_tree.specs.declared.part.Part.TheVariants.{Rows}
use Rattle.gx_tree.specs.declared.query.Item.{Item}
use Rattle.gx_tree.specs.declared.query.Item.TheVariants.{Col, Count, Sum, Min, Max}
use Rattle.gx_tree.specs.declared.query.Query.{Query}
use Rattle.gx_tree.specs.declared.row.KeyedRow.{KeyedRow}
use Rattle.gx_tree.specs.declared.value.Value.{Value}
use Rattle.gx_meaning.specs.Aggregates.{aggregate}
use Rattle.gx_meaning.specs.Answer.{AreRising, group_of, part_of, rows_in, together}
use Rattle.gx_meaning.specs.Groups.{group_cell, is_same_key, key_of, keys_of, members}
use Rattle.gx_meaning.specs.Order.{group_order, in_order, rid_order, row_order}
use Rattle.gx_meaning.specs.Tallies.{has_group, is_only, out_cell, out_row}
use Rattle.gx_meaning.specs.declared.sort_key.SortKey.{SortKey}
use Rattle.gx_gather.proofs.Dividing.{aggregate-same, at-permutation}
use Rattle.gx_gather.proofs.InOrder.{filter-in_order, in_order_is, rises_in_order, rises_same}
use Rattle.gx_gather.proofs.Keys.{filter-keys_of, if_there}
use Rattle.gx_gather.proofs.Listing.{by-key}
use Rattle.gx_gather.proofs.Orders.{group_order-total, rid_order-total, row-tie, row_order-total}
use Rattle.gx_gather.proofs.Permuted.{filter-permutation, once_at}

fewer-step : {X : Type 0} (x : X) (l m : List X) (a b : Bool) → (a ≡ true → b ≡ true) → length l ≤ length m → length (cond a (x ∷ l) l) ≤ length (cond b (x ∷ m) m)
fewer-step x l m true true within less = omega (arith, less)
fewer-step x l m true false within less = let e : false ≡ true = within refl in cc
fewer-step x l m false true within less = omega (arith, less)
fewer-step x l m false false within less = less

-- a stricter test passes no more
fewer : {X : Type 0} (p r : X → Bool) → ((x : X) → p x ≡ true → r x ≡ true) → (xs : List X) → length (filter p xs) ≤ length (filter r xs)
fewer p r within [] = omega arith
fewer p r within (x ∷ xs) = fewer-step x (filter p xs) (filter r xs) (p x) (r x) (within x) (fewer p r within xs)

-- rows that are sorted are the whole in order
pub sorted_rows : (keys : List SortKey) (whole rows : List KeyedRow) → AreRising whole → IsPermutation whole rows → IsSortedBy (λ a b. is_lt (row_order keys a b)) rows → rows ≡ in_order (row_order keys) whole
sorted_rows keys whole rows rising perm sorted =
    in_order_is (row_order-total keys) whole rows sorted (λ q. filter-permutation (λ row. is_eq (row_order keys q row)) whole rows perm
    (le-trans (fewer (λ row. is_eq (row_order keys q row)) (λ row. is_eq (rid_order q.rid row.rid)) (row-tie keys q) whole) (once_at rid_order-total (λ (row : KeyedRow). row.rid) q.rid whole rising)))
  where
    le-trans : {a b c : ℕ} → a ≤ b → b ≤ c → a ≤ c
    le-trans p q = omega (arith, p, q)

rows_of-part : (query : Query) (rows : List KeyedRow) (b : Bool) (gs : Part) → b ≡ false → rows_in (cond b gs (Rows rows)) ≡ rows
rows_of-part query rows true gs e = cc
rows_of-part query rows false gs e = refl

-- the rows of the parts, where nothing groups
pub rows-parts : (query : Query) → query.grouped ≡ false → (dealt : List (List KeyedRow)) → flat_map rows_in (map (part_of query) dealt) ≡ together dealt
rows-parts query plain [] = refl
rows-parts query plain (rows ∷ dealt) = ap (λ l. l ++ flat_map rows_in (map (part_of query) dealt)) (rows_of-part query rows query.grouped _ plain) ∙ ap (λ l. rows ++ l) (rows-parts query plain dealt)

-- ---- groups
module _ (whole cs : List KeyedRow) (rising : AreRising whole) (perm : IsPermutation whole cs) where
  has-same : (group : List ℕ) (q : List Value) → has_group group cs q ≡ has_group group whole q
  has-same group q = ap (λ b. (is_only group q) || b) (sym (list_any-IsPermutation (λ row. is_same_key q (key_of group row)) whole cs perm))

  pub keys-same : (group : List ℕ) (keys : List SortKey) → in_order (group_order keys) (keys_of group cs) ≡ in_order (group_order keys) (keys_of group whole)
  keys-same group keys =
      let o = group_order-total keys in
      rises_same o (in_order (group_order keys) (keys_of group cs)) (in_order (group_order keys) (keys_of group whole)) (rises_in_order o (keys_of group cs)) (rises_in_order o (keys_of group whole))
      (λ q. filter-in_order o q (keys_of group cs) ∙ by-key keys (λ k. k) q (keys_of group cs) ∙ filter-keys_of group cs q ∙ ap (λ b. if_there b q) (has-same group q)
      ∙ sym (filter-in_order o q (keys_of group whole) ∙ by-key keys (λ k. k) q (keys_of group whole) ∙ filter-keys_of group whole q))

  members-same : (group : List ℕ) (key : List Value) (item : Item) → aggregate (members group cs key) item ≡ aggregate (members group whole key) item
  members-same group key item = aggregate-same item (λ row. is_same_key key (key_of group row)) whole cs (λ q. at-permutation whole cs q rising perm)

  cell-same : (group : List ℕ) (key : List Value) (item : Item) → out_cell group key item (aggregate (members group cs key) item) ≡ group_cell group whole key item
  cell-same group key (Col column) = refl
  cell-same group key Count = members-same group key Count
  cell-same group key (Sum column) = members-same group key (Sum column)
  cell-same group key (Min column) = members-same group key (Min column)
  cell-same group key (Max column) = members-same group key (Max column)

  row-same : (group : List ℕ) (key : List Value) (items : List Item) → map (λ p. out_cell group key p.0 p.1) (zip items (map (aggregate (members group cs key)) items)) ≡ map (group_cell group whole key) items
  row-same group key [] = refl
  row-same group key (item ∷ items) = ap (λ c. c ∷ map (λ p. out_cell group key p.0 p.1) (zip items (map (aggregate (members group cs key)) items))) (cell-same group key item) ∙ ap (λ l. group_cell group whole key item ∷ l) (row-same group key items)

  -- what the groups of the parts answer is what those of the whole do
  pub out-same : (query : Query) (ks : List (List Value)) → map (out_row query) (map (group_of query cs) ks) ≡ map (λ key. map (group_cell query.group whole key) query.items) ks
  out-same query [] = refl
  out-same query (k ∷ ks) = ap (λ r. r ∷ map (out_row query) (map (group_of query cs) ks)) (row-same query.group k query.items) ∙ ap (λ l. map (group_cell query.group whole k) query.items ∷ l) (out-same query ks)
