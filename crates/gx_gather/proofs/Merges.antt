-- What the calls of a merge give together.
use Rattle.std.proofs.Common.{ℕ, zero, suc, ◌≡◌, ◌∙◌, List, [], ◌∷◌, filter, map, take, refl, ap, sym}
use Rattle.std.specs.BTreeMap.{is_at}
use Rattle.std.specs.Cmp.{on_total}
use Rattle.std.specs.List.Sorted.{IsStrictlySortedBy}
use Rattle.std.specs.Map.{keys_of, lookup}
use Rattle.std.specs.Prelude.{Option, None, Some}
use Rattle.std.specs.declared.cmp.Ordering.{Ordering}
use Rattle.gx_tree.specs.declared.part.Group.{Group}
use Rattle.gx_tree.specs.declared.query.Query.{Query}
use Rattle.gx_tree.specs.declared.row.KeyedRow.{KeyedRow}
use Rattle.gx_tree.specs.declared.value.Value.{Value}
use Rattle.gx_meaning.specs.Answer.{group_keys, limited, plain_answer, row_cell, row_keys}
use Rattle.gx_meaning.specs.Order.{group_order, in_order, rising, row_order}
use Rattle.gx_meaning.specs.Tallies.{entry_group, out_row, tally, total_at}
use Rattle.gx_meaning.specs.declared.sort_key.SortKey.{SortKey}
use Rattle.gx_gather.proofs.Listing.{by-key}
use Rattle.gx_gather.proofs.Orders.{group_order-total}
use Rattle.gx_meaning.specs.Merged.{keys_in, merged_group, merged_groups}
use Rattle.gx_gather.specs.Answered.{is_answered, ordered_groups}
use Rattle.gx_gather.proofs.Listed.{Entry, listed-at, with_cells}
use Rattle.gx_gather.proofs.Stable.{in_order-same, map-in_order}

take-map : {X Y : Type 0} (f : X → Y) (n : ℕ) (xs : List X) → map f (take n xs) ≡ take n (map f xs)
take-map f zero xs = refl
take-map f (suc n) [] = refl
take-map f (suc n) (x ∷ xs) = ap (λ l. f x ∷ l) (take-map f n xs)

pub limited-map : {X Y : Type 0} (f : X → Y) (limit : Option ℕ) (xs : List X) → map f (limited limit xs) ≡ limited limit (map f xs)
limited-map f None xs = refl
limited-map f (Some n) xs = take-map f n xs

map-map : {X Y Z : Type 0} (g : Y → Z) (f : X → Y) (xs : List X) → map (λ x. g (f x)) xs ≡ map g (map f xs)
map-map g f [] = refl
map-map g f (x ∷ xs) = ap (λ l. g (f x) ∷ l) (map-map g f xs)

-- rows in order, cut at the limit
pub rows_answered : {X : Type 0} (f : X → KeyedRow) (query : Query) (found : List KeyedRow) (first : List X) → map f first ≡ limited query.limit (in_order (row_order (row_keys query.order)) found)
    → map (λ x. map (row_cell (f x)) query.items) first ≡ limited query.limit (plain_answer query found)
rows_answered f query found first is =
    map-map (λ row. map (row_cell row) query.items) f first
    ∙ ap (map (λ row. map (row_cell row) query.items)) is
    ∙ limited-map (λ row. map (row_cell row) query.items) query.limit (in_order (row_order (row_keys query.order)) found)

-- the first of a list in the order of what f gives of its items
pub first_ordered : {X Y : Type 0} (f : X → Y) (R : Y → Y → Ordering) (limit : Option ℕ) (n : ℕ) (xs first : List X) → limit ≡ Some n → first ≡ take n (in_order (λ a b. R (f a) (f b)) xs)
    → map f first ≡ limited limit (in_order R (map f xs))
first_ordered f R limit n xs first few is =
    ap (map f) is ∙ take-map f n (in_order (λ a b. R (f a) (f b)) xs) ∙ ap (take n) (map-in_order f R xs) ∙ ap (λ l. limited l (in_order R (map f xs))) (sym few)

-- groups in order, cut at the limit
pub groups_answered : (query : Query) (gs : List Group) (ordered : List Entry) → map entry_group ordered ≡ ordered_groups query gs
    → map (λ e. out_row query (entry_group e)) (limited query.limit ordered) ≡ limited query.limit (merged_groups query gs)
groups_answered query gs ordered is =
    limited-map (λ e. out_row query (entry_group e)) query.limit ordered
    ∙ ap (limited query.limit) (map-map (out_row query) entry_group ordered ∙ ap (map (out_row query)) is
    ∙ sym (map-map (out_row query) (merged_group query gs) (in_order (group_order (group_keys query.group query.order)) (keys_in query.group gs))))

module _ (query : Query) (gs : List Group) (es : List Entry) (rises : IsStrictlySortedBy rising (keys_of es)) (totals : (q : List Value) → lookup (is_at (rising q)) es ≡ tally query.items q (total_at query [] q) gs) where
  entries-in_order : (keys : List SortKey) → in_order (λ a b. group_order keys a.0 b.0) (filter (λ e. is_answered query.group e.0) es) ≡ map (with_cells query gs) (in_order (group_order keys) (keys_in query.group gs))
  entries-in_order keys =
      let listed = filter (λ (e : Entry). is_answered query.group e.0) es in
      let named = map (with_cells query gs) (keys_in query.group gs) in
      in_order-same (on_total (λ (e : Entry). e.0) (group_order-total keys)) listed named
      (λ e. by-key keys (λ (h : Entry). h.0) e.0 listed ∙ listed-at query gs es rises totals e.0 ∙ sym (by-key keys (λ (h : Entry). h.0) e.0 named))
      ∙ sym (map-in_order (with_cells query gs) (λ a b. group_order keys a.0 b.0) (keys_in query.group gs))

  pub entries_ordered : (entries sorted : List Entry) (keys : List SortKey)
      → entries ≡ filter (λ e. is_answered query.group e.0) es → keys ≡ group_keys query.group query.order → sorted ≡ in_order (λ a b. group_order keys a.0 b.0) entries
      → map entry_group sorted ≡ ordered_groups query gs
  entries_ordered entries sorted keys listed keyed ordered =
      ap (map entry_group)
      (ordered ∙ ap (in_order (λ a b. group_order keys a.0 b.0)) listed ∙ entries-in_order keys ∙ ap (λ k. map (with_cells query gs) (in_order (group_order k) (keys_in query.group gs))) keyed)
      ∙ sym (map-map entry_group (with_cells query gs) (in_order (group_order (group_keys query.group query.order)) (keys_in query.group gs)))
