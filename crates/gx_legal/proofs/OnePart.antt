-- One part that has all rows gives what the query answers on them.
use Rattle.std.proofs.Common.{append-nil, ◌≡◌, ◌∙◌, ◌||◌, Bool, true, false, cond, All, List, [], ◌∷◌, ◌++◌, filter, map, refl, ap, sym}
use Rattle.std.proofs.lemmas.Bool.{or_right}
use Rattle.std.proofs.lemmas.Cmp.{tied_itself}
use Rattle.std.proofs.lemmas.List.Sorted.{list_any-IsPermutation}
use Rattle.std.specs.List.{flat_map, list_any, zip}
use Rattle.std.specs.Ordering.{is_eq}
use Rattle.std.specs.Prelude.{ℕ, Some, None, unwrap_or}
use Rattle.gx_tree.specs.declared.part.Group.{Group}
use Rattle.gx_tree.specs.declared.part.Part.TheVariants.{Rows, Groups}
use Rattle.gx_tree.specs.declared.query.Item.{Item}
use Rattle.gx_tree.specs.declared.query.Item.TheVariants.{Col, Count, Sum, Min, Max}
use Rattle.gx_tree.specs.declared.query.Query.{Query}
use Rattle.gx_tree.specs.declared.row.KeyedRow.{KeyedRow}
use Rattle.gx_tree.specs.declared.value.Value.{Value}
use Rattle.gx_meaning.specs.Aggregates.{aggregate}
use Rattle.gx_meaning.specs.Answer.{answer_of, group_keys, group_of, grouped_answer, groups_in, keeps, limited, part_of, plain_answer, rows_in}
use Rattle.gx_meaning.specs.Groups.{group_cell, is_same_key, keys_of, members}
use Rattle.gx_meaning.specs.Merged.{keys_in, merged_answer, merged_group, merged_groups}
use Rattle.gx_meaning.specs.Order.{group_order, in_order, rising}
use Rattle.gx_meaning.specs.Tallies.{has_group, out_cell, out_row, total_at}
use Rattle.gx_meaning.specs.declared.sort_key.SortKey.{SortKey}
use Rattle.gx_gather.specs.Laws.{rising-total}
use Rattle.gx_gather.proofs.InOrder.{filter-in_order, rises_in_order, rises_same}
use Rattle.gx_gather.proofs.Keys.{filter-keys_of, filter-once, if_there}
use Rattle.gx_gather.proofs.Listing.{by-key}
use Rattle.gx_gather.proofs.Ordered.{in_order-permutation}
use Rattle.gx_gather.proofs.Orders.{group_order-total}
use Rattle.gx_gather.proofs.Steps.{answer-grouped, answer-plain}
use Rattle.gx_gather.proofs.Totals.{tally-parts}
use Rattle.gx_gather.proofs.Whole.{rows-parts}

-- KEYS
abbrev is_there : List (List Value) → Bool
is_there [] = false
is_there (k ∷ ks) = true

-- a key passes where the list of those that pass isn't empty
any-filter : (p : List Value → Bool) (ks : List (List Value)) → list_any p ks ≡ is_there (filter p ks)
any-filter p [] = refl
any-filter p (k ∷ ks) = by_test (p k) (any-filter p ks)
  where
    by_test : (b : Bool) → list_any p ks ≡ is_there (filter p ks) → (b || list_any p ks) ≡ is_there (cond b (k ∷ filter p ks) (filter p ks))
    by_test true more = refl
    by_test false more = more

there-if : (b : Bool) (q : List Value) → is_there (if_there b q) ≡ b
there-if true q = refl
there-if false q = refl

keys-of-groups : (query : Query) (rows : List KeyedRow) (ks : List (List Value)) → map (λ g. g.key) (map (group_of query rows) ks) ≡ ks
keys-of-groups query rows [] = refl
keys-of-groups query rows (k ∷ ks) = ap (λ l. k ∷ l) (keys-of-groups query rows ks)

map-on : {Y : Type 0} (f h : List Value → Y) (ks : List (List Value)) → ((k : List Value) → list_any (is_same_key k) ks ≡ true → f k ≡ h k) → map f ks ≡ map h ks
map-on f h [] same = refl
map-on f h (k ∷ ks) same =
    ap (λ y. y ∷ map f ks) (same k (ap (λ t. is_eq t || list_any (is_same_key k) ks) (tied_itself rising-total k)))
    ∙ ap (λ l. h k ∷ l) (map-on f h ks (λ q e. same q (or_right (is_same_key q k) (list_any (is_same_key q) ks) e)))

-- GROUPS
out-cell : (group : List ℕ) (rows : List KeyedRow) (key : List Value) (item : Item) → out_cell group key item (aggregate (members group rows key) item) ≡ group_cell group rows key item
out-cell group rows key (Col column) = refl
out-cell group rows key Count = refl
out-cell group rows key (Sum column) = refl
out-cell group rows key (Min column) = refl
out-cell group rows key (Max column) = refl

out-cells : (group : List ℕ) (rows : List KeyedRow) (key : List Value) (items : List Item) → map (λ p. out_cell group key p.0 p.1) (zip items (map (aggregate (members group rows key)) items)) ≡ map (group_cell group rows key) items
out-cells group rows key [] = refl
out-cells group rows key (item ∷ items) =
    ap (λ c. c ∷ map (λ p. out_cell group key p.0 p.1) (zip items (map (aggregate (members group rows key)) items))) (out-cell group rows key item)
    ∙ ap (λ l. group_cell group rows key item ∷ l) (out-cells group rows key items)

module _ (query : Query) (rows : List KeyedRow) (grouped : query.grouped ≡ true) where
  abbrev ks : List (List Value)
  ks = keys_of query.group rows

  abbrev groups : List Group
  groups = flat_map groups_in (part_of query rows ∷ [])

  abbrev own : List Group
  own = map (group_of query rows) (in_order rising ks)

  names-are : map (λ g. g.key) groups ≡ in_order rising ks
  names-are = by_test query.grouped grouped
    where
      by_test : (b : Bool) → b ≡ true → map (λ g. g.key) (groups_in (cond b (Groups own) (Rows rows)) ++ []) ≡ in_order rising ks
      by_test true e = ap (map (λ g. g.key)) (append-nil own) ∙ keys-of-groups query rows (in_order rising ks)
      by_test false e = cc

  any-key : (q : List Value) → list_any (is_same_key q) ks ≡ has_group query.group rows q
  any-key q = any-filter (is_same_key q) ks ∙ ap is_there (filter-keys_of query.group rows q) ∙ there-if (has_group query.group rows q) q

  -- the parts have the groups' keys
  any-name : (q : List Value) → list_any (is_same_key q) (map (λ g. g.key) groups) ≡ has_group query.group rows q
  any-name q = ap (list_any (is_same_key q)) names-are ∙ sym (list_any-IsPermutation (is_same_key q) ks (in_order rising ks) (in_order-permutation rising-total ks)) ∙ any-key q

  keys-at : (group : List ℕ) (q : List Value) → group ≡ query.group → filter (is_same_key q) (keys_in group groups) ≡ filter (is_same_key q) (keys_of group rows)
  keys-at [] q e = refl
  keys-at (column ∷ columns) q e =
      filter-once q (map (λ g. g.key) groups) ∙ ap (λ b. if_there b q) (any-name q ∙ ap (λ g. has_group g rows q) (sym e)) ∙ sym (filter-keys_of (column ∷ columns) rows q)

  keys-same : (keys : List SortKey) → in_order (group_order keys) (keys_in query.group groups) ≡ in_order (group_order keys) ks
  keys-same keys =
      let o = group_order-total keys in
      rises_same o (in_order (group_order keys) (keys_in query.group groups)) (in_order (group_order keys) ks) (rises_in_order o (keys_in query.group groups)) (rises_in_order o ks)
      (λ q. filter-in_order o q (keys_in query.group groups) ∙ by-key keys (λ k. k) q (keys_in query.group groups)
      ∙ keys-at query.group q refl
      ∙ sym (filter-in_order o q ks ∙ by-key keys (λ k. k) q ks))

  group-at : (key : List Value) → has_group query.group rows key ≡ true → out_row query (merged_group query groups key) ≡ map (group_cell query.group rows key) query.items
  group-at key there =
      ap (λ o. let g : Group = record { key = key; cells = unwrap_or o [] } in out_row query g)
      (tally-parts query key grouped [] (rows ∷ []) ∙ ap (λ l. total_at query l key) (append-nil rows) ∙ ap (λ b. cond b (Some (map (aggregate (members query.group rows key)) query.items)) None) there)
      ∙ out-cells query.group rows key query.items

  groups-same : merged_groups query groups ≡ grouped_answer query rows
  groups-same =
      let keys = group_keys query.group query.order in
      ap (map (λ key. out_row query (merged_group query groups key))) (keys-same keys)
      ∙ map-on (λ key. out_row query (merged_group query groups key)) (λ key. map (group_cell query.group rows key) query.items) (in_order (group_order keys) ks)
      (λ k e. group-at k (sym (sym (list_any-IsPermutation (is_same_key k) ks (in_order (group_order keys) ks) (in_order-permutation (group_order-total keys) ks)) ∙ any-key k) ∙ e))

-- ANSWERS
pub one-part : (query : Query) (rows : List KeyedRow) → All (λ row. keeps query.cond row ≡ true) rows → merged_answer query (part_of query rows ∷ []) ≡ answer_of query rows
one-part query rows kept = by_test query.grouped refl
  where
    by_test : (b : Bool) → query.grouped ≡ b
        → limited query.limit (cond b (merged_groups query (flat_map groups_in (part_of query rows ∷ []))) (plain_answer query (flat_map rows_in (part_of query rows ∷ [])))) ≡ answer_of query rows
    by_test true e = ap (limited query.limit) (groups-same query rows e) ∙ answer-grouped query rows kept e
    by_test false e = ap (λ l. limited query.limit (plain_answer query l)) (rows-parts query e (rows ∷ []) ∙ append-nil rows) ∙ answer-plain query rows kept e
