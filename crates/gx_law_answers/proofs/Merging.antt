-- The answer that the coordinator merges is that of the query on the whole.
use Rattle.std.proofs.Common.{ℕ, ◌≡◌, ◌∙◌, Bool, true, false, cond, List, [], ◌∷◌, ◌++◌, filter, map, refl, ap, sym, ◌||◌}
use Rattle.std.proofs.lemmas.Cmp.{tied_itself}
use Rattle.std.proofs.lemmas.List.Folds.{list_any-append}
use Rattle.std.proofs.lemmas.List.Sorted.{IsPermutation-trans}
use Rattle.std.specs.List.{flat_map, list_any}
use Rattle.std.specs.List.Sorted.{IsPermutation}
use Rattle.std.specs.Ordering.{is_eq}
use Rattle.std.specs.Prelude.{Some, None, unwrap_or}
use Rattle.std.proofs.lemmas.Bool.{or_right}
use Rattle.gx_tree.specs.declared.part.Group.{Group}
use Rattle.gx_tree.specs.declared.part.Part.{Part}
use Rattle.gx_tree.specs.declared.part.Part.TheVariants.{Rows, Groups}
use Rattle.gx_tree.specs.declared.query.Query.{Query}
use Rattle.gx_tree.specs.declared.row.KeyedRow.{KeyedRow}
use Rattle.gx_tree.specs.declared.value.Value.{Value}
use Rattle.gx_meaning.specs.Aggregates.{aggregate}
use Rattle.gx_meaning.specs.Answer.{ArePartsOf, AreRising, answer_of, group_keys, group_of, grouped_answer, groups_in, limited, part_of, plain_answer, row_cell, row_keys, rows_in, together}
use Rattle.gx_meaning.specs.Groups.{is_same_key, key_of, keys_of, members}
use Rattle.gx_gather.specs.Laws.{rising-total}
use Rattle.gx_meaning.specs.Order.{group_order, in_order, rising, row_order}
use Rattle.gx_meaning.specs.Tallies.{has_group, is_only, out_row}
use Rattle.gx_meaning.specs.declared.sort_key.SortKey.{SortKey}
use Rattle.gx_gather.proofs.InOrder.{filter-in_order, rises_in_order, rises_same}
use Rattle.gx_gather.proofs.Keys.{filter-keys_of, filter-once, if_there}
use Rattle.gx_gather.proofs.Listing.{by-key}
use Rattle.gx_gather.proofs.Ordered.{in_order-permutation, in_order-sorted}
use Rattle.gx_gather.proofs.Orders.{group_order-total, row_order-total}
use Rattle.gx_gather.proofs.Steps.{answer-grouped, answer-plain, found_rows}
use Rattle.gx_gather.proofs.Totals.{tally-parts}
use Rattle.gx_gather.proofs.Whole.{keys-same, out-same, sorted_rows}
use Rattle.gx_meaning.specs.Merged.{keys_in, merged_answer, merged_group, merged_groups}

-- ---- rows
plain-same : (query : Query) (whole found : List KeyedRow) → AreRising whole → IsPermutation whole found → plain_answer query found ≡ plain_answer query whole
plain-same query whole found rises perm =
    let keys = row_keys query.order in
    ap (map (λ row. map (row_cell row) query.items))
    (sorted_rows keys whole (in_order (row_order keys) found) rises
    (IsPermutation-trans whole found (in_order (row_order keys) found) perm (in_order-permutation (row_order-total keys) found))
    (in_order-sorted (row_order-total keys) found))

-- ---- the keys of groups
abbrev is_there : List (List Value) → Bool
is_there [] = false
is_there (k ∷ ks) = true

any-step : (p : List Value → Bool) (ks : List (List Value)) (k : List Value) (b : Bool) → list_any p ks ≡ is_there (filter p ks) → (b || list_any p ks) ≡ is_there (cond b (k ∷ filter p ks) (filter p ks))
any-step p ks k true e = refl
any-step p ks k false e = e

-- some key passes where the list of those that pass isn't empty
any-filter : (p : List Value → Bool) (ks : List (List Value)) → list_any p ks ≡ is_there (filter p ks)
any-filter p [] = refl
any-filter p (k ∷ ks) = any-step p ks k (p k) (any-filter p ks)

there-if : (b : Bool) (q : List Value) → is_there (if_there b q) ≡ b
there-if true q = refl
there-if false q = refl

keys-of-groups : (query : Query) (rows : List KeyedRow) (ks : List (List Value)) → map (λ g. g.key) (map (group_of query rows) ks) ≡ ks
keys-of-groups query rows [] = refl
keys-of-groups query rows (k ∷ ks) = ap (λ l. k ∷ l) (keys-of-groups query rows ks)

map-append : {X Y : Type 0} (f : X → Y) (xs ys : List X) → map f (xs ++ ys) ≡ map f xs ++ map f ys
map-append f [] ys = refl
map-append f (x ∷ xs) ys = ap (λ l. f x ∷ l) (map-append f xs ys)

abbrev names : List Group → List (List Value)
names groups = map (λ g. g.key) groups

module _ (query : Query) (grouped : query.grouped ≡ true) where
  groups-of-part : (rows : List KeyedRow) → groups_in (part_of query rows) ≡ map (group_of query rows) (in_order rising (keys_of query.group rows))
  groups-of-part rows = by_test query.grouped grouped
    where
      by_test : (b : Bool) → b ≡ true → groups_in (cond b (Groups (map (group_of query rows) (in_order rising (keys_of query.group rows)))) (Rows rows)) ≡ map (group_of query rows) (in_order rising (keys_of query.group rows))
      by_test true e = refl
      by_test false e = cc

  -- a part has a group where a row has the key
  part-any : (q : List Value) (rows : List KeyedRow) → list_any (is_same_key q) (names (groups_in (part_of query rows))) ≡ has_group query.group rows q
  part-any q rows =
      ap (λ gs. list_any (is_same_key q) (names gs)) (groups-of-part rows)
      ∙ ap (list_any (is_same_key q)) (keys-of-groups query rows (in_order rising (keys_of query.group rows)))
      ∙ any-filter (is_same_key q) (in_order rising (keys_of query.group rows))
      ∙ ap is_there (filter-in_order rising-total q (keys_of query.group rows) ∙ filter-keys_of query.group rows q)
      ∙ there-if (has_group query.group rows q) q

  parts-any : (q : List Value) → is_only query.group q ≡ false → (dealt : List (List KeyedRow)) → list_any (is_same_key q) (names (flat_map groups_in (map (part_of query) dealt))) ≡ list_any (λ row. is_same_key q (key_of query.group row)) (together dealt)
  parts-any q none [] = refl
  parts-any q none (rows ∷ dealt) =
      ap (list_any (is_same_key q)) (map-append (λ (g : Group). g.key) (groups_in (part_of query rows)) (flat_map groups_in (map (part_of query) dealt)))
      ∙ list_any-append (is_same_key q) (names (groups_in (part_of query rows))) (names (flat_map groups_in (map (part_of query) dealt)))
      ∙ ap (λ b. b || list_any (is_same_key q) (names (flat_map groups_in (map (part_of query) dealt)))) (part-any q rows ∙ ap (λ b. b || list_any (λ row. is_same_key q (key_of query.group row)) rows) none)
      ∙ ap (λ b. list_any (λ row. is_same_key q (key_of query.group row)) rows || b) (parts-any q none dealt)
      ∙ sym (list_any-append (λ row. is_same_key q (key_of query.group row)) rows (together dealt))

keys-at : (group : List ℕ) (groups : List Group) (cs : List KeyedRow) (q : List Value) → (is_only group q ≡ false → list_any (is_same_key q) (names groups) ≡ list_any (λ row. is_same_key q (key_of group row)) cs) → filter (is_same_key q) (keys_in group groups) ≡ filter (is_same_key q) (keys_of group cs)
keys-at [] groups cs q same = refl
keys-at (column ∷ columns) groups cs q same =
    filter-once q (names groups) ∙ ap (λ b. if_there b q) (same refl) ∙ sym (filter-keys_of (column ∷ columns) cs q)

-- ---- each key's group

map-on : {Y : Type 0} (f h : List Value → Y) (ks : List (List Value)) → ((k : List Value) → list_any (is_same_key k) ks ≡ true → f k ≡ h k) → map f ks ≡ map h ks
map-on f h [] same = refl
map-on f h (k ∷ ks) same =
    ap (λ y. y ∷ map f ks) (same k (ap (λ t. is_eq t || list_any (is_same_key k) ks) (tied_itself rising-total k)))
    ∙ ap (λ l. h k ∷ l) (map-on f h ks (λ q e. same q (or_right (is_same_key q k) (list_any (is_same_key q) ks) e)))

module _ (query : Query) (dealt : List (List KeyedRow)) (grouped : query.grouped ≡ true) where
  abbrev cs : List KeyedRow
  cs = together dealt

  abbrev groups : List Group
  groups = flat_map groups_in (map (part_of query) dealt)

  merged-at : (key : List Value) (b : Bool) → has_group query.group cs key ≡ b → b ≡ true → out_row query (merged_group query groups key) ≡ out_row query (group_of query cs key)
  merged-at key true e t =
      ap (λ o. let g : Group = record { key = key; cells = unwrap_or o [] } in out_row query g)
      (tally-parts query key grouped [] dealt ∙ ap (λ b. cond b (Some (map (aggregate (members query.group cs key)) query.items)) None) e)
  merged-at key false e t = cc

  module _ (keys : List SortKey) where
    keys-same-order : in_order (group_order keys) (keys_in query.group groups) ≡ in_order (group_order keys) (keys_of query.group cs)
    keys-same-order =
        let o = group_order-total keys in
        rises_same o (in_order (group_order keys) (keys_in query.group groups)) (in_order (group_order keys) (keys_of query.group cs)) (rises_in_order o (keys_in query.group groups)) (rises_in_order o (keys_of query.group cs))
        (λ q. filter-in_order o q (keys_in query.group groups) ∙ by-key keys (λ k. k) q (keys_in query.group groups)
        ∙ keys-at query.group groups cs q (λ none. parts-any query grouped q none dealt)
        ∙ sym (filter-in_order o q (keys_of query.group cs) ∙ by-key keys (λ k. k) q (keys_of query.group cs)))

    has-key : (k : List Value) → list_any (is_same_key k) (in_order (group_order keys) (keys_of query.group cs)) ≡ true → has_group query.group cs k ≡ true
    has-key k e =
        sym (any-filter (is_same_key k) (in_order (group_order keys) (keys_of query.group cs))
        ∙ ap is_there (sym (by-key keys (λ z. z) k (in_order (group_order keys) (keys_of query.group cs))) ∙ filter-in_order (group_order-total keys) k (keys_of query.group cs) ∙ by-key keys (λ z. z) k (keys_of query.group cs) ∙ filter-keys_of query.group cs k)
        ∙ there-if (has_group query.group cs k) k)
        ∙ e

    all-merged : map (λ key. out_row query (merged_group query groups key)) (in_order (group_order keys) (keys_in query.group groups)) ≡ map (out_row query) (map (group_of query cs) (in_order (group_order keys) (keys_of query.group cs)))
    all-merged =
        ap (map (λ key. out_row query (merged_group query groups key))) keys-same-order
        ∙ map-on (λ key. out_row query (merged_group query groups key)) (λ key. out_row query (group_of query cs key)) (in_order (group_order keys) (keys_of query.group cs)) (λ k e. merged-at k (has_group query.group cs k) refl (has-key k e))
        ∙ map-map (out_row query) (group_of query cs) (in_order (group_order keys) (keys_of query.group cs))
      where
        map-map : {X Y Z : Type 0} (g : Y → Z) (f : X → Y) (xs : List X) → map (λ x. g (f x)) xs ≡ map g (map f xs)
        map-map g f [] = refl
        map-map g f (x ∷ xs) = ap (λ l. g (f x) ∷ l) (map-map g f xs)

grouped-same : (query : Query) (whole : List KeyedRow) (parts : List Part) → ArePartsOf query whole parts → query.grouped ≡ true → merged_groups query (flat_map groups_in parts) ≡ grouped_answer query whole
grouped-same query whole parts p grouped =
    let keys = group_keys query.group query.order in
    ap (λ ps. merged_groups query (flat_map groups_in ps)) p.each
    ∙ all-merged query p.dealt grouped keys
    ∙ ap (λ ks. map (out_row query) (map (group_of query (together p.dealt)) ks)) (keys-same whole (together p.dealt) p.rising p.division query.group keys)
    ∙ out-same whole (together p.dealt) p.rising p.division query (in_order (group_order keys) (keys_of query.group whole))

pub merged-answer : (query : Query) (whole : List KeyedRow) (parts : List Part) → ArePartsOf query whole parts → merged_answer query parts ≡ answer_of query whole
merged-answer query whole parts p = by_test query.grouped refl
  where
    by_test : (b : Bool) → query.grouped ≡ b → limited query.limit (cond b (merged_groups query (flat_map groups_in parts)) (plain_answer query (flat_map rows_in parts))) ≡ answer_of query whole
    by_test true e = ap (limited query.limit) (grouped-same query whole parts p e) ∙ answer-grouped query whole p.kept e
    by_test false e = ap (limited query.limit) (plain-same query whole (flat_map rows_in parts) p.rising (found_rows query whole parts e p)) ∙ answer-plain query whole p.kept e
