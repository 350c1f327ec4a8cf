-- What stands at a key when groups have been added up.
use Rattle.std.proofs.Common.{ℕ, ◌≡◌, ◌∙◌, Bool, true, false, cond, List, [], ◌∷◌, ◌++◌, filter, map, refl, ap, sym, append-nil, append_assoc}
use Rattle.std.proofs.lemmas.Cmp.{tied_itself}
use Rattle.std.proofs.lemmas.List.Elements.{filter-append}
use Rattle.std.proofs.lemmas.List.Folds.{list_any-append}
use Rattle.std.specs.List.{flat_map, list_any}
use Rattle.std.specs.Ordering.{is_eq}
use Rattle.std.specs.Prelude.{◌||◌, Option, None, Some}
use Rattle.gx_tree.specs.declared.cell.Cell.{Cell}
use Rattle.gx_tree.specs.declared.part.Group.{Group}
use Rattle.gx_tree.specs.declared.part.Part.TheVariants.{Rows, Groups}
use Rattle.gx_tree.specs.declared.query.Item.{Item}
use Rattle.gx_tree.specs.declared.query.Query.{Query}
use Rattle.gx_tree.specs.declared.row.KeyedRow.{KeyedRow}
use Rattle.gx_tree.specs.declared.value.Value.{Value}
use Rattle.gx_meaning.specs.Aggregates.{aggregate}
use Rattle.gx_meaning.specs.Answer.{group_of, groups_in, part_of, together}
use Rattle.gx_meaning.specs.Groups.{is_same_key, key_of, keys_of, members}
use Rattle.gx_gather.specs.Laws.{rising-total}
use Rattle.gx_meaning.specs.Order.{in_order, rising}
use Rattle.gx_meaning.specs.Tallies.{has_group, is_only, joined, row_group, tally, total_at}
use Rattle.gx_gather.proofs.Combining.{aggregates-append}
use Rattle.gx_gather.proofs.InOrder.{filter-in_order}
use Rattle.gx_gather.proofs.Keys.{filter-keys_of, if_there}

pub tally-append : (items : List Item) (q : List Value) (o : Option (List Cell)) (xs ys : List Group) → tally items q o (xs ++ ys) ≡ tally items q (tally items q o xs) ys
tally-append items q o [] ys = refl
tally-append items q o (x ∷ xs) ys = tally-append items q (cond (is_same_key q x.key) (joined items o x.cells) o) xs ys

-- only the groups with the key count
tally-filter-step : (items : List Item) (q : List Value) (o : Option (List Cell)) (x : Group) (xs : List Group) (b : Bool) → is_same_key q x.key ≡ b → tally items q (cond b (joined items o x.cells) o) xs ≡ tally items q (cond b (joined items o x.cells) o) (filter (λ g. is_same_key q g.key) xs) → tally items q (cond b (joined items o x.cells) o) xs ≡ tally items q o (cond b (x ∷ filter (λ g. is_same_key q g.key) xs) (filter (λ g. is_same_key q g.key) xs))
tally-filter-step items q o x xs true same more = more ∙ ap (λ b. tally items q (cond b (joined items o x.cells) o) (filter (λ g. is_same_key q g.key) xs)) (sym same)
tally-filter-step items q o x xs false same more = more

tally-filter : (items : List Item) (q : List Value) (o : Option (List Cell)) (xs : List Group) → tally items q o xs ≡ tally items q o (filter (λ g. is_same_key q g.key) xs)
tally-filter items q o [] = refl
tally-filter items q o (x ∷ xs) = tally-filter-step items q o x xs (is_same_key q x.key) refl (tally-filter items q (cond (is_same_key q x.key) (joined items o x.cells) o) xs)

filter-map-step : {X Y : Type 0} (p : Y → Bool) (f : X → Y) (x : X) (xs : List X) (b : Bool) → filter p (map f xs) ≡ map f (filter (λ x. p (f x)) xs) → cond b (f x ∷ filter p (map f xs)) (filter p (map f xs)) ≡ map f (cond b (x ∷ filter (λ x. p (f x)) xs) (filter (λ x. p (f x)) xs))
filter-map-step p f x xs true more = ap (λ l. f x ∷ l) more
filter-map-step p f x xs false more = more

pub filter-map : {X Y : Type 0} (p : Y → Bool) (f : X → Y) (xs : List X) → filter p (map f xs) ≡ map f (filter (λ x. p (f x)) xs)
filter-map p f [] = refl
filter-map p f (x ∷ xs) = filter-map-step p f x xs (p (f x)) (filter-map p f xs)

none-step : {X : Type 0} (p : X → Bool) (x : X) (xs : List X) (b : Bool) → b || (list_any p xs) ≡ false → (list_any p xs ≡ false → filter p xs ≡ []) → cond b (x ∷ filter p xs) (filter p xs) ≡ []
none-step p x xs true e more = cc
none-step p x xs false e more = more e

-- no row has the key, so the group has no rows
none-there : {X : Type 0} (p : X → Bool) (xs : List X) → list_any p xs ≡ false → filter p xs ≡ []
none-there p [] e = refl
none-there p (x ∷ xs) e = none-step p x xs (p x) e (none-there p xs)

module _ (query : Query) (q : List Value) where
  abbrev test : KeyedRow → Bool
  test row = is_same_key q (key_of query.group row)

  abbrev cells : List KeyedRow → List Cell
  cells rows = map (aggregate rows) query.items

  -- the aggregates of a list of rows that has the key, on top of those of another
  joined-at : (only any : Bool) (front more : List KeyedRow) → (any ≡ false → filter test front ≡ []) → joined query.items (cond (only || any) (Some (cells (filter test front))) None) (cells (filter test more)) ≡ Some (cells (filter test (front ++ more)))
  joined-at true any front more none = ap Some (aggregates-append query.items (filter test front) (filter test more) ∙ ap cells (sym (filter-append test front more)))
  joined-at false true front more none = ap Some (aggregates-append query.items (filter test front) (filter test more) ∙ ap cells (sym (filter-append test front more)))
  joined-at false false front more none = ap (λ l. Some (cells (l ++ filter test more))) (sym (none refl)) ∙ ap (λ l. Some (cells l)) (sym (filter-append test front more))

  or-true : (only a b : Bool) → only || b ≡ true → only || (a || b) ≡ true
  or-true true a b e = refl
  or-true false true b e = refl
  or-true false false b e = e

  or-false : (only a b : Bool) → only || b ≡ false → only || (a || b) ≡ only || a
  or-false true a b e = cc
  or-false false true b e = refl
  or-false false false b e = e

  later-false : (only b : Bool) → only || b ≡ false → b ≡ false
  later-false true b e = cc
  later-false false b e = e

  -- adding the aggregates of further rows, where they have the key
  add-rows-step : (front more : List KeyedRow) (t : Bool) → has_group query.group more q ≡ t → cond t (joined query.items (total_at query front q) (cells (members query.group more q))) (total_at query front q) ≡ total_at query (front ++ more) q
  add-rows-step front more true there =
      joined-at (is_only query.group q) (list_any test front) front more (none-there test front)
      ∙ sym (ap (λ b. cond ((is_only query.group q) || b) (Some (cells (filter test (front ++ more)))) None) (list_any-append test front more)
      ∙ ap (λ b. cond b (Some (cells (filter test (front ++ more)))) None) (or-true (is_only query.group q) (list_any test front) (list_any test more) there))
  add-rows-step front more false there =
      ap (λ l. cond (has_group query.group front q) (Some (cells l)) None)
      (sym (append-nil (filter test front)) ∙ ap (λ l. filter test front ++ l) (sym (none-there test more (later-false (is_only query.group q) (list_any test more) there))) ∙ sym (filter-append test front more))
      ∙ sym (ap (λ b. cond ((is_only query.group q) || b) (Some (cells (filter test (front ++ more)))) None) (list_any-append test front more)
      ∙ ap (λ b. cond b (Some (cells (filter test (front ++ more)))) None) (or-false (is_only query.group q) (list_any test front) (list_any test more) there))

  add-rows : (front more : List KeyedRow) → cond (has_group query.group more q) (joined query.items (total_at query front q) (cells (members query.group more q))) (total_at query front q) ≡ total_at query (front ++ more) q
  add-rows front more = add-rows-step front more (has_group query.group more q) refl

  tally-if_there : (o : Option (List Cell)) (rows : List KeyedRow) (b : Bool) → tally query.items q o (map (group_of query rows) (if_there b q)) ≡ cond b (joined query.items o (cells (members query.group rows q))) o
  tally-if_there o rows true = ap (λ t. cond (is_eq t) (joined query.items o (cells (members query.group rows q))) o) (tied_itself rising-total q)
  tally-if_there o rows false = refl

  -- the groups of rows
  tally-groups : (front rows : List KeyedRow) → tally query.items q (total_at query front q) (map (group_of query rows) (in_order rising (keys_of query.group rows))) ≡ total_at query (front ++ rows) q
  tally-groups front rows =
      tally-filter query.items q (total_at query front q) (map (group_of query rows) (in_order rising (keys_of query.group rows)))
      ∙ ap (tally query.items q (total_at query front q)) (filter-map (λ g. is_same_key q g.key) (group_of query rows) (in_order rising (keys_of query.group rows))
      ∙ ap (map (group_of query rows)) (filter-in_order rising-total q (keys_of query.group rows) ∙ filter-keys_of query.group rows q))
      ∙ tally-if_there (total_at query front q) rows (has_group query.group rows q)
      ∙ add-rows front rows

  groups_of-part : (rows : List KeyedRow) (b : Bool) → b ≡ true → groups_in (cond b (Groups (map (group_of query rows) (in_order rising (keys_of query.group rows)))) (Rows rows)) ≡ map (group_of query rows) (in_order rising (keys_of query.group rows))
  groups_of-part rows true e = refl
  groups_of-part rows false e = cc

  -- the groups of the parts of a division
  pub tally-parts : query.grouped ≡ true → (front : List KeyedRow) (dealt : List (List KeyedRow)) → tally query.items q (total_at query front q) (flat_map groups_in (map (part_of query) dealt)) ≡ total_at query (front ++ together dealt) q
  tally-parts grouped front [] = ap (λ l. total_at query l q) (sym (append-nil front))
  tally-parts grouped front (rows ∷ dealt) =
      tally-append query.items q (total_at query front q) (groups_in (part_of query rows)) (flat_map groups_in (map (part_of query) dealt))
      ∙ ap (λ o. tally query.items q o (flat_map groups_in (map (part_of query) dealt))) (ap (tally query.items q (total_at query front q)) (groups_of-part rows query.grouped grouped) ∙ tally-groups front rows)
      ∙ tally-parts grouped (front ++ rows) dealt
      ∙ ap (λ l. total_at query l q) (append_assoc front rows (together dealt))

  -- rows as groups of their own
  only-test : (group : List ℕ) (row : KeyedRow) → is_only group q ≡ true → is_same_key q (key_of group row) ≡ true
  only-test [] row e = e
  only-test (column ∷ columns) row e = cc

  row-cases : (only b : Bool) (o : Option (List Cell)) (row : KeyedRow) → (only ≡ true → b ≡ true) → cond b (joined query.items o (cells (row ∷ []))) o ≡ cond (only || (b || false)) (joined query.items o (cells (cond b (row ∷ []) []))) o
  row-cases true true o row within = refl
  row-cases false true o row within = refl
  row-cases true false o row within = let e : false ≡ true = within refl in cc
  row-cases false false o row within = refl

  row-step : (front : List KeyedRow) (row : KeyedRow) → cond (test row) (joined query.items (total_at query front q) (cells (row ∷ []))) (total_at query front q) ≡ cond (has_group query.group (row ∷ []) q) (joined query.items (total_at query front q) (cells (members query.group (row ∷ []) q))) (total_at query front q)
  row-step front row = row-cases (is_only query.group q) (test row) (total_at query front q) row (only-test query.group row)

  pub tally-rows : (front rows : List KeyedRow) → tally query.items q (total_at query front q) (map (row_group query) rows) ≡ total_at query (front ++ rows) q
  tally-rows front [] = ap (λ l. total_at query l q) (sym (append-nil front))
  tally-rows front (row ∷ rows) =
      ap (λ o. tally query.items q o (map (row_group query) rows)) (row-step front row ∙ add-rows front (row ∷ []))
      ∙ tally-rows (front ++ row ∷ []) rows
      ∙ ap (λ l. total_at query l q) (append_assoc front (row ∷ []) rows)
