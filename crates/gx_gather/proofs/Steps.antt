-- The steps of the loops, and what a query answers on rows that it keeps.
use Rattle.std.proofs.Common.{ℕ, suc, ◌+◌, ◌<◌, ◌≡◌, ◌∙◌, Bool, true, false, cond, List, [], ◌∷◌, ◌++◌, filter, map, length, get_or, drop, take, refl, ap, sym, subst, add-one, drop-cons, append_assoc}
use Rattle.std.proofs.Math.Seq.{take-suc}
use Rattle.std.proofs.lemmas.List.Elements.{recursion_from_All}
use Rattle.std.specs.BTreeMap.{is_at}
use Rattle.std.specs.List.{All, AllByRecursion, flat_map}
use Rattle.std.specs.List.Sorted.{IsPermutation, IsStrictlySortedBy}
use Rattle.std.specs.Map.{keys_of as keys_in, lookup}
use Rattle.std.specs.Prelude.{Option}
use Rattle.gx_tree.specs.declared.cell.Cell.{Cell}
use Rattle.gx_tree.specs.declared.part.Group.{Group}
use Rattle.gx_tree.specs.declared.part.Part.{Part}
use Rattle.gx_tree.specs.declared.part.Part.TheVariants.{Rows, Groups}
use Rattle.gx_tree.specs.declared.query.Item.{Item}
use Rattle.gx_tree.specs.declared.query.Query.{Query}
use Rattle.gx_tree.specs.declared.row.KeyedRow.{KeyedRow}
use Rattle.gx_tree.specs.declared.value.Value.{Value}
use Rattle.gx_meaning.specs.Aggregates.{aggregate}
use Rattle.gx_meaning.specs.Answer.{ArePartsOf, answer_of, group_of, grouped_answer, groups_in, keeps, limited, part_of, plain_answer, rows_in}
use Rattle.gx_meaning.specs.Groups.{is_same_key, key_of, keys_of, members}
use Rattle.gx_meaning.specs.Order.{in_order, rising}
use Rattle.gx_meaning.specs.Tallies.{entry_group, joined, row_group, tally, total_at}
use Rattle.gx_gather.specs.Added.{group_of_all}
use Rattle.gx_gather.proofs.Listing.{listed_is}
use Rattle.gx_gather.proofs.Totals.{tally-append, tally-rows}
use Rattle.gx_gather.proofs.Whole.{rows-parts}

pub drop_next : {X : Type 0} (xs : List X) (i : ℕ) (x : X) → i < length xs → x ≡ get_or xs i x → drop i xs ≡ x ∷ drop (i + 1) xs
drop_next xs i x low is = rw (add-one) (drop-cons xs i x low ∙ ap (λ y. y ∷ drop (suc i) xs) (sym is))

pub push_next : {X Y : Type 0} (f : X → Y) (xs : List X) (i : ℕ) (x : X) (y : Y) (out all : List Y) → i < length xs → x ≡ get_or xs i x → y ≡ f x → out ++ map f (drop i xs) ≡ all → (out ++ y ∷ []) ++ map f (drop (i + 1) xs) ≡ all
push_next f xs i x y out all low is made before =
    append_assoc out (y ∷ []) (map f (drop (i + 1) xs)) ∙ ap (λ z. out ++ z ∷ map f (drop (i + 1) xs)) made ∙ sym (ap (λ l. out ++ map f l) (drop_next xs i x low is)) ∙ before

-- a row has been added to the groups
pub row_added : (query : Query) (q : List Value) (rows : List KeyedRow) (i : ℕ) (row : KeyedRow) (items : List Item) (key : List Value) (cells : List Cell) (old new all : Option (List Cell))
    → i < length rows → row ≡ get_or rows i row → items ≡ query.items → key ≡ key_of query.group row → cells ≡ map (aggregate (row ∷ [])) items → new ≡ cond (is_same_key q key) (joined items old cells) old
    → tally query.items q old (map (row_group query) (drop i rows)) ≡ all → tally query.items q new (map (row_group query) (drop (i + 1) rows)) ≡ all
row_added query q rows i row items key cells old new all low is same_items same_key made added before =
    let now : new ≡ cond (is_same_key q (key_of query.group row)) (joined query.items old (map (aggregate (row ∷ [])) query.items)) old =
    added ∙ ap (λ k. cond (is_same_key q k) (joined items old cells) old) same_key ∙ ap (λ c. cond (is_same_key q (key_of query.group row)) (joined items old c) old) made
    ∙ ap (λ l. cond (is_same_key q (key_of query.group row)) (joined l old (map (aggregate (row ∷ [])) l)) old) same_items in
    ap (λ o. tally query.items q o (map (row_group query) (drop (i + 1) rows))) now
    ∙ sym (ap (λ l. tally query.items q old (map (row_group query) l)) (drop_next rows i row low is)) ∙ before

-- the groups of a part have been added
pub part_added : (items : List Item) (q : List Value) (parts : List Part) (i : ℕ) (part : Part) (items' : List Item) (groups : List Group) (old new all : Option (List Cell))
    → i < length parts → part ≡ get_or parts i part → items' ≡ items → groups ≡ groups_in part → new ≡ tally items' q old groups
    → tally items q old (flat_map groups_in (drop i parts)) ≡ all → tally items q new (flat_map groups_in (drop (i + 1) parts)) ≡ all
part_added items q parts i part items' groups old new all low is same_items same_groups added before =
    ap (λ o. tally items q o (flat_map groups_in (drop (i + 1) parts))) (added ∙ ap (λ l. tally l q old groups) same_items ∙ ap (tally items q old) same_groups)
    ∙ sym (tally-append items q old (groups_in part) (flat_map groups_in (drop (i + 1) parts)))
    ∙ sym (ap (λ l. tally items q old (flat_map groups_in l)) (drop_next parts i part low is)) ∙ before

pub found_rows : (query : Query) (whole : List KeyedRow) (parts : List Part) → query.grouped ≡ false → ArePartsOf query whole parts → IsPermutation whole (flat_map rows_in parts)
found_rows query whole parts plain p = subst (IsPermutation whole) (sym (ap (flat_map rows_in) p.each ∙ rows-parts query plain p.dealt)) p.division

part-grouped : (b : Bool) (rows : List KeyedRow) (groups : List Group) → b ≡ true → Groups groups ≡ cond b (Groups groups) (Rows rows)
part-grouped true rows groups e = refl
part-grouped false rows groups e = cc

pub part_grouped : (query : Query) (rows : List KeyedRow) (es : List (List Value × List Cell)) (groups : List Group)
    → query.grouped ≡ true → IsStrictlySortedBy rising (keys_in es) → ((q : List Value) → lookup (is_at (rising q)) es ≡ tally query.items q (total_at query [] q) (map (row_group query) rows))
    → groups ≡ map entry_group es → Groups groups ≡ part_of query rows
part_grouped query rows es groups grouped rises totals listed =
    ap Groups (listed ∙ listed_is query rows es rises (λ q. totals q ∙ tally-rows query q [] rows))
    ∙ part-grouped query.grouped rows (map (group_of query rows) (in_order rising (keys_of query.group rows))) grouped

-- without GROUP BY all rows are members of the one group
members-all : (rows : List KeyedRow) → members [] rows [] ≡ rows
members-all [] = refl
members-all (row ∷ rows) = ap (λ l. row ∷ l) (members-all rows)

whole-group : (query : Query) (rows : List KeyedRow) → query.group ≡ [] → map (group_of query rows) (in_order rising (keys_of query.group rows)) ≡ group_of_all query.items rows ∷ []
whole-group query rows alone =
    let made : List ℕ → List Value → Group = λ group key. record { key = key; cells = map (aggregate (members group rows key)) query.items } in
    ap (λ group. map (made group) (in_order rising (keys_of group rows))) alone ∙ ap (λ l. group_of_all query.items l ∷ []) (members-all rows)

pub part_whole : (query : Query) (rows : List KeyedRow) (items : List Item) → query.grouped ≡ true → query.group ≡ [] → items ≡ query.items → Groups (group_of_all items rows ∷ []) ≡ part_of query rows
part_whole query rows items grouped alone same =
    ap (λ l. Groups (group_of_all l rows ∷ [])) same ∙ ap Groups (sym (whole-group query rows alone))
    ∙ part-grouped query.grouped rows (map (group_of query rows) (in_order rising (keys_of query.group rows))) grouped

-- ---- the condition holds on the whole
all-kept : {X : Type 0} (p : X → Bool) (xs : List X) → AllByRecursion (λ x. p x ≡ true) xs → filter p xs ≡ xs
all-kept p [] all = refl
all-kept p (x ∷ xs) all = ap (λ b. cond b (x ∷ filter p xs) (filter p xs)) all.0 ∙ ap (λ l. x ∷ l) (all-kept p xs all.1)

choice-true : (b : Bool) (x y : List (List Cell)) → b ≡ true → x ≡ cond b x y
choice-true true x y e = refl
choice-true false x y e = cc

choice-false : (b : Bool) (x y : List (List Cell)) → b ≡ false → y ≡ cond b x y
choice-false true x y e = cc
choice-false false x y e = refl

module _ (query : Query) (whole : List KeyedRow) (kept : All (λ row. keeps query.cond row ≡ true) whole) where
  same-kept : filter (keeps query.cond) whole ≡ whole
  same-kept = all-kept (keeps query.cond) whole (recursion_from_All _ whole kept)

  pub answer-grouped : query.grouped ≡ true → limited query.limit (grouped_answer query whole) ≡ answer_of query whole
  answer-grouped grouped =
      ap (limited query.limit) (choice-true query.grouped (grouped_answer query whole) (plain_answer query whole) grouped
      ∙ ap (λ l. cond query.grouped (grouped_answer query l) (plain_answer query l)) (sym same-kept))

  pub answer-plain : query.grouped ≡ false → limited query.limit (plain_answer query whole) ≡ answer_of query whole
  answer-plain plain =
      ap (limited query.limit) (choice-false query.grouped (grouped_answer query whole) (plain_answer query whole) plain
      ∙ ap (λ l. cond query.grouped (grouped_answer query l) (plain_answer query l)) (sym same-kept))

pub take_next : {X : Type 0} (xs : List X) (i : ℕ) (x : X) → i < length xs → x ≡ get_or xs i x → take (i + 1) xs ≡ take i xs ++ x ∷ []
take_next xs i x low is = rw (add-one) (take-suc xs i x low ∙ ap (λ y. take i xs ++ y ∷ []) (sym is))
