-- A map that has at each key what the groups come to there lists the answered groups.
use Rattle.std.proofs.Common.{ℕ, ◌==◌, ◌≡◌, ◌∙◌, Bool, true, false, cond, not, ◌||◌, arith, length, List, [], ◌∷◌, filter, map, refl, ap, sym}
use Rattle.std.proofs.lemmas.Bool.Decides.{nat_tests}
use Rattle.std.specs.BTreeMap.{is_at}
use Rattle.std.specs.List.{AllByRecursion, list_any}
use Rattle.std.specs.List.Sorted.{IsStrictlySortedBy}
use Rattle.std.specs.Map.{keys_of, lookup}
use Rattle.std.specs.Ordering.{is_eq}
use Rattle.std.specs.Prelude.{Option, None, Some, is_some, unwrap_or}
use Rattle.std.specs.declared.cmp.Ordering.TheVariants.{Less, Equal}
use Rattle.gx_tree.specs.declared.cell.Cell.{Cell}
use Rattle.gx_tree.specs.declared.part.Group.{Group}
use Rattle.gx_tree.specs.declared.query.Item.{Item}
use Rattle.gx_tree.specs.declared.query.Query.{Query}
use Rattle.gx_tree.specs.declared.value.Value.{Value}
use Rattle.gx_meaning.specs.Groups.{is_same_key}
use Rattle.gx_gather.specs.Laws.{rising-total}
use Rattle.gx_meaning.specs.Order.{rising}
use Rattle.gx_meaning.specs.Tallies.{is_only, joined, tally, total_at}
use Rattle.gx_gather.proofs.InOrder.{Equal-from}
use Rattle.gx_gather.proofs.Keys.{filter-none, filter-once, filter-through, if_there}
use Rattle.gx_gather.proofs.Orders.{same-exact}
use Rattle.gx_gather.proofs.Totals.{filter-map}
use Rattle.gx_meaning.specs.Merged.{keys_in}
use Rattle.gx_gather.specs.Answered.{is_answered}

abbrev pub Entry : Type 0
Entry = List Value × List Cell

-- an entry at a key, if there is one
abbrev entry : Option (List Cell) → List Value → List Entry
entry None q = []
entry (Some cells) q = (q, cells) ∷ []

abbrev has : List Value → List Entry → List Entry
has q es = filter (λ e. is_same_key q e.0) es

-- ---- the entries of a map
none-later : (q k : List Value) (es : List Entry) → rising q k ≡ Equal → AllByRecursion (λ y. rising k y ≡ Less) (keys_of es) → has q es ≡ []
none-later q k [] e all = refl
none-later q k (x ∷ es) e all = ap (λ t. cond (is_eq t) (x ∷ has q es) (has q es)) (rising-total.congr q k x.0 e ∙ all.0) ∙ none-later q k es e all.1

entries-step : (q : List Value) (x : Entry) (es : List Entry) (b : Bool) → is_same_key q x.0 ≡ b → AllByRecursion (λ y. rising x.0 y ≡ Less) (keys_of es) → has q es ≡ entry (lookup (is_at (rising q)) es) q → cond b (x ∷ has q es) (has q es) ≡ entry (cond b (Some x.1) (lookup (is_at (rising q)) es)) q
entries-step q x es true same all more =
    ap (λ l. x ∷ l) (none-later q x.0 es (Equal-from (rising q x.0) same) all) ∙ ap (λ k. (k, x.1) ∷ []) (sym (same-exact q x.0 same))
entries-step q x es false same all more = more

entries-at : (q : List Value) (es : List Entry) → IsStrictlySortedBy rising (keys_of es) → has q es ≡ entry (lookup (is_at (rising q)) es) q
unfolding IsStrictlySortedBy
entries-at q [] sorted = refl
entries-at q (x ∷ es) sorted = entries-step q x es (is_same_key q x.0) refl sorted.0 (entries-at q es sorted.1)

-- ---- those that are answered
answered-at : (columns q : _) (es : List Entry) (b : Bool) → is_answered columns q ≡ b → has q (filter (λ e. is_answered columns e.0) es) ≡ cond b (has q es) []
answered-at columns q es true t = filter-through (λ e. is_same_key q e.0) (λ e. is_answered columns e.0) (λ e same. ap (is_answered columns) (sym (same-exact q e.0 same)) ∙ t) es
answered-at columns q es false t = filter-none (λ e. is_same_key q e.0) (λ e. is_answered columns e.0) (λ e same. ap (is_answered columns) (sym (same-exact q e.0 same)) ∙ t) es

-- ---- what groups come to at a key
any-joined : (items : List Item) (o : Option (List Cell)) (c : List Cell) (b a : Bool) → (is_some (cond b (joined items o c) o) || a) ≡ (is_some o || (b || a))
any-joined items None c true a = refl
any-joined items None c false a = refl
any-joined items (Some d) c true a = refl
any-joined items (Some d) c false a = refl

or-none : (b : Bool) → b ≡ (b || false)
or-none true = refl
or-none false = refl

is_some-tally : (items : List Item) (q : List Value) (o : Option (List Cell)) (gs : List Group) → is_some (tally items q o gs) ≡ (is_some o || list_any (is_same_key q) (map (λ g. g.key) gs))
is_some-tally items q o [] = or-none (is_some o)
is_some-tally items q o (g ∷ gs) =
    is_some-tally items q (cond (is_same_key q g.key) (joined items o g.cells) o) gs
    ∙ any-joined items o g.cells (is_same_key q g.key) (list_any (is_same_key q) (map (λ g. g.key) gs))

is_some-cond : (b : Bool) (c : List Cell) → is_some (cond (b || false) (Some c) None) ≡ b
is_some-cond true c = refl
is_some-cond false c = refl

-- ---- the keys of the answer
abbrev is_named : List ℕ → Bool → List Value → Bool
is_named [] any q = is_same_key q []
is_named (column ∷ columns) any q = any

only-step : (q : List Value) (b : Bool) → is_same_key q [] ≡ b → cond b ([] ∷ []) [] ≡ if_there b q
only-step q true same = ap (λ k. k ∷ []) (sym (same-exact q [] same))
only-step q false same = refl

keys-at : (columns : List ℕ) (gs : List Group) (q : List Value) → filter (is_same_key q) (keys_in columns gs) ≡ if_there (is_named columns (list_any (is_same_key q) (map (λ g. g.key) gs)) q) q
keys-at [] gs q = only-step q (is_same_key q []) refl
keys-at (column ∷ columns) gs q = filter-once q (map (λ g. g.key) gs)

there : (q : List Value) (o : Option (List Cell)) (b : Bool) → is_some o ≡ b → entry o q ≡ cond b ((q, unwrap_or o []) ∷ []) []
there q None true e = cc
there q None false e = refl
there q (Some c) true e = refl
there q (Some c) false e = cc

not-empty : {X : Type 0} (x : X) (xs : List X) → (length (x ∷ xs) == 0) ≡ false
not-empty x xs = grind (arith, nat_tests)

-- an entry is answered where the answer has its key
named-there : (columns : List ℕ) (any : Bool) (q : List Value) (o : Option (List Cell)) → is_some o ≡ (is_only columns q || any) → cond (is_answered columns q) (entry o q) [] ≡ cond (is_named columns any q) ((q, unwrap_or o []) ∷ []) []
named-there [] any [] o e = there [] o true e
named-there [] any (v ∷ vs) o e = ap (λ b. cond b (entry o (v ∷ vs)) []) (not-empty v vs)
named-there (column ∷ columns) any q o e = ap (λ b. cond (not b || (length q == 0)) (entry o q) []) (not-empty column columns) ∙ there q o any e

module _ (query : Query) (gs : List Group) where
  abbrev come_to : List Value → Option (List Cell)
  come_to q = tally query.items q (total_at query [] q) gs

  abbrev pub with_cells : List Value → Entry
  with_cells key = (key, unwrap_or (come_to key) [])

  map-there : (q : List Value) (b : Bool) → map with_cells (if_there b q) ≡ cond b (with_cells q ∷ []) []
  map-there q true = refl
  map-there q false = refl

  with_cells-at : (q : List Value) → has q (map with_cells (keys_in query.group gs)) ≡ cond (is_named query.group (list_any (is_same_key q) (map (λ g. g.key) gs)) q) (with_cells q ∷ []) []
  with_cells-at q =
      let any = list_any (is_same_key q) (map (λ g. g.key) gs) in
      filter-map (λ e. is_same_key q e.0) with_cells (keys_in query.group gs)
      ∙ ap (map with_cells) (keys-at query.group gs q)
      ∙ map-there q (is_named query.group any q)

  -- at each key the answered entries of the map are those of the answer's keys
  pub listed-at : (es : List Entry) → IsStrictlySortedBy rising (keys_of es) → ((q : List Value) → lookup (is_at (rising q)) es ≡ come_to q)
      → (q : List Value) → has q (filter (λ e. is_answered query.group e.0) es) ≡ has q (map with_cells (keys_in query.group gs))
  listed-at es sorted totals q =
      let any = list_any (is_same_key q) (map (λ g. g.key) gs) in
      let started : is_some (total_at query [] q) ≡ is_only query.group q = is_some-cond (is_only query.group q) _ in
      answered-at query.group q es (is_answered query.group q) refl
      ∙ ap (λ l. cond (is_answered query.group q) l []) (entries-at q es sorted ∙ ap (λ o. entry o q) (totals q))
      ∙ named-there query.group any q (come_to q) (is_some-tally query.items q (total_at query [] q) gs ∙ ap (λ b. b || any) started)
      ∙ sym (with_cells-at q)
