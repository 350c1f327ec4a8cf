-- What is resolved keeps the rules.
use Rattle.std.proofs.Common.{ℕ, ◌≡◌, ◌∙◌, ◌+◌, ◌≤◌, inl, inr, sym, ap, refl, subst, arith, List, [], ◌∷◌, length, map, Option, Some, None, Ok, Err, Bool, true, false, not, ◌==◌, ◌&&◌, ◌||◌, is_some, is_none, ok_or, All}
use Rattle.std.specs.List.{AllByRecursion, list_any, list_all}
use Rattle.std.proofs.lemmas.Bool.Decides.{nat_tests}
use Rattle.std.proofs.lemmas.List.Elements.{All-from_recursion}
use Rattle.std.proofs.lemmas.Option.{slice_get_within}
use Rattle.gx_ids.specs.declared.ids.Table.{Table}
use Rattle.gx_tree.specs.declared.schema.Column.{Column}
use Rattle.gx_tree.specs.declared.schema.Kind.{Kind}
use Rattle.gx_tree.specs.declared.schema.Kind.TheVariants as kind
use Rattle.gx_tree.specs.declared.expr.Expr.{Expr}
use Rattle.gx_tree.specs.declared.cond.Cond.{Cond}
use Rattle.gx_tree.specs.declared.query.Item.{Item}
use Rattle.gx_tree.specs.declared.query.Item.TheVariants as item
use Rattle.gx_tree.specs.declared.query.Key.{Key}
use Rattle.gx_tree.specs.declared.query.Query.{Query}
use Rattle.gx_tree.specs.declared.stmt.Assign.{Assign}
use Rattle.gx_grammar.specs.declared.syn.Syn.{Syn}
use Rattle.gx_lines.specs.declared.classes.Agg.{Agg}
use Rattle.gx_lines.specs.declared.classes.Agg.TheVariants as agg
use Rattle.gx_lines.specs.declared.syn.ItemSyn.{ItemSyn}
use Rattle.gx_lines.specs.declared.syn.ItemSyn.TheVariants as item_syn
use Rattle.gx_lines.specs.declared.syn.ItemsSyn.{ItemsSyn}
use Rattle.gx_lines.specs.declared.syn.ItemsSyn.TheVariants as items_syn
use Rattle.gx_lines.specs.declared.syn.KeySyn.{KeySyn}
use Rattle.gx_lines.specs.declared.syn.SelectSyn.{SelectSyn}
use Rattle.gx_lines.specs.declared.syn.TupleSyn.{TupleSyn}
use Rattle.gx_lines.specs.declared.syn.AssignSyn.{AssignSyn}
use Rattle.gx_resolve.specs.Columns.{column_of}
use Rattle.gx_resolve.specs.Typing.{typed_of}
use Rattle.gx_resolve.specs.declared.typed.Typed.{Typed}
use Rattle.gx_resolve.specs.declared.typed.Typed.TheVariants as typed
use Rattle.gx_meaning.specs.Kinds.{kind_of, is_typed}
use Rattle.gx_resolve.specs.declared.fault.NameFault.TheVariants.{UnknownColumn}
use Rattle.gx_resolve.specs.Results.{Answer, ◌>>=◌, each}
use Rattle.gx_resolve.specs.Kinding.{column_at, value_as, cond_as, where_as, constant_as, values_as, tuple_as, assign_as}
use Rattle.gx_resolve.specs.Selecting.{agg_as, item_as, columns_from, items_as, name_as, group_as, key_as, order_as, limit_as, is_aggregate, has_aggregate, is_grouped, is_listed, is_in, is_group_item, is_group_key, are_group_parts, keeps_groups, groups_kept, query_as}
use Rattle.gx_meaning.specs.Statements.{column_kinds, IsColumn, HasColumn, HasKind, IsCond, IsItem, IsPlain, IsGroupItem, IsGroupKey, IsKey, KeepsGroups, IsQuery, IsTuple, IsOneOf}
use Rattle.gx_resolve.proofs.Fitting.{Stands, stands, has_column, Fits, typed_fits}

pub bind-ok : {A B : Type 0} (answer : Answer A) (next : A → Answer B) (b : B) → (answer >>= next) ≡ Ok b → (a : A) × (answer ≡ Ok a) × (next a ≡ Ok b)
bind-ok (Ok a) next b h = (a, refl, h)
bind-ok (Err e) next b h = cc

pub same_ok : {A : Type 0} (a b : A) → ◌≡◌ {A = Answer A} (Ok a) (Ok b) → a ≡ b
same_ok a b h = cc

each_all : {A B : Type 0} (f : A → Answer B) (P : B → Type 0) → ((x : A) (y : B) → f x ≡ Ok y → P y) → (xs : List A) (ys : List B) → each f xs ≡ Ok ys → AllByRecursion P ys
each_all f P give [] ys h = subst (AllByRecursion P) (same_ok [] ys h) tt
each_all f P give (x ∷ xs) ys h =
    let first = bind-ok (f x) _ ys h in
    let rest = bind-ok (each f xs) _ ys first.2 in
    subst (AllByRecursion P) (same_ok (first.0 ∷ rest.0) ys rest.2) (give x first.0 first.1, each_all f P give xs rest.0 rest.1)

pub each-all : {A B : Type 0} (f : A → Answer B) (P : B → Type 0) → ((x : A) (y : B) → f x ≡ Ok y → P y) → (xs : List A) (ys : List B) → each f xs ≡ Ok ys → All P ys
each-all f P give xs ys h = All-from_recursion P ys (each_all f P give xs ys h)

-- COLUMNS
found_column : (found : Option (ℕ × Kind)) (c : ℕ × Kind) → ok_or found UnknownColumn ≡ Ok c → found ≡ Some c
found_column None c h = cc
found_column (Some d) c h = cc

pub column_is : (columns : List Column) (name : List ℕ) (c : ℕ × Kind) → column_at columns name ≡ Ok c → column_of name columns ≡ Some c
column_is columns name c h = found_column (column_of name columns) c h

pub column_stands : (columns : List Column) (name : List ℕ) (c : ℕ × Kind) → column_at columns name ≡ Ok c → Stands columns c.0 name c.1
column_stands columns name c h = stands columns name c (column_is columns name c h)

column_has : (columns : List Column) (name : List ℕ) (c : ℕ × Kind) → column_at columns name ≡ Ok c → HasColumn columns c.0 c.1
column_has columns name c h = has_column columns name c (column_is columns name c h)

pub column_within : (columns : List Column) (name : List ℕ) (c : ℕ × Kind) → column_at columns name ≡ Ok c → IsColumn columns c.0
column_within columns name c h = let s = column_stands columns name c h in slice_get_within columns c.0 s.column s.at

-- VALUES AND CONDITIONS
value_fits : (columns : List Column) (k : Kind) (t : Typed) (e : Expr) → value_as k t ≡ Ok e → Fits columns t → HasKind columns e k
value_fits columns kind.Int (typed.Value kind.Int d) e h fits = subst (λ x. HasKind columns x kind.Int) (same_ok d e h) fits
value_fits columns kind.Text (typed.Value kind.Text d) e h fits = subst (λ x. HasKind columns x kind.Text) (same_ok d e h) fits
value_fits columns kind.Int (typed.Value kind.Text d) e h fits = cc
value_fits columns kind.Text (typed.Value kind.Int d) e h fits = cc
value_fits columns kind.Int (typed.Cond c) e h fits = cc
value_fits columns kind.Text (typed.Cond c) e h fits = cc
value_fits columns kind.Int typed.Unknown e h fits = cc
value_fits columns kind.Text typed.Unknown e h fits = cc
value_fits columns kind.Int typed.Mismatch e h fits = cc
value_fits columns kind.Text typed.Mismatch e h fits = cc

cond_fits : (columns : List Column) (t : Typed) (c : Cond) → cond_as t ≡ Ok c → Fits columns t → is_typed (column_kinds columns) c ≡ true
cond_fits columns (typed.Cond d) c h fits = subst (λ x. is_typed (column_kinds columns) x ≡ true) (same_ok d c h) fits
cond_fits columns (typed.Value k e) c h fits = cc
cond_fits columns typed.Unknown c h fits = cc
cond_fits columns typed.Mismatch c h fits = cc

pub where-cond : (columns : List Column) (written : Option Syn) (cond : Option Cond) → where_as columns written ≡ Ok cond → IsCond columns cond
where-cond columns None cond h = subst (IsCond columns) (same_ok None cond h) tt
where-cond columns (Some syn) cond h =
    let found = bind-ok (cond_as (typed_of columns syn)) _ cond h in
    subst (IsCond columns) (same_ok (Some found.0) cond found.2) (cond_fits columns (typed_of columns syn) found.0 found.1 (typed_fits columns syn))

-- an assignment keeps the rules, and its place is that of its name
pub assign-keeps : (columns : List Column) (written : AssignSyn) (a : Assign) → assign_as columns written ≡ Ok a → (k : Kind) × Stands columns a.col written.column k × HasColumn columns a.col k × HasKind columns a.expr k
assign-keeps columns written a h =
    let c = bind-ok (column_at columns written.column) _ a h in
    let e = bind-ok (value_as c.0.1 (typed_of columns written.value)) _ a c.2 in
    subst (λ b. (k : Kind) × Stands columns b.col written.column k × HasColumn columns b.col k × HasKind columns b.expr k) (same_ok _ a e.2) (
      c.0.1,
      column_stands columns written.column c.0 c.1,
      column_has columns written.column c.0 c.1,
      value_fits columns c.0.1 (typed_of columns written.value) e.0 e.1 (typed_fits columns written.value),
    )

values-keep : (columns : List Column) (values : List Syn) (tuple : List Expr) → values_as columns values ≡ Ok tuple → IsTuple columns tuple
values-keep [] [] tuple h = subst (IsTuple []) (same_ok [] tuple h) refl
values-keep [] (v ∷ vs) tuple h = cc
values-keep (c ∷ cs) [] tuple h = cc
values-keep (c ∷ cs) (v ∷ vs) tuple h =
    let first = bind-ok (constant_as c.kind v) _ tuple h in
    let rest = bind-ok (values_as cs vs) _ tuple first.2 in
    let here : kind_of [] first.0 ≡ Some c.kind = value_fits [] c.kind (typed_of [] v) first.0 first.1 (typed_fits [] v) in
    subst (IsTuple (c ∷ cs)) (same_ok (first.0 ∷ rest.0) tuple rest.2) (ap (λ k. k ∷ map (kind_of []) rest.0) here ∙ ap (λ l. Some c.kind ∷ l) (values-keep cs vs rest.0 rest.1))

pub tuples-keep : (columns : List Column) (written : List TupleSyn) (tuples : List (List Expr)) → each (tuple_as columns) written ≡ Ok tuples → All (IsTuple columns) tuples
tuples-keep columns written tuples h = each-all (tuple_as columns) (IsTuple columns) (λ t tuple e. values-keep columns t.values tuple e) written tuples h

-- ITEMS AND KEYS
agg-keeps : (columns : List Column) (a : Agg) (place : ℕ) (k : Kind) (i : Item) → HasColumn columns place k → IsColumn columns place → agg_as a place k ≡ Ok i → IsItem columns i
agg-keeps columns agg.Sum place kind.Int i has within h = subst (IsItem columns) (same_ok (item.Sum place) i h) has
agg-keeps columns agg.Sum place kind.Text i has within h = cc
agg-keeps columns agg.Min place k i has within h = subst (IsItem columns) (same_ok (item.Min place) i h) within
agg-keeps columns agg.Max place k i has within h = subst (IsItem columns) (same_ok (item.Max place) i h) within

item-keeps : (columns : List Column) (written : ItemSyn) (i : Item) → item_as columns written ≡ Ok i → IsItem columns i
item-keeps columns (item_syn.Column name) i h =
    let c = bind-ok (column_at columns name) _ i h in
    subst (IsItem columns) (same_ok (item.Col c.0.0) i c.2) (column_within columns name c.0 c.1)
item-keeps columns item_syn.Count i h = subst (IsItem columns) (same_ok item.Count i h) tt
item-keeps columns (item_syn.Agg a name) i h =
    let c = bind-ok (column_at columns name) _ i h in
    agg-keeps columns a c.0.0 c.0.1 i (column_has columns name c.0 c.1) (column_within columns name c.0 c.1) c.2

all-columns : (columns : List Column) (from : ℕ) (cs : List Column) → from + length cs ≤ length columns → AllByRecursion (IsItem columns) (columns_from from cs)
all-columns columns from [] h = tt
all-columns columns from (c ∷ cs) h = (omega (arith, h), all-columns columns (from + 1) cs (omega (arith, h)))

items-keep : (columns : List Column) (written : ItemsSyn) (items : List Item) → items_as columns written ≡ Ok items → All (IsItem columns) items
items-keep columns items_syn.All items h = All-from_recursion (IsItem columns) items (subst (AllByRecursion (IsItem columns)) (same_ok (columns_from 0 columns) items h) (all-columns columns 0 columns (omega arith)))
items-keep columns (items_syn.These list) items h = each-all (item_as columns) (IsItem columns) (item-keeps columns) list items h

name-keeps : (columns : List Column) (name : List ℕ) (place : ℕ) → name_as columns name ≡ Ok place → IsColumn columns place
name-keeps columns name place h =
    let c = bind-ok (column_at columns name) _ place h in
    subst (IsColumn columns) (same_ok c.0.0 place c.2) (column_within columns name c.0 c.1)

group-keeps : (columns : List Column) (written : Option (List (List ℕ))) (group : List ℕ) → group_as columns written ≡ Ok group → All (IsColumn columns) group
group-keeps columns None group h = All-from_recursion (IsColumn columns) group (subst (AllByRecursion (IsColumn columns)) (same_ok [] group h) tt)
group-keeps columns (Some names) group h = each-all (name_as columns) (IsColumn columns) (name-keeps columns) names group h

key-keeps : (columns : List Column) (written : KeySyn) (key : Key) → key_as columns written ≡ Ok key → IsKey columns key
key-keeps columns written key h =
    let c = bind-ok (column_at columns written.column) _ key h in
    subst (IsKey columns) (same_ok _ key c.2) (column_within columns written.column c.0 c.1)

order-keeps : (columns : List Column) (written : Option (List KeySyn)) (order : List Key) → order_as columns written ≡ Ok order → All (IsKey columns) order
order-keeps columns None order h = All-from_recursion (IsKey columns) order (subst (AllByRecursion (IsKey columns)) (same_ok [] order h) tt)
order-keeps columns (Some keys) order h = each-all (key_as columns) (IsKey columns) (key-keeps columns) keys order h

-- GROUPS
one_of : (places : List ℕ) (place : ℕ) → is_in places place ≡ true → IsOneOf place places
one_of [] place h = cc
one_of (p ∷ ps) place h = by_test (p == place) refl h (one_of ps place) where
  by_test : (b : Bool) → (p == place) ≡ b → (b || is_in ps place) ≡ true → (is_in ps place ≡ true → IsOneOf place ps) → IsOneOf place (p ∷ ps)
  by_test true e t rest = inl (grind (arith, nat_tests))
  by_test false e t rest = inr (rest t)

pub both-true : (a b : Bool) → (a && b) ≡ true → (a ≡ true) × (b ≡ true)
both-true true true h = (refl, refl)
both-true true false h = cc
both-true false b h = cc

pub either-false : (a b : Bool) → (a || b) ≡ false → (a ≡ false) × (b ≡ false)
either-false false false h = (refl, refl)
either-false false true h = cc
either-false true b h = cc

all_pass : {A : Type 0} (test : A → Bool) (P : A → Type 0) → ((x : A) → test x ≡ true → P x) → (xs : List A) → list_all test xs ≡ true → AllByRecursion P xs
all_pass test P give [] h = tt
all_pass test P give (x ∷ xs) h = let both = both-true (test x) (list_all test xs) h in (give x both.0, all_pass test P give xs both.1)

group_item : (group : List ℕ) (i : Item) → is_group_item group i ≡ true → IsGroupItem group i
group_item group (item.Col place) h = one_of group place h
group_item group item.Count h = tt
group_item group (item.Sum place) h = tt
group_item group (item.Min place) h = tt
group_item group (item.Max place) h = tt

plain_item : (columns : List Column) (written : ItemSyn) (i : Item) → is_aggregate written ≡ false → item_as columns written ≡ Ok i → IsPlain i
plain_item columns (item_syn.Column name) i plain h = let c = bind-ok (column_at columns name) _ i h in subst IsPlain (same_ok (item.Col c.0.0) i c.2) tt
plain_item columns item_syn.Count i plain h = cc
plain_item columns (item_syn.Agg a name) i plain h = cc

plain_list : (columns : List Column) (written : List ItemSyn) (items : List Item) → list_any is_aggregate written ≡ false → each (item_as columns) written ≡ Ok items → AllByRecursion IsPlain items
plain_list columns [] items plain h = subst (AllByRecursion IsPlain) (same_ok [] items h) tt
plain_list columns (x ∷ xs) items plain h =
    let none = either-false (is_aggregate x) (list_any is_aggregate xs) plain in
    let first = bind-ok (item_as columns x) _ items h in
    let rest = bind-ok (each (item_as columns) xs) _ items first.2 in
    subst (AllByRecursion IsPlain) (same_ok (first.0 ∷ rest.0) items rest.2) (plain_item columns x first.0 none.0 first.1, plain_list columns xs rest.0 none.1 rest.1)

plain_columns : (from : ℕ) (cs : List Column) → AllByRecursion IsPlain (columns_from from cs)
plain_columns from [] = tt
plain_columns from (c ∷ cs) = (tt, plain_columns (from + 1) cs)

plain_items : (columns : List Column) (written : ItemsSyn) (items : List Item) → has_aggregate written ≡ false → items_as columns written ≡ Ok items → AllByRecursion IsPlain items
plain_items columns items_syn.All items plain h = subst (AllByRecursion IsPlain) (same_ok (columns_from 0 columns) items h) (plain_columns 0 columns)
plain_items columns (items_syn.These list) items plain h = plain_list columns list items plain h

no_group : (columns : List Column) (written : Option (List (List ℕ))) (group : List ℕ) → is_some written ≡ false → group_as columns written ≡ Ok group → group ≡ []
no_group columns None group none h = sym (same_ok [] group h)
no_group columns (Some names) group none h = cc

groups-keep : (columns : List Column) (s : SelectSyn) (items : List Item) (group : List ℕ) (order : List Key) (grouped : Bool) → is_grouped s ≡ grouped → items_as columns s.items ≡ Ok items → group_as columns s.group ≡ Ok group
    → (not grouped || are_group_parts s items group order) ≡ true → KeepsGroups grouped items group order
groups-keep columns s items group order true g i o kept =
    let parts = both-true (is_listed s.items && list_all (is_group_item group) items && list_all (is_group_key group) order) (is_some s.group || is_none s.order) kept in
    let lists = both-true (is_listed s.items && list_all (is_group_item group) items) (list_all (is_group_key group) order) parts.0 in
    let listed = both-true (is_listed s.items) (list_all (is_group_item group) items) lists.0 in (
      All-from_recursion (IsGroupItem group) items (all_pass (is_group_item group) (IsGroupItem group) (group_item group) items listed.1),
      All-from_recursion (IsGroupKey group) order (all_pass (is_group_key group) (IsGroupKey group) (λ key t. one_of group key.col t) order lists.1),
    )
groups-keep columns s items group order false g i o kept =
    let none = either-false (has_aggregate s.items) (is_some s.group) g in (All-from_recursion IsPlain items (plain_items columns s.items items none.0 i), no_group columns s.group group none.1 o)

was_kept : (kept : Bool) (u : Unit {0}) → groups_kept kept ≡ Ok u → kept ≡ true
was_kept true u h = refl
was_kept false u h = cc

pub query-keeps : (table : Table) (columns : List Column) (s : SelectSyn) (q : Query) → query_as table columns s ≡ Ok q → (q.table ≡ table) × IsQuery columns q
query-keeps table columns s q h =
    let items = bind-ok (items_as columns s.items) _ q h in
    let group = bind-ok (group_as columns s.group) _ q items.2 in
    let order = bind-ok (order_as columns s.order) _ q group.2 in
    let limit = bind-ok (limit_as s.limit) _ q order.2 in
    let kept = bind-ok (groups_kept (keeps_groups s items.0 group.0 order.0)) _ q limit.2 in
    let cond = bind-ok (where_as columns s.cond) _ q kept.2 in
    subst (λ r. (r.table ≡ table) × IsQuery columns r) (same_ok _ q cond.2) (
      refl,
      record {
        items = items-keep columns s.items items.0 items.1;
        cond = where-cond columns s.cond cond.0 cond.1;
        group = group-keeps columns s.group group.0 group.1;
        order = order-keeps columns s.order order.0 order.1;
        groups = groups-keep columns s items.0 group.0 order.0 (is_grouped s) refl items.1 group.1 (was_kept _ kept.0 kept.1);
      },
    )
