-- A statement that was read within the limits keeps them when its names are resolved.
use Rattle.std.proofs.Common.{◌≡◌, ◌∙◌, ℕ, ◌+◌, ◌≤◌, nat_eq, Bool, true, false, ◌||◌, is_some, if◌then◌else◌, List, [], ◌∷◌, Option, Some, None, Ok, Err, length, All, refl, sym, ap, subst, arith}
use Rattle.std.specs.List.{AllByRecursion, list_any}
use Rattle.std.specs.Option.{option_and_then}
use Rattle.std.specs.Cmp.Lexicographic.{pointwise}
use Rattle.std.proofs.lemmas.List.Elements.{All-from_recursion, recursion_from_All}
use Rattle.gx_ids.specs.declared.ids.Table.{Table}
use Rattle.gx_tree.specs.declared.schema.Column.{Column}
use Rattle.gx_tree.specs.declared.schema.Dist.{Dist}
use Rattle.gx_tree.specs.declared.schema.Kind.{Kind}
use Rattle.gx_tree.specs.declared.schema.Kind.TheVariants as kind
use Rattle.gx_tree.specs.declared.schema.Schema.{Schema}
use Rattle.gx_tree.specs.declared.expr.Expr.{Expr}
use Rattle.gx_tree.specs.declared.cond.Cond.{Cond}
use Rattle.gx_tree.specs.declared.query.Item.{Item}
use Rattle.gx_tree.specs.declared.query.Item.TheVariants as item
use Rattle.gx_tree.specs.declared.query.Query.{Query}
use Rattle.gx_tree.specs.declared.stmt.Assign.{Assign}
use Rattle.gx_tree.specs.declared.stmt.Stmt.{Stmt}
use Rattle.gx_tree.specs.declared.stmt.Stmt.TheVariants as stmt
use Rattle.gx_grammar.specs.declared.syn.Syn.{Syn}
use Rattle.gx_lines.specs.declared.classes.Agg.{Agg}
use Rattle.gx_lines.specs.declared.classes.Agg.TheVariants as agg
use Rattle.gx_lines.specs.declared.syn.ItemSyn.{ItemSyn}
use Rattle.gx_lines.specs.declared.syn.ItemSyn.TheVariants as item_syn
use Rattle.gx_lines.specs.declared.syn.ItemsSyn.{ItemsSyn}
use Rattle.gx_lines.specs.declared.syn.ItemsSyn.TheVariants as items_syn
use Rattle.gx_lines.specs.declared.syn.SelectSyn.{SelectSyn}
use Rattle.gx_lines.specs.declared.syn.TupleSyn.{TupleSyn}
use Rattle.gx_lines.specs.declared.syn.AssignSyn.{AssignSyn}
use Rattle.gx_lines.specs.declared.syn.StmtSyn.{StmtSyn}
use Rattle.gx_lines.specs.declared.syn.StmtSyn.TheVariants as stmt_syn
use Rattle.gx_resolve.specs.declared.typed.Typed.{Typed}
use Rattle.gx_resolve.specs.declared.typed.Typed.TheVariants as typed
use Rattle.gx_resolve.specs.declared.fault.NameFault.TheVariants.{KeyUpdate}
use Rattle.gx_resolve.specs.Results.{Answer, each}
use Rattle.gx_resolve.specs.Typing.{typed_of}
use Rattle.gx_resolve.specs.Naming.{names_of, names_right}
use Rattle.gx_resolve.specs.Kinding.{column_at, value_as, cond_as, where_as, constant_as, values_as, tuple_as, assign_as}
use Rattle.gx_resolve.specs.Selecting as of
use Rattle.gx_resolve.specs.Resolving.{kinded, sets_key, key_kept, over_found, stmt_from, stmt_of, table_named, table_after}
use Rattle.gx_resolve.proofs.Keeping.{bind-ok, same_ok}
use Rattle.gx_store.specs.Limits.{is_aggregate, has_groups, IsBoundedExpr, IsBoundedTuple, IsBoundedAssign, IsBoundedWhere, IsBoundedQuery, IsBoundedStmt}
use Rattle.gx_store.specs.Language.{IsTable}
use Rattle.gx_sql.proofs.Extents.{IsKept, IsSmall}
use Rattle.gx_sql.proofs.Having.{HasOne, Maybe}
use Rattle.gx_sql.proofs.Small.{IsSmallWhere, HaveItem, IsSmallSelect, IsSmallTuple, IsSmallAssign, IsSmallStmt}

-- LISTS
each_kept : {A B : Type 0} (f : A → Answer B) (Q : A → Type 0) (P : B → Type 0) → ((x : A) (y : B) → Q x → f x ≡ Ok y → P y) → (xs : List A) (ys : List B) → AllByRecursion Q xs → each f xs ≡ Ok ys → AllByRecursion P ys
each_kept f Q P give [] ys all h = subst (AllByRecursion P) (same_ok [] ys h) tt
each_kept f Q P give (x ∷ xs) ys all h =
    let first = bind-ok (f x) _ ys h in
    let rest = bind-ok (each f xs) _ ys first.2 in
    subst (AllByRecursion P) (same_ok (first.0 ∷ rest.0) ys rest.2) (give x first.0 all.0 first.1, each_kept f Q P give xs rest.0 all.1 rest.1)

pub each-one : {A B : Type 0} (f : A → Answer B) (xs : List A) (ys : List B) → each f xs ≡ Ok ys → HasOne xs → HasOne ys
each-one f [] ys h one = absurd one
each-one f (x ∷ xs) ys h one =
    let first = bind-ok (f x) _ ys h in
    let rest = bind-ok (each f xs) _ ys first.2 in
    subst HasOne (same_ok (first.0 ∷ rest.0) ys rest.2) tt

each_any : {A B : Type 0} (f : A → Answer B) (p : A → Bool) (q : B → Bool) → ((x : A) (y : B) → f x ≡ Ok y → q y ≡ p x) → (xs : List A) (ys : List B) → each f xs ≡ Ok ys → list_any q ys ≡ list_any p xs
each_any f p q same [] ys h = ap (list_any q) (sym (same_ok [] ys h))
each_any f p q same (x ∷ xs) ys h =
    let first = bind-ok (f x) _ ys h in
    let rest = bind-ok (each f xs) _ ys first.2 in
    ap (list_any q) (sym (same_ok (first.0 ∷ rest.0) ys rest.2))
    ∙ ap (λ (b : Bool). b || list_any q rest.0) (same x first.0 first.1)
    ∙ ap (λ (b : Bool). p x || b) (each_any f p q same xs rest.0 rest.1)

pub some_long : {A : Type 0} (xs : List A) → HasOne xs → 1 ≤ length xs
some_long [] one = absurd one
some_long (x ∷ xs) one = omega arith

long_some : {A : Type 0} (xs : List A) → 1 ≤ length xs → HasOne xs
long_some [] one = absurd (omega arith)
long_some (x ∷ xs) one = tt

-- EXPRESSIONS
value_kept : (k : Kind) (t : Typed) (e : Expr) → IsKept t → value_as k t ≡ Ok e → IsBoundedExpr e
value_kept kind.Int (typed.Value kind.Int x) e h is = subst IsBoundedExpr (same_ok x e is) h
value_kept kind.Text (typed.Value kind.Text x) e h is = subst IsBoundedExpr (same_ok x e is) h
value_kept kind.Int (typed.Value kind.Text x) e h is = absurd cc
value_kept kind.Text (typed.Value kind.Int x) e h is = absurd cc
value_kept kind.Int (typed.Cond c) e h is = absurd cc
value_kept kind.Text (typed.Cond c) e h is = absurd cc
value_kept kind.Int typed.Unknown e h is = absurd cc
value_kept kind.Text typed.Unknown e h is = absurd cc
value_kept kind.Int typed.Mismatch e h is = absurd cc
value_kept kind.Text typed.Mismatch e h is = absurd cc

cond_kept : (t : Typed) (c : Cond) → IsKept t → cond_as t ≡ Ok c → IsBoundedWhere (Some c)
cond_kept (typed.Cond x) c h is = subst (λ (c : Cond). IsBoundedWhere (Some c)) (same_ok x c is) h
cond_kept (typed.Value k x) c h is = absurd cc
cond_kept typed.Unknown c h is = absurd cc
cond_kept typed.Mismatch c h is = absurd cc

where_kept : (columns : List Column) (o : Option Syn) (c : Option Cond) → IsSmallWhere o → where_as columns o ≡ Ok c → IsBoundedWhere c
where_kept columns None c h is = subst IsBoundedWhere (same_ok None c is) tt
where_kept columns (Some t) c h is =
    let found = bind-ok (cond_as (typed_of columns t)) _ c is in
    subst IsBoundedWhere (same_ok (Some found.0) c found.2) (cond_kept (typed_of columns t) found.0 (h columns) found.1)

values_kept : (columns : List Column) (vs : List Syn) (es : List Expr) → AllByRecursion IsSmall vs → values_as columns vs ≡ Ok es → AllByRecursion IsBoundedExpr es
values_kept [] [] es h is = subst (AllByRecursion IsBoundedExpr) (same_ok [] es is) tt
values_kept [] (v ∷ vs) es h is = absurd cc
values_kept (c ∷ cs) [] es h is = absurd cc
values_kept (c ∷ cs) (v ∷ vs) es h is =
    let first = bind-ok (constant_as c.kind v) _ es is in
    let rest = bind-ok (values_as cs vs) _ es first.2 in
    subst (AllByRecursion IsBoundedExpr) (same_ok (first.0 ∷ rest.0) es rest.2) (value_kept c.kind (typed_of [] v) first.0 (h.0 []) first.1, values_kept cs vs rest.0 h.1 rest.1)

tuple_kept : (columns : List Column) (t : TupleSyn) (es : List Expr) → IsSmallTuple t → tuple_as columns t ≡ Ok es → IsBoundedTuple es
tuple_kept columns t es h is = All-from_recursion IsBoundedExpr es (values_kept columns t.values es h is)

assign_kept : (columns : List Column) (a : AssignSyn) (x : Assign) → IsSmallAssign a → assign_as columns a ≡ Ok x → IsBoundedAssign x
assign_kept columns a x h is =
    let column = bind-ok (column_at columns a.column) _ x is in
    let value = bind-ok (value_as column.0.1 (typed_of columns a.value)) _ x column.2 in
    subst IsBoundedAssign (same_ok (record { col = column.0.0; expr = value.0 }) x value.2) (value_kept column.0.1 (typed_of columns a.value) value.0 (h columns) value.1)

-- QUERIES
agg_same : (a : Agg) (place : ℕ) (k : Kind) (y : Item) → of.agg_as a place k ≡ Ok y → is_aggregate y ≡ true
agg_same agg.Sum place kind.Int y h = ap is_aggregate (sym (same_ok (item.Sum place) y h))
agg_same agg.Sum place kind.Text y h = absurd cc
agg_same agg.Min place k y h = ap is_aggregate (sym (same_ok (item.Min place) y h))
agg_same agg.Max place k y h = ap is_aggregate (sym (same_ok (item.Max place) y h))

item_same : (columns : List Column) (x : ItemSyn) (y : Item) → of.item_as columns x ≡ Ok y → is_aggregate y ≡ of.is_aggregate x
item_same columns (item_syn.Column name) y h =
    let column = bind-ok (column_at columns name) _ y h in
    ap is_aggregate (sym (same_ok (item.Col column.0.0) y column.2))
item_same columns item_syn.Count y h = ap is_aggregate (sym (same_ok item.Count y h))
item_same columns (item_syn.Agg a name) y h =
    let column = bind-ok (column_at columns name) _ y h in
    agg_same a column.0.0 column.0.1 y column.2

columns_plain : (place : ℕ) (columns : List Column) → list_any is_aggregate (of.columns_from place columns) ≡ false
columns_plain place [] = refl
columns_plain place (c ∷ cs) = columns_plain (place + 1) cs

columns_some : (place : ℕ) (columns : List Column) → HasOne columns → HasOne (of.columns_from place columns)
columns_some place [] one = one
columns_some place (c ∷ cs) one = tt

items_same : (columns : List Column) (i : ItemsSyn) (ys : List Item) → of.items_as columns i ≡ Ok ys → list_any is_aggregate ys ≡ of.has_aggregate i
items_same columns items_syn.All ys h = ap (list_any is_aggregate) (sym (same_ok (of.columns_from 0 columns) ys h)) ∙ columns_plain 0 columns
items_same columns (items_syn.These xs) ys h = each_any (of.item_as columns) of.is_aggregate is_aggregate (item_same columns) xs ys h

items_some : (columns : List Column) (i : ItemsSyn) (ys : List Item) → HasOne columns → HaveItem i → of.items_as columns i ≡ Ok ys → HasOne ys
items_some columns items_syn.All ys some one h = subst HasOne (same_ok (of.columns_from 0 columns) ys h) (columns_some 0 columns some)
items_some columns (items_syn.These xs) ys some one h = each-one (of.item_as columns) xs ys h one

or_true : (b : Bool) → (b || true) ≡ true
or_true true = refl
or_true false = refl

or_false : (b : Bool) → (b || false) ≡ b
or_false true = refl
or_false false = refl

groups_one : (group : List ℕ) (items : List Item) → HasOne group → has_groups group items ≡ true
groups_one [] items one = absurd one
groups_one (c ∷ cs) items one = refl

group_same : (columns : List Column) (o : Option (List (List ℕ))) (group : List ℕ) (items : List Item) (b : Bool) → Maybe HasOne o → of.group_as columns o ≡ Ok group → list_any is_aggregate items ≡ b → (b || is_some o) ≡ has_groups group items
group_same columns None group items b one h is =
    or_false b ∙ sym is ∙ ap (λ (group : List ℕ). has_groups group items) (same_ok [] group h)
group_same columns (Some names) group items b one h is = or_true b ∙ sym (groups_one group items (each-one (of.name_as columns) names group h one))

query_kept : (table : Table) (columns : List Column) (s : SelectSyn) (q : Query) → HasOne columns → IsSmallSelect s → of.query_as table columns s ≡ Ok q → IsBoundedQuery q
query_kept table columns s q some h is =
    let items = bind-ok (of.items_as columns s.items) _ q is in
    let group = bind-ok (of.group_as columns s.group) _ q items.2 in
    let order = bind-ok (of.order_as columns s.order) _ q group.2 in
    let limit = bind-ok (of.limit_as s.limit) _ q order.2 in
    let kept = bind-ok (of.groups_kept (of.keeps_groups s items.0 group.0 order.0)) _ q limit.2 in
    let cond = bind-ok (where_as columns s.cond) _ q kept.2 in
    let whole : Query = record { table = table; items = items.0; cond = cond.0; group = group.0; grouped = of.is_grouped s; order = order.0; limit = limit.0 } in
    subst IsBoundedQuery (same_ok whole q cond.2) (record {
      items = some_long items.0 (items_some columns s.items items.0 some h.0 items.1);
      grouped = group_same columns s.group group.0 items.0 (of.has_aggregate s.items) h.2 group.1 (items_same columns s.items items.0 items.1);
      cond = where_kept columns s.cond cond.0 h.1 cond.1;
    })

-- STATEMENTS
kinded_kept : (table : Table) (columns : List Column) (written : StmtSyn) (r : Stmt) → HasOne columns → IsSmallStmt written → kinded table columns written ≡ Ok r → IsBoundedStmt r
kinded_kept table columns (stmt_syn.Begin level) r some h is = subst IsBoundedStmt (same_ok (stmt.Begin level) r is) tt
kinded_kept table columns stmt_syn.Commit r some h is = subst IsBoundedStmt (same_ok stmt.Commit r is) tt
kinded_kept table columns stmt_syn.Rollback r some h is = subst IsBoundedStmt (same_ok stmt.Rollback r is) tt
kinded_kept table columns (stmt_syn.Select select) r some h is =
    let query = bind-ok (of.query_as table columns select) _ r is in
    subst IsBoundedStmt (same_ok (stmt.Select query.0) r query.2) (query_kept table columns select query.0 some h query.1)
kinded_kept table columns (stmt_syn.Insert name tuples) r some h is =
    let rows = bind-ok (each (tuple_as columns) tuples) _ r is in
    subst IsBoundedStmt (same_ok (stmt.Insert table rows.0) r rows.2) (
      some_long rows.0 (each-one (tuple_as columns) tuples rows.0 rows.1 h.0),
      All-from_recursion IsBoundedTuple rows.0 (each_kept (tuple_as columns) IsSmallTuple IsBoundedTuple (tuple_kept columns) tuples rows.0 h.1 rows.1),
    )
kinded_kept table columns (stmt_syn.Update name assigns cond) r some h is =
    let set = bind-ok (each (assign_as columns) assigns) _ r is in
    let found = bind-ok (where_as columns cond) _ r set.2 in
    subst IsBoundedStmt (same_ok (stmt.Update table set.0 found.0) r found.2) (
      some_long set.0 (each-one (assign_as columns) assigns set.0 set.1 h.0.0),
      All-from_recursion IsBoundedAssign set.0 (each_kept (assign_as columns) IsSmallAssign IsBoundedAssign (assign_kept columns) assigns set.0 h.0.1 set.1),
      where_kept columns cond found.0 h.1 found.1,
    )
kinded_kept table columns (stmt_syn.Delete name cond) r some h is =
    let found = bind-ok (where_as columns cond) _ r is in
    subst IsBoundedStmt (same_ok (stmt.Delete table found.0) r found.2) (where_kept columns cond found.0 h found.1)
kinded_kept table columns (stmt_syn.Lock name mode) r some h is = subst IsBoundedStmt (same_ok (stmt.Lock table mode) r is) tt

kept_same : (d : Dist) (r s : Stmt) → key_kept d r ≡ Ok s → r ≡ s
kept_same d r s h = by_test (sets_key d r) h
  where
    by_test : (b : Bool) → (if b then Err KeyUpdate else Ok r) ≡ Ok s → r ≡ s
    by_test true e = absurd cc
    by_test false e = same_ok r s e

-- a table that is found has a column
abbrev HasColumns : Option (Table × Schema) → Type 0
HasColumns None = Unit {0}
HasColumns (Some found) = HasOne found.1.columns

over_kept : (found : Option (Table × Schema)) (written : StmtSyn) (s : Stmt) → HasColumns found → IsSmallStmt written → over_found found written ≡ Ok s → IsBoundedStmt s
over_kept None written s some h is = absurd cc
over_kept (Some (table, schema)) written s some h is =
    let names = bind-ok (names_right schema.columns [] (names_of written)) _ s is in
    let r = bind-ok (kinded table schema.columns written) _ s names.2 in
    subst IsBoundedStmt (kept_same schema.dist r.0 s r.2) (kinded_kept table schema.columns written r.0 some h r.1)

from_kept : (found : Option (Table × Schema)) (written : StmtSyn) (s : Stmt) → HasColumns found → IsSmallStmt written → stmt_from found written ≡ Ok s → IsBoundedStmt s
from_kept found (stmt_syn.Begin level) s some h is = subst IsBoundedStmt (same_ok (stmt.Begin level) s is) tt
from_kept found stmt_syn.Commit s some h is = subst IsBoundedStmt (same_ok stmt.Commit s is) tt
from_kept found stmt_syn.Rollback s some h is = subst IsBoundedStmt (same_ok stmt.Rollback s is) tt
from_kept found (stmt_syn.Select select) s some h is = over_kept found (stmt_syn.Select select) s some h is
from_kept found (stmt_syn.Insert name tuples) s some h is = over_kept found (stmt_syn.Insert name tuples) s some h is
from_kept found (stmt_syn.Update name set cond) s some h is = over_kept found (stmt_syn.Update name set cond) s some h is
from_kept found (stmt_syn.Delete name cond) s some h is = over_kept found (stmt_syn.Delete name cond) s some h is
from_kept found (stmt_syn.Lock name mode) s some h is = over_kept found (stmt_syn.Lock name mode) s some h is

found_columns : (place : ℕ) (name : List ℕ) (tables : List Schema) → AllByRecursion IsTable tables → HasColumns (table_after place name tables)
found_columns place name [] all = tt
found_columns place name (t ∷ ts) all = pick (pointwise nat_eq t.name name) (found_columns (place + 1) name ts all.1)
  where
    pick : (b : Bool) → HasColumns (table_after (place + 1) name ts) → HasColumns (if b then Some (record { 0 = place }, t) else table_after (place + 1) name ts)
    pick true rest = long_some t.columns all.0.schema.some
    pick false rest = rest

named_columns : (named : Option (List ℕ)) (tables : List Schema) → AllByRecursion IsTable tables → HasColumns (option_and_then (λ (name : List ℕ). table_after 0 name tables) named)
named_columns None tables all = tt
named_columns (Some name) tables all = found_columns 0 name tables all

pub stmt_kept : (tables : List Schema) (written : StmtSyn) (s : Stmt) → All IsTable tables → IsSmallStmt written → stmt_of tables written ≡ Ok s → IsBoundedStmt s
stmt_kept tables written s are h is =
    from_kept (option_and_then (λ (name : List ℕ). table_after 0 name tables) (table_named written)) written s (named_columns (table_named written) tables (recursion_from_All IsTable tables are)) h is
