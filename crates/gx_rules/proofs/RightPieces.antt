-- Each piece of a plan is right for the script, where the statement keeps the language.
use Rattle.std.proofs.Common.{◌≡◌, ◌∙◌, ◌≤◌, ◌<◌, ◌&&◌, ◌||◌, ◌==◌, inl, inr, ℕ, ◌+◌, zero, suc, Bool, true, false, not, is_some, if◌then◌else◌, List, [], ◌∷◌, ◌++◌, Option, Some, None, Result, Ok, Err, ap, refl, sym, subst, arith, length, slice_get}
use Rattle.std.proofs.lemmas.Bool.{and_from, or_left, or_right}
use Rattle.std.proofs.lemmas.Bool.Decides.{nat_tests}
use Rattle.std.proofs.lemmas.List.{length-map}
use Rattle.std.proofs.lemmas.List.Elements.{All-from_recursion, recursion_from_All}
use Rattle.std.specs.List.{All, AllByRecursion, flat_map, list_all, list_any}
use Rattle.std.specs.Prelude.{filter, map}
use Rattle.gx_ids.specs.declared.ids.Cid.{Cid}
use Rattle.gx_ids.specs.declared.ids.Gxid.{Gxid}
use Rattle.gx_ids.specs.declared.ids.Node.{Node}
use Rattle.gx_ids.specs.declared.ids.Table.{Table}
use Rattle.gx_tree.specs.declared.cond.Cond.{Cond}
use Rattle.gx_tree.specs.declared.expr.Expr.{Expr}
use Rattle.gx_tree.specs.declared.query.Item.{Item}
use Rattle.gx_tree.specs.declared.query.Item.TheVariants.{Col, Count, Sum, Min, Max}
use Rattle.gx_tree.specs.declared.query.Key.{Key}
use Rattle.gx_tree.specs.declared.query.Query.{Query}
use Rattle.gx_tree.specs.declared.row.KeyedRow.{KeyedRow}
use Rattle.gx_tree.specs.declared.schema.Column.{Column}
use Rattle.gx_tree.specs.declared.schema.Dist.{Dist}
use Rattle.gx_tree.specs.declared.schema.Kind.{Kind}
use Rattle.gx_tree.specs.declared.schema.Kind.TheVariants as kind
use Rattle.gx_tree.specs.declared.schema.Schema.{Schema}
use Rattle.gx_tree.specs.declared.slice.Slice.{Slice}
use Rattle.gx_tree.specs.declared.slice.Slice.TheVariants as slice
use Rattle.gx_tree.specs.declared.stmt.Assign.{Assign}
use Rattle.gx_tree.specs.declared.stmt.Stmt.{Stmt}
use Rattle.gx_tree.specs.declared.stmt.Stmt.TheVariants as stmt
use Rattle.gx_tree.specs.declared.value.Value.{Value}
use Rattle.gx_meaning.specs.Constants.{constant, each_from, rows_of, tuple_row, values_of}
use Rattle.gx_meaning.specs.Expressions.{and_then, value_of}
use Rattle.gx_meaning.specs.Kinds.{kind_of, value_kind}
use Rattle.gx_meaning.specs.Plan.{insert_pieces, nodes_from, nodes_of, piece, pieces, plan_of, row_pieces, rows_at}
use Rattle.gx_meaning.specs.Place.{row_place}
use Rattle.gx_meaning.specs.Statements.{IsAssign, IsAt, IsColumn, IsCond, IsGroupItem, IsGroupKey, IsItem, IsKey, IsOneOf, IsPlain, IsQuery, IsStmtOf, IsTuple, KeepsGroups, column_kind, column_kinds}
use Rattle.gx_meaning.specs.Target.{target_of}
use Rattle.gx_meaning.specs.declared.fault.ArithFault.{ArithFault}
use Rattle.gx_meaning.specs.declared.piece.Piece.{Piece}
use Rattle.gx_meaning.specs.declared.target.Target.{Target}
use Rattle.gx_meaning.specs.declared.target.Target.TheVariants.{All as AllOfThem}
use Rattle.gx_script.specs.declared.Script.{Script}
use Rattle.gx_store.specs.Whole.{HasItem}
use Rattle.gx_rules.specs.Fits.{is_aggregate, is_among, is_grouping, is_kind, is_rid_of, is_right_assign, is_right_cond, is_right_item, is_right_key, is_right_kind, is_right_on, is_right_query, is_right_row, is_right_slice, is_same_kind, is_same_truth, kinds_in}
use Rattle.gx_rules.proofs.ValueKinds.{kind-value}

-- LISTS
all-true : {A : Type 0} (p : A → Bool) (P : A → Type 0) → ((x : A) → P x → p x ≡ true) → (xs : List A) → AllByRecursion P xs → list_all p xs ≡ true
all-true p P f [] e = refl
all-true p P f (x ∷ xs) e = and_from (p x) (list_all p xs) (f x e.0) (all-true p P f xs e.1)

all-both : {A : Type 0} (P Q : A → Type 0) (xs : List A) → AllByRecursion P xs → AllByRecursion Q xs → AllByRecursion (λ x. P x × Q x) xs
all-both P Q [] e f = tt
all-both P Q (x ∷ xs) e f = ((e.0, f.0), all-both P Q xs e.1 f.1)

all-filter : {A : Type 0} (P : A → Type 0) (p : A → Bool) (xs : List A) → AllByRecursion P xs → AllByRecursion P (filter p xs)
all-filter P p [] e = tt
all-filter P p (x ∷ xs) e = by_test (p x) (all-filter P p xs e.1)
  where
    by_test : (b : Bool) → AllByRecursion P (filter p xs) → AllByRecursion P (if b then x ∷ filter p xs else filter p xs)
    by_test true more = (e.0, more)
    by_test false more = more

all-append : {A : Type 0} (P : A → Type 0) (xs ys : List A) → AllByRecursion P xs → AllByRecursion P ys → AllByRecursion P (xs ++ ys)
all-append P [] ys e f = f
all-append P (x ∷ xs) ys e f = (e.0, all-append P xs ys e.1 f)

all-flat : {A B : Type 0} (P : B → Type 0) (f : A → List B) → ((x : A) → AllByRecursion P (f x)) → (xs : List A) → AllByRecursion P (flat_map f xs)
all-flat P f each [] = tt
all-flat P f each (x ∷ xs) = all-append P (f x) (flat_map f xs) (each x) (all-flat P f each xs)

all-map : {A B : Type 0} (P : B → Type 0) (f : A → B) → ((x : A) → P (f x)) → (xs : List A) → AllByRecursion P (map f xs)
all-map P f each [] = tt
all-map P f each (x ∷ xs) = (each x, all-map P f each xs)

-- COLUMNS
there : (kinds : List Kind) (place : ℕ) → place < length kinds → is_some (slice_get kinds place) ≡ true
there [] place l = absurd (none-below place l)
  where
    none-below : (n : ℕ) → n < 0 → ⊥
    none-below n l = omega arith
there (k ∷ kinds) zero l = refl
there (k ∷ kinds) (suc place) l = there kinds place (omega (arith, l))

column-there : (columns : List Column) (place : ℕ) → IsColumn columns place → is_some (slice_get (column_kinds columns) place) ≡ true
column-there columns place l = there (column_kinds columns) place (subst (λ n. place < n) (sym (length-map columns column_kind)) l)

among : (x : ℕ) (ys : List ℕ) → IsOneOf x ys → is_among x ys ≡ true
among x [] e = absurd e
among x (y ∷ ys) (inl same) = or_left (y == x) (is_among x ys) (itself x y same)
  where
    itself : (a b : ℕ) → a ≡ b → (b == a) ≡ true
    itself a b e = grind (arith, nat_tests)
among x (y ∷ ys) (inr more) = or_right (y == x) (is_among x ys) (among x ys more)

kind-self : (k : Kind) → is_same_kind k k ≡ true
kind-self kind.Int = refl
kind-self kind.Text = refl

-- CONDITIONS
cond-right : (columns : List Column) (cond : Option Cond) → IsCond columns cond → is_right_cond (column_kinds columns) cond ≡ true
cond-right columns None e = refl
cond-right columns (Some cond) e = cc

-- QUERIES
one-more : (n : ℕ) → (n + 1 == 0) ≡ false
one-more n = grind (arith, nat_tests)

-- a plain item of a query that groups is one of its columns, so there is one
grouped-so : (items : List Item) (group : List ℕ) → 1 ≤ length items → AllByRecursion (IsGroupItem group) items → (list_any is_aggregate items || not (length group == 0)) ≡ true
grouped-so [] group l e = absurd (no-less l)
  where
    no-less : 1 ≤ 0 → ⊥
    no-less l = omega arith
grouped-so (Col column ∷ items) [] l e = absurd e.0
grouped-so (Col column ∷ items) (k ∷ group) l e = or_right (list_any is_aggregate items) (not (length (k ∷ group) == 0)) (filled (length group))
  where
    filled : (n : ℕ) → not (suc n == 0) ≡ true
    filled n = grind (arith, nat_tests)
grouped-so (Count ∷ items) group l e = refl
grouped-so (Sum column ∷ items) group l e = refl
grouped-so (Min column ∷ items) group l e = refl
grouped-so (Max column ∷ items) group l e = refl

plain-so : (items : List Item) → AllByRecursion IsPlain items → list_any is_aggregate items ≡ false
plain-so [] e = refl
plain-so (Col column ∷ items) e = plain-so items e.1
plain-so (Count ∷ items) e = absurd e.0
plain-so (Sum column ∷ items) e = absurd e.0
plain-so (Min column ∷ items) e = absurd e.0
plain-so (Max column ∷ items) e = absurd e.0

truth-right : (query : Query) (b : Bool) → query.grouped ≡ b → 1 ≤ length query.items → KeepsGroups b query.items query.group query.order → is_same_truth b (is_grouping query) ≡ true
truth-right query true is l keeps = grouped-so query.items query.group l (recursion_from_All (IsGroupItem query.group) query.items keeps.0)
truth-right query false is l keeps =
    ap (λ b. not (b || not (length query.group == 0))) (plain-so query.items (recursion_from_All IsPlain query.items keeps.0)) ∙ ap (λ (g : List ℕ). not (false || not (length g == 0))) keeps.1

-- a column of an item or a key is one of GROUP BY's where the query groups
abbrev IsKept : Bool → List ℕ → Item → Type 0
IsKept true group item = IsGroupItem group item
IsKept false group item = Unit {0}

item-right : (columns : List Column) (query : Query) (b : Bool) → query.grouped ≡ b → (item : Item) → IsItem columns item × IsKept b query.group item → is_right_item (column_kinds columns) query item ≡ true
item-right columns query b is (Col column) e = and_from (is_some (slice_get (column_kinds columns) column)) (not query.grouped || is_among column query.group) (column-there columns column e.0) (ap (λ g. not g || is_among column query.group) is ∙ by_group b e.1)
  where
    by_group : (b : Bool) → IsKept b query.group (Col column) → (not b || is_among column query.group) ≡ true
    by_group true k = among column query.group k
    by_group false k = refl
item-right columns query b is Count e = refl
item-right columns query b is (Sum column) e = ap (is_kind kind.Int) e.0
item-right columns query b is (Min column) e = column-there columns column e.0
item-right columns query b is (Max column) e = column-there columns column e.0

abbrev IsKeptKey : Bool → List ℕ → Key → Type 0
IsKeptKey true group key = IsGroupKey group key
IsKeptKey false group key = Unit {0}

key-right : (columns : List Column) (query : Query) (b : Bool) → query.grouped ≡ b → (key : Key) → IsKey columns key × IsKeptKey b query.group key → is_right_key (column_kinds columns) query key.col ≡ true
key-right columns query b is key e = and_from (is_some (slice_get (column_kinds columns) key.col)) (not query.grouped || is_among key.col query.group) (column-there columns key.col e.0) (ap (λ g. not g || is_among key.col query.group) is ∙ by_group b e.1)
  where
    by_group : (b : Bool) → IsKeptKey b query.group key → (not b || is_among key.col query.group) ≡ true
    by_group true k = among key.col query.group k
    by_group false k = refl

all-unit : {A : Type 0} (xs : List A) → AllByRecursion (λ (x : A). Unit {0}) xs
all-unit [] = tt
all-unit (x ∷ xs) = (tt, all-unit xs)

kept-items : (b : Bool) (items : List Item) (group : List ℕ) (order : List Key) → KeepsGroups b items group order → AllByRecursion (IsKept b group) items
kept-items true items group order keeps = recursion_from_All (IsGroupItem group) items keeps.0
kept-items false items group order keeps = all-unit items

kept-keys : (b : Bool) (items : List Item) (group : List ℕ) (order : List Key) → KeepsGroups b items group order → AllByRecursion (IsKeptKey b group) order
kept-keys true items group order keeps = recursion_from_All (IsGroupKey group) order keeps.1
kept-keys false items group order keeps = all-unit order

query-right : (columns : List Column) (query : Query) → IsQuery columns query → 1 ≤ length query.items → is_right_query (column_kinds columns) query ≡ true
query-right columns query q l =
    and_from (is_right_cond (column_kinds columns) query.cond) _ (cond-right columns query.cond q.cond)
    (and_from (is_same_truth query.grouped (is_grouping query)) _ (truth-right query query.grouped refl l q.groups)
    (and_from (list_all (is_right_item (column_kinds columns) query) query.items) _
    (all-true (is_right_item (column_kinds columns) query) (λ (x : Item). IsItem columns x × IsKept query.grouped query.group x) (item-right columns query query.grouped refl) query.items
    (all-both (IsItem columns) (IsKept query.grouped query.group) query.items (recursion_from_All (IsItem columns) query.items q.items) (kept-items query.grouped query.items query.group query.order q.groups)))
    (and_from (list_all (λ column. is_some (slice_get (column_kinds columns) column)) query.group) _
    (all-true (λ column. is_some (slice_get (column_kinds columns) column)) (IsColumn columns) (column-there columns) query.group (recursion_from_All (IsColumn columns) query.group q.group))
    (all-true (λ (key : Key). is_right_key (column_kinds columns) query key.col) (λ (key : Key). IsKey columns key × IsKeptKey query.grouped query.group key) (key-right columns query query.grouped refl) query.order
    (all-both (IsKey columns) (IsKeptKey query.grouped query.group) query.order (recursion_from_All (IsKey columns) query.order q.order) (kept-keys query.grouped query.items query.group query.order q.groups))))))

-- UPDATE
assign-right : (columns : List Column) (assign : Assign) → IsAssign columns assign → is_right_assign (column_kinds columns) assign ≡ true
assign-right columns assign e =
    ap (λ k. is_right_kind k (kind_of (column_kinds columns) assign.expr)) e.1 ∙ ap (is_right_kind (Some e.0)) e.2 ∙ kind-self e.0

-- INSERT
pub record IsThen {A B : Type 0} (r : Result A ArithFault) (f : A → Result B ArithFault) (y : B) : Type 0 where
  pub value : A
  pub first : r ≡ Ok value
  pub second : f value ≡ Ok y

then-ok : {A B : Type 0} (r : Result A ArithFault) (f : A → Result B ArithFault) (y : B) → and_then r f ≡ Ok y → IsThen r f y
then-ok (Ok x) f y e = record { value = x; first = refl; second = e }
then-ok (Err fault) f y e = absurd (cc)

ok-same : {A : Type 0} (x y : A) → (let r : Result A ArithFault = Ok x in r) ≡ Ok y → x ≡ y
ok-same x y e = cc

some-same : (a b : Kind) → Some a ≡ Some b → a ≡ b
some-same a b e = cc

-- the values of a tuple are of its columns' kinds
values-right : (kinds : List Kind) (n : ℕ) (tuple : List Expr) (values : List Value) → each_from constant n tuple ≡ Ok values → map (kind_of []) tuple ≡ map Some kinds → is_right_row kinds values ≡ true
values-right [] n [] values e h = subst (λ vs. is_right_row [] vs ≡ true) (ok-same [] values e) refl
values-right (k ∷ kinds) n [] values e h = cc
values-right [] n (x ∷ tuple) values e h = cc
values-right (k ∷ kinds) n (x ∷ tuple) values e h =
    let one = then-ok (value_of [] x) (λ y. and_then (each_from constant (n + 1) tuple) (λ ys. Ok (y ∷ ys))) values e in
    let more = then-ok (each_from constant (n + 1) tuple) (λ ys. Ok (one.value ∷ ys)) values one.second in
    let here : kind_of [] x ≡ Some k = cc in
    let behind : map (kind_of []) tuple ≡ map Some kinds = cc in
    subst (λ vs. is_right_row (k ∷ kinds) vs ≡ true) (ok-same (one.value ∷ more.value) values more.second)
    (and_from (is_same_kind k (value_kind one.value)) (is_right_row kinds more.value) (ap (is_same_kind k) (kind-value [] x one.value k one.first here) ∙ kind-self k) (values-right kinds (n + 1) tuple more.value more.first behind))

abbrev IsRightRow : Gxid → Cid → List Kind → KeyedRow → Type 0
IsRightRow g c kinds row = (is_rid_of g c row.rid && is_right_row kinds row.row) ≡ true

rows-right : (g : Gxid) (c : Cid) (kinds : List Kind) (n : ℕ) (tuples : List (List Expr)) (rows : List KeyedRow) → each_from (tuple_row g c) n tuples ≡ Ok rows → AllByRecursion (λ t. map (kind_of []) t ≡ map Some kinds) tuples → AllByRecursion (IsRightRow g c kinds) rows
rows-right g c kinds n [] rows e h = subst (AllByRecursion (IsRightRow g c kinds)) (ok-same [] rows e) tt
rows-right g c kinds n (t ∷ tuples) rows e h =
    let one = then-ok (tuple_row g c n t) (λ y. and_then (each_from (tuple_row g c) (n + 1) tuples) (λ ys. Ok (y ∷ ys))) rows e in
    let more = then-ok (each_from (tuple_row g c) (n + 1) tuples) (λ ys. Ok (one.value ∷ ys)) rows one.second in
    let made = then-ok (values_of t) (λ row. Ok (record { rid = record { gxid = g; cid = c; ordinal = n }; row = row })) one.value one.first in
    subst (AllByRecursion (IsRightRow g c kinds)) (ok-same (one.value ∷ more.value) rows more.second) (
      subst (IsRightRow g c kinds) (ok-same (record { rid = record { gxid = g; cid = c; ordinal = n }; row = made.value }) one.value made.second)
          (and_from ((g.0 == g.0) && (c.0 == c.0)) (is_right_row kinds made.value) (self g.0 c.0) (values-right kinds 0 t made.value made.first h.0)),
      rows-right g c kinds (n + 1) tuples more.value more.first h.1,
    )
  where
    self : (a b : ℕ) → ((a == a) && (b == b)) ≡ true
    self a b = grind (arith, nat_tests)

-- PLANS
module _ (script : Script) (g : Gxid) (c : Cid) where
  abbrev IsRight : Piece → Type 0
  IsRight p = is_right_slice script g c p.slice ≡ true

  same-pieces : (n : ℕ) (t : Target) (s : Slice) → is_right_slice script g c s ≡ true → AllByRecursion IsRight (pieces n t s)
  same-pieces n t s e = all-map IsRight (piece s) (λ node. e) (nodes_of n t)

  row-piece : (schema : Schema) (table : Table) (node : Node) (rows : List KeyedRow) → IsAt script.tables table schema → AllByRecursion (IsRightRow g c (kinds_in schema)) rows → AllByRecursion IsRight (row_pieces table node rows)
  row-piece schema table node [] at e = tt
  row-piece schema table node (r ∷ rows) at e = (
    ap (λ o. is_right_on g c o (slice.Insert table (r ∷ rows))) at ∙ all-true (λ (row : KeyedRow). is_rid_of g c row.rid && is_right_row (kinds_in schema) row.row) (IsRightRow g c (kinds_in schema)) (λ row h. h) (r ∷ rows) e,
    tt,
  )

  plan-right : (dist : Dist) (line : Stmt) (ps : List Piece) → IsStmtOf script.tables line → HasItem line → plan_of script.segments dist g c line ≡ Ok ps → AllByRecursion IsRight ps
  plan-right dist (stmt.Select query) ps of item e =
      subst (AllByRecursion IsRight) (ok-same _ ps e)
      (same-pieces script.segments (target_of script.segments dist query.cond) (slice.Select query) (ap (λ o. is_right_on g c o (slice.Select query)) of.1 ∙ query-right of.0.columns query of.2 item))
  plan-right dist (stmt.Insert table tuples) ps of item e =
      let made = then-ok (rows_of g c tuples) (λ rows. Ok (insert_pieces script.segments dist table rows)) ps e in
      subst (AllByRecursion IsRight) (ok-same _ ps made.second)
      (all-flat IsRight (λ node. row_pieces table node (rows_at script.segments dist made.value node.0))
      (λ node. row-piece of.0 table node (rows_at script.segments dist made.value node.0) of.1
      (all-filter (IsRightRow g c (kinds_in of.0)) (λ row. row_place script.segments dist row.row row.rid == node.0) made.value
      (rows-right g c (kinds_in of.0) 1 tuples made.value made.first (recursion_from_All (IsTuple of.0.columns) tuples of.2))))
      (nodes_from 1 script.segments))
  plan-right dist (stmt.Update table assigns cond) ps of item e =
      subst (AllByRecursion IsRight) (ok-same _ ps e)
      (same-pieces script.segments (target_of script.segments dist cond) (slice.Update table assigns cond)
      (ap (λ o. is_right_on g c o (slice.Update table assigns cond)) of.1
      ∙ and_from (list_all (is_right_assign (kinds_in of.0)) assigns) (is_right_cond (kinds_in of.0) cond)
      (all-true (is_right_assign (kinds_in of.0)) (IsAssign of.0.columns) (assign-right of.0.columns) assigns (recursion_from_All (IsAssign of.0.columns) assigns of.2.assigns)) (cond-right of.0.columns cond of.2.cond)))
  plan-right dist (stmt.Delete table cond) ps of item e =
      subst (AllByRecursion IsRight) (ok-same _ ps e)
      (same-pieces script.segments (target_of script.segments dist cond) (slice.Delete table cond) (ap (λ o. is_right_on g c o (slice.Delete table cond)) of.1 ∙ cond-right of.0.columns cond of.2))
  plan-right dist (stmt.Lock table mode) ps of item e =
      subst (AllByRecursion IsRight) (ok-same _ ps e) (same-pieces script.segments AllOfThem (slice.Lock table mode) (ap (λ o. is_right_on g c o (slice.Lock table mode)) of.1))
  plan-right dist (stmt.Begin level) ps of item e = subst (AllByRecursion IsRight) (ok-same [] ps e) tt
  plan-right dist stmt.Commit ps of item e = subst (AllByRecursion IsRight) (ok-same [] ps e) tt
  plan-right dist stmt.Rollback ps of item e = subst (AllByRecursion IsRight) (ok-same [] ps e) tt

  pub pieces-right : (dist : Dist) (line : Stmt) (ps : List Piece) → IsStmtOf script.tables line → HasItem line → plan_of script.segments dist g c line ≡ Ok ps → All (λ p. is_right_slice script g c p.slice ≡ true) ps
  pieces-right dist line ps of item e = All-from_recursion IsRight ps (plan-right dist line ps of item e)
