-- A resolved statement and a table keep the rules.
use Rattle.std.proofs.Common.{ℕ, suc, ◌≡◌, ◌∙◌, ◌+◌, ◌≤◌, inl, inr, sym, ap, refl, subst, arith, List, [], ◌∷◌, ◌++◌, length, map, Option, Some, None, Result, Ok, Err, Bool, true, false, if◌then◌else◌, nat_eq, ◌==◌, ◌||◌, All, IfOk, MatchOption, slice_get}
use Rattle.std.specs.Option.{option_and_then}
use Rattle.std.specs.List.{list_all, flat_map}
use Rattle.std.specs.Cmp.Lexicographic.{pointwise, same_text, other_text}
use Rattle.std.proofs.lemmas.Bool.Decides.{nat_tests}
use Rattle.std.proofs.lemmas.List.{length-map}
use Rattle.std.proofs.lemmas.List.Folds.{list_any-append}
use Rattle.gx_ids.specs.declared.ids.Table.{Table}
use Rattle.gx_tree.specs.declared.schema.Column.{Column}
use Rattle.gx_tree.specs.declared.schema.Kind.{Kind}
use Rattle.gx_tree.specs.declared.schema.Schema.{Schema}
use Rattle.gx_tree.specs.declared.schema.Dist.{Dist}
use Rattle.gx_tree.specs.declared.schema.Dist.TheVariants as dist
use Rattle.gx_tree.specs.declared.cond.Cond.{Cond}
use Rattle.gx_tree.specs.declared.stmt.Assign.{Assign}
use Rattle.gx_tree.specs.declared.stmt.Stmt.{Stmt}
use Rattle.gx_tree.specs.declared.stmt.Stmt.TheVariants as stmt
use Rattle.gx_lines.specs.declared.syn.AssignSyn.{AssignSyn}
use Rattle.gx_lines.specs.declared.syn.ColumnSyn.{ColumnSyn}
use Rattle.gx_lines.specs.declared.syn.DistSyn.{DistSyn}
use Rattle.gx_lines.specs.declared.syn.DistSyn.TheVariants as dist_syn
use Rattle.gx_lines.specs.declared.syn.TableSyn.{TableSyn}
use Rattle.gx_lines.specs.declared.syn.StmtSyn.{StmtSyn}
use Rattle.gx_lines.specs.declared.syn.StmtSyn.TheVariants as stmt_syn
use Rattle.gx_resolve.specs.declared.fault.NameFault.TheVariants.{Syntax, KeyUpdate}
use Rattle.gx_resolve.specs.declared.fault.ResolveError.{ResolveError}
use Rattle.gx_resolve.specs.Results.{each, Says}
use Rattle.gx_resolve.specs.Naming.{Name, is_column, is_among, where_names, assign_names, names_right, names_of, assign_right}
use Rattle.gx_resolve.specs.Kinding.{column_at, where_as, assign_as, tuple_as}
use Rattle.gx_resolve.specs.Selecting.{query_as}
use Rattle.gx_resolve.specs.Resolving.{kinded, assigns_to, sets_key, key_kept, over_table, over_found, stmt_from, stmt_of, table_named, table_after, column_as, columns_new, dist_as, new_table, table_from}
use Rattle.gx_meaning.specs.Statements.{IsOneOf, AreDistinct, IsAssign, assigned_column, KeepsKey, IsOver, table_of, IsAt, IsStmtOf, IsFound, column_text, IsDist, IsSchema}
use Rattle.gx_resolve.proofs.Fitting.{Stands}
use Rattle.gx_resolve.proofs.Names.{known, names_right-then, names_right-assign, assign_first}
use Rattle.gx_resolve.proofs.Keeping.{bind-ok, same_ok, either-false, each-all, column_within, where-cond, assign-keeps, tuples-keep, query-keeps}

-- NAMES THAT STAND ONCE
same_name : (x y : List ℕ) → pointwise nat_eq x y ≡ true → x ≡ y
same_name x y h = same_text x y (sym h)

itself : (x : List ℕ) → pointwise nat_eq x x ≡ true
itself x = by_test (pointwise nat_eq x x) refl where
  by_test : (b : Bool) → pointwise nat_eq x x ≡ b → b ≡ true
  by_test true h = refl
  by_test false h = absurd (other_text x x (sym h) refl)

or-true : (a b : Bool) → a ≡ true → (a || b) ≡ true
or-true true b h = refl
or-true false b h = cc

true-or : (a b : Bool) → b ≡ true → (a || b) ≡ true
true-or true b h = refl
true-or false b h = h

among_before : (names : List (List ℕ)) (name other : List ℕ) → is_among names name ≡ true → is_among (names ++ other ∷ []) name ≡ true
among_before names name other h = list_any-append (λ n. pointwise nat_eq n name) names (other ∷ []) ∙ or-true (is_among names name) _ h

among_last : (names : List (List ℕ)) (name : List ℕ) → is_among (names ++ name ∷ []) name ≡ true
among_last names name = list_any-append (λ n. pointwise nat_eq n name) names (name ∷ []) ∙ true-or (is_among names name) _ (ap (λ b. b || false) (itself name))

not-both : {P : Type 0} (b : Bool) → b ≡ true → b ≡ false → P
not-both b t f = cc

-- a column of a table line isn't one of those before it
line_apart : (before : List (List ℕ)) (columns : List ColumnSyn) → columns_new before columns ≡ Ok tt → (name : List ℕ) → is_among before name ≡ true → ¬ (IsOneOf name (map column_text (map column_as columns)))
line_apart before [] h name among one = one
line_apart before (c ∷ cs) h name among one = by_test (is_among before c.name) refl h (λ rest. line_apart (before ++ c.name ∷ []) cs rest name (among_before before name c.name among)) one where
  by_test : (b : Bool) → is_among before c.name ≡ b → (if b then Err Syntax else columns_new (before ++ c.name ∷ []) cs) ≡ Ok tt → (columns_new (before ++ c.name ∷ []) cs ≡ Ok tt → ¬ (IsOneOf name (map column_text (map column_as cs)))) → ¬ (IsOneOf name (c.name ∷ map column_text (map column_as cs)))
  by_test true t e rest o = cc
  by_test false t e rest (inl same) = not-both (is_among before c.name) (subst (λ n. is_among before n ≡ true) same among) t
  by_test false t e rest (inr o) = rest e o

line_distinct : (before : List (List ℕ)) (columns : List ColumnSyn) → columns_new before columns ≡ Ok tt → AreDistinct (map column_text (map column_as columns))
line_distinct before [] h = tt
line_distinct before (c ∷ cs) h = by_test (is_among before c.name) h (λ rest. (line_apart (before ++ c.name ∷ []) cs rest c.name (among_last before c.name), line_distinct (before ++ c.name ∷ []) cs rest)) where
  by_test : (b : Bool) → (if b then Err Syntax else columns_new (before ++ c.name ∷ []) cs) ≡ Ok tt → (columns_new (before ++ c.name ∷ []) cs ≡ Ok tt → AreDistinct (c.name ∷ map column_text (map column_as cs))) → AreDistinct (c.name ∷ map column_text (map column_as cs))
  by_test true e rest = cc
  by_test false e rest = rest e

dist-keeps : (columns : List Column) (written : DistSyn) (d : Dist) → dist_as columns written ≡ Ok d → IsDist columns d
dist-keeps columns dist_syn.Randomly d h = subst (IsDist columns) (same_ok dist.Randomly d h) tt
dist-keeps columns (dist_syn.By name) d h =
    let c = bind-ok (column_at columns name) _ d h in
    subst (IsDist columns) (same_ok (dist.By c.0.0) d c.2) (column_within columns name c.0 c.1)

new_table-keeps : (written : TableSyn) (s : Schema) → new_table written ≡ Ok s → 1 ≤ length written.columns → IsSchema s
new_table-keeps written s h some =
    let once = bind-ok (columns_new [] written.columns) _ s h in
    let spread = bind-ok (dist_as (map column_as written.columns) written.dist) _ s once.2 in
    subst IsSchema (same_ok _ s spread.2) (record {
      some = simp length-map some;
      distinct = line_distinct [] written.columns once.1;
      key = dist-keeps (map column_as written.columns) written.dist spread.0 spread.1;
    })

table-keeps : (known : Bool) (written : TableSyn) (s : Schema) → table_from known written ≡ Ok s → 1 ≤ length written.columns → IsSchema s
table-keeps true written s h some = cc
table-keeps false written s h some = new_table-keeps written s h some

pub table_promise : (known : Bool) (written : TableSyn) (result : Result Schema ResolveError) → Says {X = Schema} result (table_from known written) → IfOk result (λ s. 1 ≤ length written.columns → IsSchema s)
table_promise known written (Ok s) h = table-keeps known written s h
table_promise known written (Err e) h = tt

-- SET
once : (columns : List Column) (given : List (List ℕ)) (a : AssignSyn) (names : List Name) → names_right columns given (assign_names a ++ names) ≡ Ok tt → (is_among given a.column ≡ false) × (names_right columns (given ++ a.column ∷ []) names ≡ Ok tt)
once columns given a names h =
    let parts = bind-ok (names_right columns given (assign_names a)) (λ _. names_right columns (given ++ a.column ∷ []) names) tt (sym (assign_first columns given a names) ∙ h) in
    (new (is_among given a.column) _ (sym (names_right-assign columns given a) ∙ parts.1), parts.2) where
      new : (again all : Bool) → {u : Unit {0}} → assign_right again all ≡ Ok u → again ≡ false
      new true all h = cc
      new false all h = refl

-- two columns at one place have one name
one_place : (columns : List Column) (place : ℕ) (x y : List ℕ) (j k : Kind) → Stands columns place x j → Stands columns place y k → x ≡ y
one_place columns place x y j k s t =
    let same : s.column ≡ t.column = cc (s.at, t.at) in
    sym (same_name s.column.name x s.named) ∙ ap (λ c. c.name) same ∙ same_name t.column.name y t.named

set_apart : (columns : List Column) (given : List (List ℕ)) (written : List AssignSyn) (set : List Assign) → names_right columns given (flat_map assign_names written) ≡ Ok tt → each (assign_as columns) written ≡ Ok set
    → (name : List ℕ) (place : ℕ) (kind : Kind) → is_among given name ≡ true → Stands columns place name kind → ¬ (IsOneOf place (map assigned_column set))
set_apart columns given [] set right h name place kind among stands one = subst (λ l. IsOneOf place (map assigned_column l)) (sym (same_ok [] set h)) one
set_apart columns given (a ∷ written) set right h name place kind among stands one =
    let first = bind-ok (assign_as columns a) _ set h in
    let rest = bind-ok (each (assign_as columns) written) _ set first.2 in
    let new = once columns given a (flat_map assign_names written) right in
    let here = assign-keeps columns a first.0 first.1 in
    by_place first.0 rest.0 here.0 here.1 new.0 (set_apart columns (given ++ a.column ∷ []) written rest.0 new.1 rest.1 name place kind (among_before given name a.column among) stands) (subst (λ l. IsOneOf place (map assigned_column l)) (sym (same_ok (first.0 ∷ rest.0) set rest.2)) one) where
      by_place : (b : Assign) (bs : List Assign) (k : Kind) → Stands columns b.col a.column k → is_among given a.column ≡ false → ¬ (IsOneOf place (map assigned_column bs)) → ¬ (IsOneOf place (b.col ∷ map assigned_column bs))
      by_place b bs k there fresh others (inl same) =
          let named : name ≡ a.column = one_place columns b.col name a.column kind k (subst (λ p. Stands columns p name kind) same stands) there in
          not-both (is_among given a.column) (subst (λ n. is_among given n ≡ true) named among) fresh
      by_place b bs k there fresh others (inr o) = others o

set_distinct : (columns : List Column) (given : List (List ℕ)) (written : List AssignSyn) (set : List Assign) → names_right columns given (flat_map assign_names written) ≡ Ok tt → each (assign_as columns) written ≡ Ok set → AreDistinct (map assigned_column set)
set_distinct columns given [] set right h = subst (λ l. AreDistinct (map assigned_column l)) (same_ok [] set h) tt
set_distinct columns given (a ∷ written) set right h =
    let first = bind-ok (assign_as columns a) _ set h in
    let rest = bind-ok (each (assign_as columns) written) _ set first.2 in
    let new = once columns given a (flat_map assign_names written) right in
    let here = assign-keeps columns a first.0 first.1 in
    subst (λ l. AreDistinct (map assigned_column l)) (same_ok (first.0 ∷ rest.0) set rest.2) (
      set_apart columns (given ++ a.column ∷ []) written rest.0 new.1 rest.1 a.column first.0.col here.0 (among_last given a.column) here.1,
      set_distinct columns (given ++ a.column ∷ []) written rest.0 new.1 rest.1,
    )

assigns-keep : (columns : List Column) (written : List AssignSyn) (set : List Assign) → each (assign_as columns) written ≡ Ok set → All (IsAssign columns) set
assigns-keep columns written set h = each-all (assign_as columns) (IsAssign columns) (λ a b e. let k = assign-keeps columns a b e in (k.0, k.2, k.3)) written set h

-- THE DISTRIBUTION COLUMN
not_assigned : (set : List Assign) (key : ℕ) → assigns_to set key ≡ false → ¬ (IsOneOf key (map assigned_column set))
not_assigned [] key h one = one
not_assigned (a ∷ set) key h one = by_place (either-false (a.col == key) (assigns_to set key) h) (not_assigned set key) one where
  by_place : (a.col == key) ≡ false × (assigns_to set key ≡ false) → (assigns_to set key ≡ false → ¬ (IsOneOf key (map assigned_column set))) → ¬ (IsOneOf key (a.col ∷ map assigned_column set))
  by_place p rest (inl same) = let there : (a.col == key) ≡ true = grind (arith, nat_tests) in not-both (a.col == key) there p.0
  by_place p rest (inr o) = rest p.1 o

set_keeps : (d : Dist) (table : Table) (set : List Assign) (cond : Option Cond) → sets_key d (stmt.Update table set cond) ≡ false → KeepsKey d set
set_keeps (dist.By key) table set cond h = not_assigned set key h
set_keeps dist.Randomly table set cond h = tt

kept : (d : Dist) (r s : Stmt) → key_kept d r ≡ Ok s → (sets_key d r ≡ false) × (r ≡ s)
kept d r s h = by_test (sets_key d r) refl h where
  by_test : (b : Bool) → sets_key d r ≡ b → (if b then Err KeyUpdate else Ok r) ≡ Ok s → (sets_key d r ≡ false) × (r ≡ s)
  by_test true t e = cc
  by_test false t e = (t, same_ok r s e)

-- STATEMENTS
-- the statement is over this table, or over none
abbrev pub IsAbout : Table → Schema → Stmt → Type 0
IsAbout table schema s = MatchOption (table_of s) (Unit {0}) (λ t. t ≡ table) × IsOver schema s

about : (table : Table) (schema : Schema) (written : StmtSyn) (r : Stmt) → names_right schema.columns [] (names_of written) ≡ Ok tt → kinded table schema.columns written ≡ Ok r → sets_key schema.dist r ≡ false → IsAbout table schema r
about table schema (stmt_syn.Begin level) r right h key = subst (IsAbout table schema) (same_ok _ r h) (tt, tt)
about table schema stmt_syn.Commit r right h key = subst (IsAbout table schema) (same_ok _ r h) (tt, tt)
about table schema stmt_syn.Rollback r right h key = subst (IsAbout table schema) (same_ok _ r h) (tt, tt)
about table schema (stmt_syn.Select select) r right h key =
    let q = bind-ok (query_as table schema.columns select) _ r h in
    subst (IsAbout table schema) (same_ok _ r q.2) (query-keeps table schema.columns select q.0 q.1)
about table schema (stmt_syn.Insert name written) r right h key =
    let tuples = bind-ok (each (tuple_as schema.columns) written) _ r h in
    subst (IsAbout table schema) (same_ok _ r tuples.2) (refl, tuples-keep schema.columns written tuples.0 tuples.1)
about table schema (stmt_syn.Update name written cond) r right h key =
    let set = bind-ok (each (assign_as schema.columns) written) _ r h in
    let found = bind-ok (where_as schema.columns cond) _ r set.2 in
    let same = same_ok (stmt.Update table set.0 found.0) r found.2 in
    let names = bind-ok (names_right schema.columns [] (flat_map assign_names written)) (λ _. known (list_all (is_column schema.columns) (where_names cond))) tt (sym (names_right-then schema.columns [] (flat_map assign_names written) (where_names cond)) ∙ right) in
    subst (IsAbout table schema) same (
      refl,
      record {
        assigns = assigns-keep schema.columns written set.0 set.1;
        distinct = set_distinct schema.columns [] written set.0 names.1 set.1;
        key = set_keeps schema.dist table set.0 found.0 (subst (λ s. sets_key schema.dist s ≡ false) (sym same) key);
        cond = where-cond schema.columns cond found.0 found.1;
      },
    )
about table schema (stmt_syn.Delete name cond) r right h key =
    let found = bind-ok (where_as schema.columns cond) _ r h in
    subst (IsAbout table schema) (same_ok _ r found.2) (refl, where-cond schema.columns cond found.0 found.1)
about table schema (stmt_syn.Lock name m) r right h key = subst (IsAbout table schema) (same_ok _ r h) (refl, tt)

over_table-keeps : (table : Table) (schema : Schema) (written : StmtSyn) (s : Stmt) → over_table table schema written ≡ Ok s → IsAbout table schema s
over_table-keeps table schema written s h =
    let names = bind-ok (names_right schema.columns [] (names_of written)) _ s h in
    let r = bind-ok (kinded table schema.columns written) _ s names.2 in
    let last = kept schema.dist r.0 s r.2 in
    subst (IsAbout table schema) last.1 (about table schema written r.0 names.1 r.1 last.0)

placed : (tables : List Schema) (table : Table) (schema : Schema) (s : Stmt) → IsAt tables table schema → IsAbout table schema s → IsStmtOf tables s
placed tables table schema (stmt.Begin level) at about = tt
placed tables table schema stmt.Commit at about = tt
placed tables table schema stmt.Rollback at about = tt
placed tables table schema (stmt.Select query) at about = (schema, subst (λ t. IsAt tables t schema) (sym about.0) at, about.1)
placed tables table schema (stmt.Insert t tuples) at about = (schema, subst (λ t. IsAt tables t schema) (sym about.0) at, about.1)
placed tables table schema (stmt.Update t set cond) at about = (schema, subst (λ t. IsAt tables t schema) (sym about.0) at, about.1)
placed tables table schema (stmt.Delete t cond) at about = (schema, subst (λ t. IsAt tables t schema) (sym about.0) at, about.1)
placed tables table schema (stmt.Lock t mode) at about = (schema, subst (λ t. IsAt tables t schema) (sym about.0) at, about.1)

found-keeps : (found : Option (Table × Schema)) (written : StmtSyn) (s : Stmt) → over_found found written ≡ Ok s → (tables : List Schema) → IsFound tables found → IsStmtOf tables s
found-keeps None written s h tables at = cc
found-keeps (Some f) written s h tables at = placed tables f.0 f.1 s at (over_table-keeps f.0 f.1 written s h)

stmt-keeps : (found : Option (Table × Schema)) (written : StmtSyn) (s : Stmt) → stmt_from found written ≡ Ok s → (tables : List Schema) → IsFound tables found → IsStmtOf tables s
stmt-keeps found (stmt_syn.Begin level) s h tables at = subst (IsStmtOf tables) (same_ok (stmt.Begin level) s h) tt
stmt-keeps found stmt_syn.Commit s h tables at = subst (IsStmtOf tables) (same_ok stmt.Commit s h) tt
stmt-keeps found stmt_syn.Rollback s h tables at = subst (IsStmtOf tables) (same_ok stmt.Rollback s h) tt
stmt-keeps found (stmt_syn.Select select) s h tables at = found-keeps found (stmt_syn.Select select) s h tables at
stmt-keeps found (stmt_syn.Insert name tuples) s h tables at = found-keeps found (stmt_syn.Insert name tuples) s h tables at
stmt-keeps found (stmt_syn.Update name set cond) s h tables at = found-keeps found (stmt_syn.Update name set cond) s h tables at
stmt-keeps found (stmt_syn.Delete name cond) s h tables at = found-keeps found (stmt_syn.Delete name cond) s h tables at
stmt-keeps found (stmt_syn.Lock name m) s h tables at = found-keeps found (stmt_syn.Lock name m) s h tables at

pub stmt_promise : (found : Option (Table × Schema)) (written : StmtSyn) (result : Result Stmt ResolveError) → Says {X = Stmt} result (stmt_from found written) → IfOk result (λ s. (tables : List Schema) → IsFound tables found → IsStmtOf tables s)
stmt_promise found written (Ok s) h = stmt-keeps found written s h
stmt_promise found written (Err e) h = tt

-- OVER A LIST OF TABLES
abbrev StandsFrom : ℕ → List Schema → Table × Schema → Type 0
StandsFrom from tables found = (i : ℕ) × (found.0.0 ≡ from + i) × (slice_get tables i ≡ Some found.1)

stands_from : (from : ℕ) (name : List ℕ) (tables : List Schema) (found : Table × Schema) → table_after from name tables ≡ Some found → StandsFrom from tables found
stands_from from name [] found h = cc
stands_from from name (t ∷ ts) found h = by_test (pointwise nat_eq t.name name) h (stands_from (from + 1) name ts found) where
  by_test : (b : Bool) → (if b then Some (record { 0 = from }, t) else table_after (from + 1) name ts) ≡ Some found → (table_after (from + 1) name ts ≡ Some found → StandsFrom (from + 1) ts found) → StandsFrom from (t ∷ ts) found
  by_test true e rest =
      let first : Table × Schema = (record { 0 = from }, t) in
      let same : first ≡ found = cc in
      let place : from ≡ found.0.0 = ap (λ f. f.0.0) same in (0, omega (arith, place), ap (λ f. Some f.1) same)
  by_test false e rest = let r = rest e in (suc r.0, omega (arith, r.1), r.2)

pub table_stands : (tables : List Schema) (name : List ℕ) (found : Table × Schema) → table_after 0 name tables ≡ Some found → IsAt tables found.0 found.1
table_stands tables name found h =
    let f = stands_from 0 name tables found h in
    let same : f.0 ≡ found.0.0 = omega (arith, f.1) in
    subst (λ i. slice_get tables i ≡ Some found.1) same f.2

is_found : (tables : List Schema) (name : List ℕ) (found : Option (Table × Schema)) → table_after 0 name tables ≡ found → IsFound tables found
is_found tables name None h = tt
is_found tables name (Some f) h = table_stands tables name f h

is_named : (tables : List Schema) (name : Option (List ℕ)) → IsFound tables (option_and_then (λ n. table_after 0 n tables) name)
is_named tables None = tt
is_named tables (Some name) = is_found tables name (table_after 0 name tables) refl

pub stmt_of-keeps : (tables : List Schema) (written : StmtSyn) (s : Stmt) → stmt_of tables written ≡ Ok s → IsStmtOf tables s
stmt_of-keeps tables written s h = stmt-keeps (option_and_then (λ n. table_after 0 n tables) (table_named written)) written s h tables (is_named tables (table_named written))
