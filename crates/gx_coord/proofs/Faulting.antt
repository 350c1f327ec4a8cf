-- The first tuple whose constants fault, and what a command of a script is planned by.
use Rattle.std.proofs.Common.{◌≡◌, ◌<◌, ◌≤◌, ◌^◌, ℕ, zero, suc, ◌+◌, Bool, true, false, cond, List, [], ◌∷◌, Result, Ok, Err, refl, sym, ap, ◌∙◌, subst, length, get_or, slice_get, map, All, Some, None, IsSome, arith, nat_lt}
use Rattle.std.proofs.lemmas.Bool.{ltb-true}
use Rattle.std.proofs.lemmas.Bool.Decides.{nat_tests}
use Rattle.std.proofs.lemmas.List.{length-map}
use Rattle.std.proofs.lemmas.List.Elements.{All-from_recursion, All-get_or, recursion_from_All}
use Rattle.std.specs.List.{AllByRecursion}
use Rattle.gx_lemmas.proofs.Lists.{place-below}
use Rattle.gx_lemmas.proofs.Numbers.{le-of}
use Rattle.gx_tree.specs.declared.expr.Expr.{Expr}
use Rattle.gx_tree.specs.declared.schema.Column.{Column}
use Rattle.gx_tree.specs.declared.schema.Dist.{Dist}
use Rattle.gx_tree.specs.declared.schema.Dist.TheVariants.{By, Randomly}
use Rattle.gx_tree.specs.declared.schema.Kind.{Kind}
use Rattle.gx_tree.specs.declared.schema.Schema.{Schema}
use Rattle.gx_tree.specs.declared.stmt.Stmt.{Stmt}
use Rattle.gx_tree.specs.declared.stmt.Stmt.TheVariants as stmt
use Rattle.gx_tree.specs.declared.value.Value.{Value}
use Rattle.gx_meaning.specs.Kinds.{kind_of}
use Rattle.gx_meaning.specs.Expressions.{and_then, value_of}
use Rattle.gx_meaning.specs.declared.fault.ArithFault.{ArithFault}
use Rattle.gx_meaning.specs.Constants.{HasKey, IsConstant, constant, each_from, values_of}
use Rattle.gx_meaning.specs.Plan as plan_of
use Rattle.gx_meaning.specs.Statements.{IsDist, IsOver, IsStmtOf, IsTuple, column_kind, column_kinds}
use Rattle.gx_script.specs.declared.Line.{Line}
use Rattle.gx_script.specs.declared.Script.{Script}
use Rattle.gx_store.specs.Language.{IsLine, IsScript, IsTable}
use Rattle.gx_store.specs.Limits.{HasTuplesTo, IsLineTo}
use Rattle.gx_store.specs.Writes.{dist_of}
use Rattle.gx_rules.specs.AtCoordinator.{faulting_from, table_of}
use Rattle.gx_coord.specs.Books.{stmt_at}
use Rattle.gx_coord.specs.Faults.{AreConstants, HasConstants, IsCommand, faulting, has_value, has_values, is_short}

-- THE FIRST FAULT
both : (r : Result Value ArithFault) (s : Result (List Value) ArithFault) → has_value (and_then r (λ y. and_then s (λ ys. Ok (y ∷ ys)))) ≡ cond (has_value r) (has_value s) false
both (Ok y) (Ok ys) = refl
both (Ok y) (Err f) = refl
both (Err f) s = refl

values-have : (k : ℕ) (tuple : List Expr) → has_value (each_from constant k tuple) ≡ has_values tuple
values-have k [] = refl
values-have k (e ∷ es) = both (value_of [] e) (each_from constant (k + 1) es) ∙ ap (λ b. cond (has_value (value_of [] e)) b false) (values-have (k + 1) es)

fault-step : (n : ℕ) (t : List Expr) (ts : List (List Expr)) (r : Result (List Value) ArithFault) → values_of t ≡ r → faulting_from n (t ∷ ts) ≡ cond (has_value r) (faulting_from (n + 1) ts) n
fault-step n t ts (Ok v) e = rw e refl
fault-step n t ts (Err f) e = rw e refl

pub same_fault : (n : ℕ) (tuples : List (List Expr)) → faulting n tuples ≡ faulting_from n tuples
same_fault n [] = refl
same_fault n (t ∷ ts) =
    ap (λ b. cond b (faulting (n + 1) ts) n) (sym (values-have 0 t))
    ∙ ap (λ m. cond (has_value (values_of t)) m n) (same_fault (n + 1) ts)
    ∙ sym (fault-step n t ts (values_of t) refl)

-- A LINE AND ITS TABLE
pub get-at : (lines : List Line) (k : ℕ) (d : Line) → k < length lines → stmt_at lines k ≡ (get_or lines k d).stmt
get-at [] k d l = absurd (omega (arith, l))
get-at (x ∷ xs) zero d l = refl
get-at (x ∷ xs) (suc k) d l = get-at xs k d (omega (arith, l))

line-of : (tables : List Schema) (n : ℕ) (lines : List Line) (k : ℕ) → All (IsLine tables n) lines → k < length lines → IsStmtOf tables (stmt_at lines k)
line-of tables n [] k all l = absurd (omega (arith, l))
line-of tables n (x ∷ xs) k all l = subst (IsStmtOf tables) (sym (get-at (x ∷ xs) k x l)) (All-get_or (IsLine tables n) (x ∷ xs) k x l all).1

pub stmt-of : (script : Script) (k : ℕ) → IsScript script → k < length script.lines → IsStmtOf script.tables (stmt_at script.lines k)
stmt-of script k language l = line-of script.tables (length script.sessions) script.lines k language.lines l

short-in : (line : Stmt) → HasTuplesTo 4294967295 line → is_short line ≡ true
short-in (stmt.Insert table tuples) few = by_test (nat_lt (length tuples) (2 ^ 32)) refl
  where
    by_test : (b : Bool) → nat_lt (length tuples) (2 ^ 32) ≡ b → nat_lt (length tuples) (2 ^ 32) ≡ true
    by_test true e = e
    by_test false e = let most : 2 ^ 32 ≤ length tuples = le-of (length tuples) (2 ^ 32) e in absurd (omega (arith, few, most))
short-in line few = refl

lines-short : (lines : List Line) (k : ℕ) → All (IsLineTo 4294967295) lines → k < length lines → is_short (stmt_at lines k) ≡ true
lines-short [] k all l = absurd (omega (arith, l))
lines-short (x ∷ xs) k all l =
    subst (λ (s : Stmt). is_short s ≡ true) (sym (get-at (x ∷ xs) k x l)) (short-in (get_or (x ∷ xs) k x).stmt (All-get_or (IsLineTo 4294967295) (x ∷ xs) k x l all))

-- the rows of its tuples have numbers
pub short-of : (script : Script) (k : ℕ) → IsScript script → k < length script.lines → is_short (stmt_at script.lines k) ≡ true
short-of script k language l = lines-short script.lines k language.few_tuples l

over-at : (tables : List Schema) (line : Stmt) → IsCommand line → IsStmtOf tables line → (schema : Schema) × (slice_get tables (table_of line) ≡ Some schema) × IsOver schema line
over-at tables (stmt.Begin level) c h = absurd c
over-at tables stmt.Commit c h = absurd c
over-at tables stmt.Rollback c h = absurd c
over-at tables (stmt.Select q) c h = h
over-at tables (stmt.Insert t x) c h = h
over-at tables (stmt.Update t x y) c h = h
over-at tables (stmt.Delete t x) c h = h
over-at tables (stmt.Lock t m) c h = h

some-same : {X : Type 0} {a b : X} → Some a ≡ Some b → a ≡ b
some-same e = cc

-- its table is one of the script's
pub none-beyond : (tables : List Schema) (line : Stmt) → IsCommand line → IsStmtOf tables line → false ≡ nat_lt (table_of line) (length tables) → ⊥
none-beyond tables line c h e = let o = over-at tables line c h in clash (table_of line) (length tables) (place-below tables (table_of line) o.0 o.1) e
  where
    clash : (n m : ℕ) → n < m → false ≡ nat_lt n m → ⊥
    clash n m l q = grind (arith, nat_tests)

table-in : (tables : List Schema) (n : ℕ) (schema : Schema) → AllByRecursion IsTable tables → slice_get tables n ≡ Some schema → IsTable schema
table-in [] n schema all e = absurd (none e)
  where
    none : None ≡ Some schema → ⊥
    none e = cc
table-in (t ∷ ts) zero schema all e = subst IsTable (some-same e) all.0
table-in (t ∷ ts) (suc n) schema all e = table-in ts n schema all.1 e

pub dist-at : (tables : List Schema) (n : ℕ) (schema : Schema) → slice_get tables n ≡ Some schema → dist_of tables n ≡ schema.dist
dist-at [] n schema e = absurd (none e)
  where
    none : None ≡ Some schema → ⊥
    none e = cc
dist-at (t ∷ ts) zero schema e = ap (λ (s : Schema). s.dist) (some-same e)
dist-at (t ∷ ts) (suc n) schema e = dist-at ts n schema e

-- CONSTANTS
some-kind : (tuple : List Expr) (kinds : List Kind) → map (kind_of []) tuple ≡ map Some kinds → AllByRecursion IsConstant tuple
some-kind [] kinds h = tt
some-kind (e ∷ es) [] h = cc
some-kind (e ∷ es) (k ∷ ks) h =
    let here : Some k ≡ kind_of [] e = cc in
    let behind : map (kind_of []) es ≡ map Some ks = cc in
    (subst IsSome here refl, some-kind es ks behind)

constants-in : (columns : List Column) (tuple : List Expr) → IsTuple columns tuple → AreConstants tuple
constants-in columns tuple h = All-from_recursion IsConstant tuple (some-kind tuple (column_kinds columns) h)

wide : (columns : List Column) (tuple : List Expr) → IsTuple columns tuple → length tuple ≡ length columns
wide columns tuple h = sym (length-map tuple (kind_of [])) ∙ ap length h ∙ length-map (column_kinds columns) Some ∙ length-map columns column_kind

key-in : (columns : List Column) (dist : Dist) (tuple : List Expr) → IsDist columns dist → IsTuple columns tuple → HasKey dist tuple
key-in columns (By column) tuple d h = let same = wide columns tuple h in omega (arith, d, same)
key-in columns Randomly tuple d h = tt

constants-of : (schema : Schema) (line : Stmt) → IsOver schema line → HasConstants line
constants-of schema (stmt.Begin level) h = tt
constants-of schema stmt.Commit h = tt
constants-of schema stmt.Rollback h = tt
constants-of schema (stmt.Select q) h = tt
constants-of schema (stmt.Insert t x) h = λ k d l. constants-in schema.columns _ (h k d l)
constants-of schema (stmt.Update t x y) h = tt
constants-of schema (stmt.Delete t x) h = tt
constants-of schema (stmt.Lock t m) h = tt

pub has-constants : (tables : List Schema) (line : Stmt) → IsCommand line → IsStmtOf tables line → HasConstants line
has-constants tables line c h = let o = over-at tables line c h in constants-of o.0 line o.2

command-of : (schema : Schema) (line : Stmt) → IsCommand line → is_short line ≡ true → IsDist schema.columns schema.dist → IsOver schema line → plan_of.IsCommand schema.dist line
command-of schema (stmt.Begin level) c s d h = absurd c
command-of schema stmt.Commit c s d h = absurd c
command-of schema stmt.Rollback c s d h = absurd c
command-of schema (stmt.Select q) c s d h = tt
command-of schema (stmt.Insert t x) c s d h = (ltb-true _ _ s, λ k y l. record { constants = constants-in schema.columns _ (h k y l); key = key-in schema.columns schema.dist _ d (h k y l) })
command-of schema (stmt.Update t x y) c s d h = tt
command-of schema (stmt.Delete t x) c s d h = tt
command-of schema (stmt.Lock t m) c s d h = tt

pub planned-command : (script : Script) (line : Stmt) (schema : Schema) → IsScript script → IsCommand line → IsStmtOf script.tables line → is_short line ≡ true → slice_get script.tables (table_of line) ≡ Some schema → plan_of.IsCommand schema.dist line
planned-command script line schema language c h s e =
    let o = over-at script.tables line c h in
    let same : o.0 ≡ schema = some-same (sym o.1 ∙ e) in
    command-of schema line c s (table-in script.tables (table_of line) schema (recursion_from_All IsTable script.tables language.tables) e).schema.key (subst (λ (x : Schema). IsOver x line) same o.2)
