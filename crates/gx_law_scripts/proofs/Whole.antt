-- The INSERTs and UPDATEs of a script that was read are whole.
use Rattle.std.proofs.Common.{◌≡◌, ℕ, zero, suc, ◌<◌, List, [], ◌∷◌, length, Ok, Some, slice_get, sym, ◌∙◌, ap, subst, arith}
use Rattle.std.specs.List.{AllByRecursion}
use Rattle.std.proofs.lemmas.List.{length-map}
use Rattle.std.proofs.lemmas.List.Elements.{recursion_from_All}
use Rattle.gx_tree.specs.declared.expr.Expr.{Expr}
use Rattle.gx_tree.specs.declared.schema.Column.{Column}
use Rattle.gx_tree.specs.declared.schema.Dist.{Dist}
use Rattle.gx_tree.specs.declared.schema.Dist.TheVariants as dist
use Rattle.gx_tree.specs.declared.schema.Schema.{Schema}
use Rattle.gx_tree.specs.declared.stmt.Stmt.{Stmt}
use Rattle.gx_tree.specs.declared.stmt.Stmt.TheVariants as stmt
use Rattle.gx_meaning.specs.Kinds.{kind_of}
use Rattle.gx_meaning.specs.Constants.{HasKey}
use Rattle.gx_meaning.specs.Statements.{column_kind, column_kinds, IsDist, IsStmtOf, IsTuple, KeepsKey}
use Rattle.gx_script.specs.declared.Line.{Line}
use Rattle.gx_script.specs.declared.Script.{Script}
use Rattle.gx_store.specs.Language.{IsLine, IsTable}
use Rattle.gx_sql.specs.Script.{Reads}
use Rattle.gx_store.specs.Writes.{dist_of}
use Rattle.gx_store.specs.Whole.{AreInsertsWhole, HaveKeys, IsWholeStmt}
use Rattle.gx_store.specs.Limits.{IsBoundedLine, IsBoundedStmt}
use Rattle.gx_sql.proofs.Limited.{script-kept}

-- TUPLES
tuple_long : (columns : List Column) (tuple : List Expr) → IsTuple columns tuple → length tuple ≡ length columns
tuple_long columns tuple is = sym (length-map tuple (kind_of [])) ∙ ap length is ∙ length-map (column_kinds columns) Some ∙ length-map columns column_kind

tuple_key : (columns : List Column) (d : Dist) (tuple : List Expr) → IsDist columns d → IsTuple columns tuple → HasKey d tuple
tuple_key columns (dist.By key) tuple within is = subst (λ (n : ℕ). key < n) (sym (tuple_long columns tuple is)) within
tuple_key columns dist.Randomly tuple within is = tt

have_keys : (columns : List Column) (d : Dist) (tuples : List (List Expr)) → IsDist columns d → AllByRecursion (IsTuple columns) tuples → HaveKeys d tuples
have_keys columns d [] within is = tt
have_keys columns d (tuple ∷ tuples) within is = (tuple_key columns d tuple within is.0, have_keys columns d tuples within is.1)

-- LINES
record Stands (tables : List Schema) (k : ℕ) (schema : Schema) : Type 0 where
  pub key : IsDist schema.columns schema.dist
  pub same : dist_of tables k ≡ schema.dist

table_stands : (tables : List Schema) (k : ℕ) (schema : Schema) → AllByRecursion IsTable tables → slice_get tables k ≡ Some schema → Stands tables k schema
table_stands [] k schema are e = absurd cc
table_stands (t ∷ ts) zero schema are e =
    let same : t ≡ schema = cc in
    record { key = subst (λ (t : Schema). IsDist t.columns t.dist) same are.0.schema.key; same = ap (λ (t : Schema). t.dist) same }
table_stands (t ∷ ts) (suc k) schema are e =
    let s = table_stands ts k schema are.1 e in
    record { key = s.key; same = s.same }

stmt_whole : (tables : List Schema) (s : Stmt) → AllByRecursion IsTable tables → IsStmtOf tables s → IsBoundedStmt s → IsWholeStmt tables s
stmt_whole tables (stmt.Begin level) are of one = tt
stmt_whole tables stmt.Commit are of one = tt
stmt_whole tables stmt.Rollback are of one = tt
stmt_whole tables (stmt.Select query) are of one = tt
stmt_whole tables (stmt.Insert table []) are of one = absurd (let some = one.0 in omega (arith, some))
stmt_whole tables (stmt.Insert table (tuple ∷ tuples)) are (schema, at, over) one =
    let s = table_stands tables table.0 schema are at in
    subst (λ (d : Dist). HaveKeys d (tuple ∷ tuples)) (sym s.same) (have_keys schema.columns schema.dist (tuple ∷ tuples) s.key (recursion_from_All (IsTuple schema.columns) (tuple ∷ tuples) over))
stmt_whole tables (stmt.Update table set cond) are (schema, at, over) one =
    let s = table_stands tables table.0 schema are at in
    subst (λ (d : Dist). KeepsKey d set) (sym s.same) over.key
stmt_whole tables (stmt.Delete table cond) are of one = tt
stmt_whole tables (stmt.Lock table mode) are of one = tt

lines_whole : (tables : List Schema) (sessions : ℕ) (ls : List Line) → AllByRecursion IsTable tables → AllByRecursion (IsLine tables sessions) ls → AllByRecursion IsBoundedLine ls → AreInsertsWhole tables ls
lines_whole tables sessions [] are of h = tt
lines_whole tables sessions (l ∷ ls) are of h = (stmt_whole tables l.stmt are of.0.1 h.0, lines_whole tables sessions ls are of.1 h.1)

pub inserts_whole : (bytes : List ℕ) (s : Script) → Reads bytes (Ok s) → AreInsertsWhole s.tables s.lines
inserts_whole bytes s h =
    let is = script-kept bytes s h in
    let sessions = length s.sessions in
    lines_whole s.tables sessions s.lines (recursion_from_All IsTable s.tables is.tables) (recursion_from_All (IsLine s.tables sessions) s.lines is.lines) (recursion_from_All IsBoundedLine s.lines is.limits)
