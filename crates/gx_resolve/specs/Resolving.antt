-- Which statement is written over the tables, or what is wrong with it.
use Rattle.std.specs.Prelude.{ℕ, ◌+◌, ◌==◌, nat_eq, Bool, true, false, if◌then◌else◌, List, [], ◌∷◌, ◌++◌, map, Option, Some, None, Ok, Err}
use Rattle.std.specs.List.{list_any}
use Rattle.std.specs.Option.{option_and_then}
use Rattle.std.specs.Cmp.Lexicographic.{pointwise}
use Rattle.gx_ids.specs.declared.ids.Table.{Table}
use Rattle.gx_tree.specs.declared.schema.Column.{Column}
use Rattle.gx_tree.specs.declared.schema.Kind.{Kind}
use Rattle.gx_tree.specs.declared.schema.Kind.TheVariants as kind
use Rattle.gx_tree.specs.declared.schema.Dist.{Dist}
use Rattle.gx_tree.specs.declared.schema.Dist.TheVariants as dist
use Rattle.gx_tree.specs.declared.schema.Schema.{Schema}
use Rattle.gx_tree.specs.declared.stmt.Assign.{Assign}
use Rattle.gx_tree.specs.declared.stmt.Stmt.{Stmt}
use Rattle.gx_tree.specs.declared.stmt.Stmt.TheVariants as stmt
use Rattle.gx_lines.specs.declared.classes.KindSyn.{KindSyn}
use Rattle.gx_lines.specs.declared.classes.KindSyn.TheVariants as kind_syn
use Rattle.gx_grammar.specs.declared.syn.Syn.{Syn}
use Rattle.gx_lines.specs.declared.syn.AssignSyn.{AssignSyn}
use Rattle.gx_lines.specs.declared.syn.StmtSyn.{StmtSyn}
use Rattle.gx_lines.specs.declared.syn.StmtSyn.TheVariants as stmt_syn
use Rattle.gx_lines.specs.declared.syn.ColumnSyn.{ColumnSyn}
use Rattle.gx_lines.specs.declared.syn.DistSyn.{DistSyn}
use Rattle.gx_lines.specs.declared.syn.DistSyn.TheVariants as dist_syn
use Rattle.gx_lines.specs.declared.syn.TableSyn.{TableSyn}
use Rattle.gx_resolve.specs.declared.fault.NameFault.TheVariants.{Syntax, UnknownTable, TableExists, KeyUpdate}
use Rattle.gx_resolve.specs.Results.{Answer, ◌>>=◌, each}
use Rattle.gx_resolve.specs.Naming.{is_among, names_of, names_right}
use Rattle.gx_resolve.specs.Kinding.{column_at, where_as, tuple_as, assign_as}
use Rattle.gx_resolve.specs.Selecting.{query_as}

-- STATEMENTS
-- the table that a statement names
abbrev pub table_named : StmtSyn → Option (List ℕ)
table_named (stmt_syn.Select select) = Some select.table
table_named (stmt_syn.Insert table tuples) = Some table
table_named (stmt_syn.Update table assigns cond) = Some table
table_named (stmt_syn.Delete table cond) = Some table
table_named (stmt_syn.Lock table mode) = Some table
table_named _ = None

abbrev pub update_as : Table → List Column → List AssignSyn → Option Syn → Answer Stmt
update_as table columns assigns cond = do
  assigned ← each (assign_as columns) assigns
  found ← where_as columns cond
  Ok (stmt.Update table assigned found)

-- what is written over the columns of its table, by the kinds, counts and ranges alone
abbrev pub kinded : Table → List Column → StmtSyn → Answer Stmt
kinded table columns (stmt_syn.Begin level) = Ok (stmt.Begin level)
kinded table columns stmt_syn.Commit = Ok stmt.Commit
kinded table columns stmt_syn.Rollback = Ok stmt.Rollback
kinded table columns (stmt_syn.Select select) = do
  query ← query_as table columns select
  Ok (stmt.Select query)
kinded table columns (stmt_syn.Insert _ tuples) = do
  rows ← each (tuple_as columns) tuples
  Ok (stmt.Insert table rows)
kinded table columns (stmt_syn.Update _ assigns cond) = update_as table columns assigns cond
kinded table columns (stmt_syn.Delete _ cond) = do
  found ← where_as columns cond
  Ok (stmt.Delete table found)
kinded table columns (stmt_syn.Lock _ mode) = Ok (stmt.Lock table mode)

abbrev pub assigns_to : List Assign → ℕ → Bool
assigns_to assigns key = list_any (λ a. a.col == key) assigns

-- SET writes the column at this place
abbrev pub updates : Stmt → ℕ → Bool
updates (stmt.Update table assigns cond) key = assigns_to assigns key
updates _ key = false

-- SET writes the distribution column
abbrev pub sets_key : Dist → Stmt → Bool
sets_key (dist.By key) stmt = updates stmt key
sets_key dist.Randomly stmt = false

abbrev pub key_kept : Dist → Stmt → Answer Stmt
key_kept dist stmt = if sets_key dist stmt then Err KeyUpdate else Ok stmt

-- the names come first, then the kinds, then the distribution column
abbrev pub over_table : Table → Schema → StmtSyn → Answer Stmt
over_table table schema written = do
  names ← names_right schema.columns [] (names_of written)
  resolved ← kinded table schema.columns written
  key_kept schema.dist resolved

-- the columns of an unknown table aren't looked up
abbrev pub over_found : Option (Table × Schema) → StmtSyn → Answer Stmt
over_found None written = Err UnknownTable
over_found (Some found) written = over_table found.0 found.1 written

-- which statement is written, given the table of the name that stands there
abbrev pub stmt_from : Option (Table × Schema) → StmtSyn → Answer Stmt
stmt_from found (stmt_syn.Begin level) = Ok (stmt.Begin level)
stmt_from found stmt_syn.Commit = Ok stmt.Commit
stmt_from found stmt_syn.Rollback = Ok stmt.Rollback
stmt_from found written = over_found found written

-- the place, counted from a number on, and the first table of this name
abbrev pub table_after : ℕ → List ℕ → List Schema → Option (Table × Schema)
table_after place name [] = None
table_after place name (t ∷ ts) = if pointwise nat_eq t.name name then Some (record { 0 = place }, t) else table_after (place + 1) name ts

-- which statement is written over these tables
abbrev pub stmt_of : List Schema → StmtSyn → Answer Stmt
stmt_of tables written = stmt_from (option_and_then (λ name. table_after 0 name tables) (table_named written)) written

-- TABLE LINES
abbrev pub kind_as : KindSyn → Kind
kind_as kind_syn.Bigint = kind.Int
kind_as kind_syn.Text = kind.Text

abbrev pub column_as : ColumnSyn → Column
column_as column = record { name = column.name; kind = kind_as column.kind }

abbrev pub column_name : ColumnSyn → List ℕ
column_name column = column.name

-- no column is named twice, given those before
abbrev pub columns_new : List (List ℕ) → List ColumnSyn → Answer (Unit {0})
columns_new before [] = Ok tt
columns_new before (c ∷ cs) = if is_among before c.name then Err Syntax else columns_new (before ++ c.name ∷ []) cs

-- the distribution column is one of the table's
abbrev pub dist_as : List Column → DistSyn → Answer Dist
dist_as columns dist_syn.Randomly = Ok dist.Randomly
dist_as columns (dist_syn.By name) = do
  column ← column_at columns name
  Ok (dist.By column.0)

-- the columns' names come before the distribution column
abbrev pub new_table : TableSyn → Answer Schema
new_table table = do
  columns ← columns_new [] table.columns
  spread ← dist_as (map column_as table.columns) table.dist
  Ok (record { name = table.name; columns = map column_as table.columns; dist = spread })

-- which table a line declares, given whether a table of its name is known
abbrev pub table_from : Bool → TableSyn → Answer Schema
table_from true table = Err TableExists
table_from false table = new_table table
