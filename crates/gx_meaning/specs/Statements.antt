-- What a resolved statement and a table have, for those who run them.
use Rattle.std.specs.Prelude.{◌≡◌, ◌⊎◌, ℕ, ◌<◌, ◌≤◌, Bool, true, false, List, [], ◌∷◌, length, map, slice_get, All, Option, Some, None, MatchOption}
use Rattle.gx_ids.specs.declared.ids.Table.{Table}
use Rattle.gx_tree.specs.declared.schema.Column.{Column}
use Rattle.gx_tree.specs.declared.schema.Kind.{Kind}
use Rattle.gx_tree.specs.declared.schema.Kind.TheVariants as kind
use Rattle.gx_tree.specs.declared.schema.Dist.{Dist}
use Rattle.gx_tree.specs.declared.schema.Dist.TheVariants as dist
use Rattle.gx_tree.specs.declared.schema.Schema.{Schema}
use Rattle.gx_tree.specs.declared.expr.Expr.{Expr}
use Rattle.gx_tree.specs.declared.cond.Cond.{Cond}
use Rattle.gx_tree.specs.declared.query.Item.{Item}
use Rattle.gx_tree.specs.declared.query.Item.TheVariants as item
use Rattle.gx_tree.specs.declared.query.Key.{Key}
use Rattle.gx_tree.specs.declared.query.Query.{Query}
use Rattle.gx_tree.specs.declared.stmt.Assign.{Assign}
use Rattle.gx_tree.specs.declared.stmt.Stmt.{Stmt}
use Rattle.gx_tree.specs.declared.stmt.Stmt.TheVariants as stmt
use Rattle.gx_meaning.specs.Kinds.{kind_of, IsTyped}

-- LISTS
abbrev pub IsOneOf : {A : Type 0} → A → List A → Type 0
IsOneOf x [] = ⊥
IsOneOf x (y ∷ ys) = (x ≡ y) ⊎ IsOneOf x ys

-- no item is one of those behind it
abbrev pub AreDistinct : {A : Type 0} → List A → Type 0
AreDistinct [] = Unit {0}
AreDistinct (x ∷ xs) = ¬ (IsOneOf x xs) × AreDistinct xs

-- COLUMNS, VALUES, CONDITIONS
abbrev pub column_kind : Column → Kind
column_kind column = column.kind

abbrev pub column_kinds : List Column → List Kind
column_kinds columns = map column_kind columns

abbrev pub IsColumn : List Column → ℕ → Type 0
IsColumn columns place = place < length columns

-- the column at this place has this kind
abbrev pub HasColumn : List Column → ℕ → Kind → Type 0
HasColumn columns place kind = slice_get (column_kinds columns) place ≡ Some kind

-- the expression names columns of the table alone and has this kind
abbrev pub HasKind : List Column → Expr → Kind → Type 0
HasKind columns expr kind = kind_of (column_kinds columns) expr ≡ Some kind

-- each comparison is of two expressions of one kind, over columns of the table
abbrev pub IsCond : List Column → Option Cond → Type 0
IsCond columns None = Unit {0}
IsCond columns (Some cond) = IsTyped (column_kinds columns) cond

-- QUERIES
-- SUM is over a bigint column
abbrev pub IsItem : List Column → Item → Type 0
IsItem columns (item.Col place) = IsColumn columns place
IsItem columns item.Count = Unit {0}
IsItem columns (item.Sum place) = HasColumn columns place kind.Int
IsItem columns (item.Min place) = IsColumn columns place
IsItem columns (item.Max place) = IsColumn columns place

abbrev pub IsPlain : Item → Type 0
IsPlain (item.Col place) = Unit {0}
IsPlain _ = ⊥

-- a plain item is a GROUP BY column
abbrev pub IsGroupItem : List ℕ → Item → Type 0
IsGroupItem group (item.Col place) = IsOneOf place group
IsGroupItem group _ = Unit {0}

abbrev pub IsGroupKey : List ℕ → Key → Type 0
IsGroupKey group key = IsOneOf key.col group

abbrev pub IsKey : List Column → Key → Type 0
IsKey columns key = IsColumn columns key.col

-- where a query groups, plain items and keys are GROUP BY columns; else all items are plain
abbrev pub KeepsGroups : Bool → List Item → List ℕ → List Key → Type 0
KeepsGroups true items group order = All (IsGroupItem group) items × All (IsGroupKey group) order
KeepsGroups false items group order = All IsPlain items × (group ≡ [])

pub record IsQuery (columns : List Column) (query : Query) : Type 0 where
  pub items : All (IsItem columns) query.items
  pub cond : IsCond columns query.cond
  pub group : All (IsColumn columns) query.group
  pub order : All (IsKey columns) query.order
  pub groups : KeepsGroups query.grouped query.items query.group query.order

-- INSERT AND UPDATE
-- a constant names no column, so it has a kind over none; a tuple has one of each column's kind
abbrev pub IsTuple : List Column → List Expr → Type 0
IsTuple columns tuple = map (kind_of []) tuple ≡ map Some (column_kinds columns)

-- the value is of the column's kind
abbrev pub IsAssign : List Column → Assign → Type 0
IsAssign columns assign = (kind : Kind) × HasColumn columns assign.col kind × HasKind columns assign.expr kind

abbrev pub assigned_column : Assign → ℕ
assigned_column assign = assign.col

abbrev pub KeepsKey : Dist → List Assign → Type 0
KeepsKey (dist.By key) assigns = ¬ (IsOneOf key (map assigned_column assigns))
KeepsKey dist.Randomly assigns = Unit {0}

-- SET writes distinct columns, and not the distribution column
pub record IsUpdate (schema : Schema) (set : List Assign) (found : Option Cond) : Type 0 where
  pub assigns : All (IsAssign schema.columns) set
  pub distinct : AreDistinct (map assigned_column set)
  pub key : KeepsKey schema.dist set
  pub cond : IsCond schema.columns found

-- STATEMENTS
-- a statement over its table
abbrev pub IsOver : Schema → Stmt → Type 0
IsOver schema (stmt.Select query) = IsQuery schema.columns query
IsOver schema (stmt.Insert table tuples) = All (IsTuple schema.columns) tuples
IsOver schema (stmt.Update table assigns cond) = IsUpdate schema assigns cond
IsOver schema (stmt.Delete table cond) = IsCond schema.columns cond
IsOver schema _ = Unit {0}

-- the table of a statement that has one
abbrev pub table_of : Stmt → Option Table
table_of (stmt.Select query) = Some query.table
table_of (stmt.Insert table tuples) = Some table
table_of (stmt.Update table assigns cond) = Some table
table_of (stmt.Delete table cond) = Some table
table_of (stmt.Lock table mode) = Some table
table_of _ = None

-- this table is that one of the tables
abbrev pub IsAt : List Schema → Table → Schema → Type 0
IsAt tables table schema = slice_get tables table.0 ≡ Some schema

-- the statement's table is one of the tables, and the statement keeps the rules over it
abbrev pub IsStmtOf : List Schema → Stmt → Type 0
IsStmtOf tables s = MatchOption (table_of s) (Unit {0}) (λ table. (schema : Schema) × IsAt tables table schema × IsOver schema s)

-- a table that was found stands among the tables
abbrev pub IsFound : List Schema → Option (Table × Schema) → Type 0
IsFound tables None = Unit {0}
IsFound tables (Some found) = IsAt tables found.0 found.1

-- TABLES
abbrev pub column_text : Column → List ℕ
column_text column = column.name

-- the distribution column is one of the table's
abbrev pub IsDist : List Column → Dist → Type 0
IsDist columns (dist.By place) = IsColumn columns place
IsDist columns dist.Randomly = Unit {0}

-- at least one column, under distinct names
pub record IsSchema (schema : Schema) : Type 0 where
  pub some : 1 ≤ length schema.columns
  pub distinct : AreDistinct (map column_text schema.columns)
  pub key : IsDist schema.columns schema.dist
