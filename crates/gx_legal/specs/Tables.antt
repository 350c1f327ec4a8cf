-- The table of a line.
use Rattle.std.specs.Prelude.{◌≡◌, ◌<◌, ◌^◌, slice_get, length, Some, None, List}
use Rattle.std.specs.declared.option.Option.{Option}
use Rattle.gx_ids.specs.declared.ids.Table.{Table}
use Rattle.gx_meaning.specs.Statements.{table_of}
use Rattle.gx_tree.specs.declared.schema.Schema.{Schema}
use Rattle.gx_tree.specs.declared.stmt.Stmt.{Stmt}
use Rattle.gx_tree.specs.declared.stmt.Stmt.TheVariants.{Insert}

-- the table at this place among the tables, if there is a place
abbrev pub table_at : List Schema → Option Table → Option Schema
table_at tables None = None
table_at tables (Some table) = slice_get tables table.0

-- the line's table is this one
abbrev pub IsOn : List Schema → Stmt → Schema → Type 0
IsOn tables line schema = table_at tables (table_of line) ≡ Some schema

-- the tuples of an INSERT have numbers
abbrev pub IsShort : Stmt → Type 0
IsShort (Insert table tuples) = length tuples < 2 ^ 32
IsShort _ = Unit {0}
