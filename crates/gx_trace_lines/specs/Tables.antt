-- The lines of a table: its name and the number of its rows, and each row.
use Rattle.std.specs.Prelude.{ℕ, Bool, true, false, ◌&&◌, if◌then◌else◌, List, [], ◌∷◌, ◌++◌, map, Option, Some, None, option_and_then, codes}
use Rattle.gx_meaning.specs.Aggregates.{cell_of}
use Rattle.gx_report.specs.Text.{cells_text}
use Rattle.gx_report.specs.Words.{number_text}
use Rattle.gx_tree.specs.declared.schema.Column.{Column}
use Rattle.gx_tree.specs.declared.schema.Kind.{Kind}
use Rattle.gx_tree.specs.declared.schema.Kind.TheVariants as kind
use Rattle.gx_tree.specs.declared.schema.Schema.{Schema}
use Rattle.gx_tree.specs.declared.value.Value.{Value}
use Rattle.gx_tree.specs.declared.value.Value.TheVariants as value
use Rattle.gx_trace.specs.Fields.{count}
use Rattle.gx_trace.specs.Readers.{Front, behind}
use Rattle.gx_trace.specs.Values.{values}

-- PRINTED
abbrev pub table_head_text : List ℕ → ℕ → List ℕ
table_head_text name rows = codes "table " ++ (name ++ number_text rows)

abbrev pub table_row_text : List Value → List ℕ
table_row_text row = codes "  " ++ cells_text (map cell_of row)

-- READ
abbrev pub table_head : List ℕ → List ℕ → Front ℕ
table_head name = behind (codes "table ") (behind name count)

abbrev pub has_kind : Kind → Value → Bool
has_kind kind.Int (value.Int number) = true
has_kind kind.Text (value.Text text) = true
has_kind _ _ = false

-- a value for each column, of its kind
abbrev pub has_kinds : List Column → List Value → Bool
has_kinds [] [] = true
has_kinds (c ∷ cs) (v ∷ vs) = has_kind c.kind v && has_kinds cs vs
has_kinds _ _ = false

abbrev pub kept_kinds : List Column → List Value × List ℕ → Front (List Value)
kept_kinds columns x = if has_kinds columns x.0 then Some x else None

-- values with bars between, or none
abbrev pub values_if_any : List ℕ → Front (List Value)
values_if_any [] = Some ([], [])
values_if_any (b ∷ bs) = values (b ∷ bs)

abbrev pub row_of_kinds : List Column → List ℕ → Front (List Value)
row_of_kinds columns bytes = option_and_then (kept_kinds columns) (values_if_any bytes)

abbrev pub table_row : List Column → List ℕ → Front (List Value)
table_row columns = behind (codes "  ") (row_of_kinds columns)
