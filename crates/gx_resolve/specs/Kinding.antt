-- Values, conditions and tuples over the columns of a table, with the kinds that they must have.
use Rattle.std.specs.Prelude.{ℕ, List, [], ◌∷◌, Option, Some, None, Ok, Err, ok_or}
use Rattle.gx_tree.specs.declared.schema.Column.{Column}
use Rattle.gx_tree.specs.declared.schema.Kind.{Kind}
use Rattle.gx_tree.specs.declared.schema.Kind.TheVariants as kind
use Rattle.gx_tree.specs.declared.expr.Expr.{Expr}
use Rattle.gx_tree.specs.declared.cond.Cond.{Cond}
use Rattle.gx_tree.specs.declared.stmt.Assign.{Assign}
use Rattle.gx_grammar.specs.declared.syn.Syn.{Syn}
use Rattle.gx_lines.specs.declared.syn.TupleSyn.{TupleSyn}
use Rattle.gx_lines.specs.declared.syn.AssignSyn.{AssignSyn}
use Rattle.gx_resolve.specs.Columns.{column_of}
use Rattle.gx_resolve.specs.Typing.{typed_of}
use Rattle.gx_resolve.specs.declared.typed.Typed.{Typed}
use Rattle.gx_resolve.specs.declared.typed.Typed.TheVariants as typed
use Rattle.gx_resolve.specs.declared.fault.NameFault.TheVariants.{UnknownColumn, TypeMismatch}
use Rattle.gx_resolve.specs.Results.{Answer, ◌>>=◌}

-- the place and the kind of a column
abbrev pub column_at : List Column → List ℕ → Answer (ℕ × Kind)
column_at columns name = ok_or (column_of name columns) UnknownColumn

-- a value of a kind
abbrev pub value_as : Kind → Typed → Answer Expr
value_as kind.Int (typed.Value kind.Int expr) = Ok expr
value_as kind.Text (typed.Value kind.Text expr) = Ok expr
value_as _ _ = Err TypeMismatch

abbrev pub cond_as : Typed → Answer Cond
cond_as (typed.Cond cond) = Ok cond
cond_as _ = Err TypeMismatch

-- WHERE takes a condition
abbrev pub where_as : List Column → Option Syn → Answer (Option Cond)
where_as columns None = Ok None
where_as columns (Some syn) = do
  cond ← cond_as (typed_of columns syn)
  Ok (Some cond)

-- a value in VALUES names no column
abbrev pub constant_as : Kind → Syn → Answer Expr
constant_as kind value = value_as kind (typed_of [] value)

-- a tuple of VALUES has a value of each column's kind and nothing else
abbrev pub values_as : List Column → List Syn → Answer (List Expr)
values_as [] [] = Ok []
values_as (c ∷ cs) (v ∷ vs) = do
  expr ← constant_as c.kind v
  exprs ← values_as cs vs
  Ok (expr ∷ exprs)
values_as _ _ = Err TypeMismatch

abbrev pub tuple_as : List Column → TupleSyn → Answer (List Expr)
tuple_as columns tuple = values_as columns tuple.values

-- SET takes a value of the column's kind
abbrev pub assign_as : List Column → AssignSyn → Answer Assign
assign_as columns assign = do
  column ← column_at columns assign.column
  expr ← value_as column.1 (typed_of columns assign.value)
  Ok (record { col = column.0; expr = expr })
