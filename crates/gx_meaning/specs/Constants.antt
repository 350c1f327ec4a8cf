-- The rows of an INSERT: the values of its constants, or the fault of the first constant that gives one.
use Rattle.std.specs.Prelude.{ℕ, ◌+◌, ◌<◌, List, [], ◌∷◌, length, Result, Ok, IsSome, All}
use Rattle.gx_ids.specs.declared.ids.Gxid.{Gxid}
use Rattle.gx_ids.specs.declared.ids.Cid.{Cid}
use Rattle.gx_tree.specs.declared.expr.Expr.{Expr}
use Rattle.gx_tree.specs.declared.row.KeyedRow.{KeyedRow}
use Rattle.gx_tree.specs.declared.schema.Dist.{Dist}
use Rattle.gx_tree.specs.declared.schema.Dist.TheVariants.{By, Randomly}
use Rattle.gx_tree.specs.declared.value.Value.{Value}
use Rattle.gx_meaning.specs.declared.fault.ArithFault.{ArithFault}
use Rattle.gx_meaning.specs.Kinds.{kind_of}
use Rattle.gx_meaning.specs.Expressions.{and_then, value_of}

-- what each item gives, by its number, or the first fault
abbrev pub each_from : {A B : Type 0} → (ℕ → A → Result B ArithFault) → ℕ → List A → Result (List B) ArithFault
each_from f k [] = Ok []
each_from f k (x ∷ xs) = and_then (f k x) (λ y. and_then (each_from f (k + 1) xs) (λ ys. Ok (y ∷ ys)))

-- a constant names no column, so it is evaluated on a row without any
abbrev pub constant : ℕ → Expr → Result Value ArithFault
constant _ expr = value_of [] expr

-- the values of a tuple
abbrev pub values_of : List Expr → Result (List Value) ArithFault
values_of tuple = each_from constant 0 tuple

-- a row with its identity
abbrev pub keyed : Gxid → Cid → ℕ → List Value → KeyedRow
keyed g c ordinal row = record { rid = record { gxid = g; cid = c; ordinal = ordinal }; row = row }

-- the row of a tuple
abbrev pub tuple_row : Gxid → Cid → ℕ → List Expr → Result KeyedRow ArithFault
tuple_row g c ordinal tuple = and_then (values_of tuple) (λ row. Ok (keyed g c ordinal row))

-- the rows of the tuples, whose ordinals count from 1
abbrev pub rows_of : Gxid → Cid → List (List Expr) → Result (List KeyedRow) ArithFault
rows_of g c tuples = each_from (tuple_row g c) 1 tuples

-- the constant has a kind, so it is well typed and names no column
abbrev pub IsConstant : Expr → Type 0
IsConstant expr = IsSome (kind_of [] expr)

-- the distribution column is one of the tuple's
abbrev pub HasKey : Dist → List Expr → Type 0
HasKey (By column) tuple = column < length tuple
HasKey Randomly tuple = Unit {0}

-- a tuple of constants with a key
pub record IsTuple (dist : Dist) (tuple : List Expr) : Type 0 where
  pub constants : All IsConstant tuple
  pub key : HasKey dist tuple
