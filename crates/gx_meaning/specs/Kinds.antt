-- The kinds of expressions and conditions over columns of given kinds. Each is defined by one node of the tree, with what
-- its parts gave in their places.
use Rattle.std.specs.Prelude.{Bool, true, false, ◌&&◌, IsTrue, List, map, slice_get, Option, Some, None}
use Rattle.gx_tree.specs.declared.schema.Kind.{Kind}
use Rattle.gx_tree.specs.declared.schema.Kind.TheVariants as kind
use Rattle.gx_tree.specs.declared.value.Value.{Value}
use Rattle.gx_tree.specs.declared.value.Value.TheVariants.{Int, Text}
use Rattle.gx_tree.specs.declared.expr.Expr.{Expr}
use Rattle.gx_tree.specs.declared.expr.Expr.TheOpen.{Expr-F}
use Rattle.gx_tree.specs.declared.expr.Expr.TheFolds.{fold-Expr}
use Rattle.gx_tree.specs.declared.cond.Cond.{Cond}
use Rattle.gx_tree.specs.declared.cond.Cond.TheOpen.{Cond-F}
use Rattle.gx_tree.specs.declared.cond.Cond.TheFolds.{fold-Cond}

-- the kind of a value
abbrev pub value_kind : Value → Kind
value_kind (Int _) = kind.Int
value_kind (Text _) = kind.Text

-- the kinds of a row's values
abbrev pub kinds_of : List Value → List Kind
kinds_of row = map value_kind row

-- arithmetic is on whole numbers and gives one
abbrev pub number_kind : Option Kind → Option Kind → Option Kind
number_kind (Some kind.Int) (Some kind.Int) = Some kind.Int
number_kind _ _ = None

abbrev pub kind_step : List Kind → Expr-F (Option Kind) → Option Kind
kind_step kinds (Expr-F.Lit value) = Some (value_kind value)
kind_step kinds (Expr-F.Col column) = slice_get kinds column
kind_step kinds (Expr-F.Neg inner) = number_kind inner inner
kind_step kinds (Expr-F.Bin op left right) = number_kind left right

-- the kind of an expression over columns of these kinds, if it has one
abbrev pub kind_of : List Kind → Expr → Option Kind
kind_of kinds expr = fold-Expr (Option Kind) (kind_step kinds) expr

-- a comparison is of two whole numbers or of two texts
abbrev pub are_comparable : Option Kind → Option Kind → Bool
are_comparable (Some kind.Int) (Some kind.Int) = true
are_comparable (Some kind.Text) (Some kind.Text) = true
are_comparable _ _ = false

abbrev pub typed_step : List Kind → Cond-F Bool → Bool
typed_step kinds (Cond-F.Cmp op left right) = are_comparable (kind_of kinds left) (kind_of kinds right)
typed_step kinds (Cond-F.And left right) = left && right
typed_step kinds (Cond-F.Or left right) = left && right
typed_step kinds (Cond-F.Not inner) = inner

-- each comparison in the condition is of two expressions of one kind
abbrev pub is_typed : List Kind → Cond → Bool
is_typed kinds cond = fold-Cond Bool (typed_step kinds) cond

abbrev pub IsTyped : List Kind → Cond → Type 0
IsTyped kinds cond = IsTrue (is_typed kinds cond)
