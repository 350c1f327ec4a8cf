-- What a kind says of the parts of an expression or a condition.
use Rattle.std.proofs.Common.{IsSome, subst, ℕ, zero, suc, ◌≡◌, ◌<◌, ◌∙◌, sym, ap, refl, arith, List, [], ◌∷◌, length, Some, None, Option, slice_get}
use Rattle.gx_tree.specs.declared.value.Value.{Value}
use Rattle.gx_tree.specs.declared.schema.Kind.{Kind}
use Rattle.gx_tree.specs.declared.schema.Kind.TheVariants as kind
use Rattle.gx_tree.specs.declared.expr.ArithOp.{ArithOp}
use Rattle.gx_tree.specs.declared.expr.Expr.{Expr, Neg, Bin, Col}
use Rattle.gx_meaning.specs.Kinds.{value_kind, kinds_of, kind_of, number_kind}
use Rattle.gx_meaning.specs.Expressions.{column_of}
use Rattle.gx_meaning.proofs.Nodes.{kind_of-col, kind_of-lit, kind_of-neg, kind_of-bin}

number_kind-number : (j k : Option Kind) (m : Kind) → number_kind j k ≡ Some m → (j ≡ Some kind.Int) × (k ≡ Some kind.Int) × (m ≡ kind.Int)
number_kind-number (Some kind.Int) (Some kind.Int) m e = (refl, refl, cc)
number_kind-number (Some kind.Int) (Some kind.Text) m e = cc
number_kind-number (Some kind.Int) None m e = cc
number_kind-number (Some kind.Text) k m e = cc
number_kind-number None k m e = cc

pub inner_kind : (kinds : List Kind) (e : Expr) (k : Kind) → kind_of kinds (Neg e) ≡ Some k → kind_of kinds e ≡ Some kind.Int
inner_kind kinds e k h = (number_kind-number _ _ k (sym (kind_of-neg kinds e) ∙ h)).0

pub left_kind : (kinds : List Kind) (op : ArithOp) (l r : Expr) (k : Kind) → kind_of kinds (Bin op l r) ≡ Some k → kind_of kinds l ≡ Some kind.Int
left_kind kinds op l r k h = (number_kind-number _ _ k (sym (kind_of-bin kinds op l r) ∙ h)).0

pub right_kind : (kinds : List Kind) (op : ArithOp) (l r : Expr) (k : Kind) → kind_of kinds (Bin op l r) ≡ Some k → kind_of kinds r ≡ Some kind.Int
right_kind kinds op l r k h = (number_kind-number _ _ k (sym (kind_of-bin kinds op l r) ∙ h)).1

get_within : (row : List Value) (column : ℕ) → IsSome (slice_get (kinds_of row) column) → column < length row
get_within [] column h = cc
get_within (v ∷ row) zero h = omega arith
get_within (v ∷ row) (suc column) h = let inner : column < length row = get_within row column h in omega arith

get_kind : (row : List Value) (column : ℕ) → IsSome (slice_get (kinds_of row) column) → slice_get (kinds_of row) column ≡ Some (value_kind (column_of row column))
get_kind [] column h = cc
get_kind (v ∷ row) zero h = refl
get_kind (v ∷ row) (suc column) h = get_kind row column h

-- a column that has a kind is one of the row's
pub column_within : (row : List Value) (e : Expr) (column : ℕ) → e ≡ Col column → IsSome (kind_of (kinds_of row) e) → column < length row
column_within row e column at h = get_within row column (subst IsSome (ap (kind_of (kinds_of row)) at ∙ kind_of-col (kinds_of row) column) h)

-- and its kind is that of its value
pub kind_of-column : (row : List Value) (e : Expr) (column : ℕ) → e ≡ Col column → IsSome (kind_of (kinds_of row) e) → kind_of (kinds_of row) e ≡ Some (value_kind (column_of row column))
kind_of-column row e column at h =
    let same : kind_of (kinds_of row) e ≡ slice_get (kinds_of row) column = ap (kind_of (kinds_of row)) at ∙ kind_of-col (kinds_of row) column in
    same ∙ get_kind row column (subst IsSome same h)

pub ruleset kinds = (kind_of-lit, inner_kind, left_kind, right_kind)
