-- What the definitions give at each kind of node.
use Rattle.std.proofs.Common.{ℕ, ◌≡◌, ◌∙◌, sym, ap, List, neg_ℤ, Ok, Some, Option, Result, Bool, true, false, cond, not, ◌&&◌, slice_get}
use Rattle.gx_tree.specs.declared.value.Value.{Value}
use Rattle.gx_tree.specs.declared.schema.Kind.{Kind}
use Rattle.gx_tree.specs.declared.expr.ArithOp.{ArithOp}
use Rattle.gx_tree.specs.declared.expr.Expr.{Expr, Neg, Bin, Lit, Col}
use Rattle.gx_tree.specs.declared.expr.Expr.TheVariants.{rolls-Neg, rolls-Bin, rolls-Lit, rolls-Col}
use Rattle.gx_tree.specs.declared.expr.Expr.TheOpen.{Expr-F}
use Rattle.gx_tree.specs.declared.expr.Expr.TheFolds.{fold-roll-Expr}
use Rattle.gx_tree.specs.declared.cond.CmpOp.{CmpOp}
use Rattle.gx_tree.specs.declared.cond.Cond.{Cond, Cmp, And, Or, Not}
use Rattle.gx_tree.specs.declared.cond.Cond.TheVariants.{rolls-Cmp, rolls-And, rolls-Or, rolls-Not}
use Rattle.gx_tree.specs.declared.cond.Cond.TheOpen.{Cond-F}
use Rattle.gx_tree.specs.declared.cond.Cond.TheFolds.{fold-roll-Cond}
use Rattle.gx_meaning.specs.Kinds.{value_kind, kind_of, kind_step, number_kind, is_typed, typed_step, are_comparable}
use Rattle.gx_meaning.specs.Expressions.{value_of, value_step, truth_of, truth_step, order_of, compared, and_then, in_range, number_in, arithmetic, column_of}
use Rattle.gx_meaning.specs.declared.fault.ArithFault.{ArithFault}

abbrev Valued : Type 0
Valued = Result Value ArithFault

abbrev True : Type 0
True = Result Bool ArithFault

pub value_of-lit : (row : List Value) (value : Value) → value_of row (Lit value) ≡ Ok value
value_of-lit row value = ap (value_of row) (sym (rolls-Lit value)) ∙ fold-roll-Expr Valued (value_step row) (Expr-F.Lit value)

pub value_of-col : (row : List Value) (column : ℕ) → value_of row (Col column) ≡ Ok (column_of row column)
value_of-col row column = ap (value_of row) (sym (rolls-Col column)) ∙ fold-roll-Expr Valued (value_step row) (Expr-F.Col column)

pub value_of-neg : (row : List Value) (e : Expr) → value_of row (Neg e) ≡ and_then (value_of row e) (λ a. in_range (neg_ℤ (number_in a)))
value_of-neg row e = ap (value_of row) (sym (rolls-Neg e)) ∙ fold-roll-Expr Valued (value_step row) (Expr-F.Neg e)

pub value_of-bin : (row : List Value) (op : ArithOp) (l r : Expr) → value_of row (Bin op l r) ≡ and_then (value_of row l) (λ a. and_then (value_of row r) (λ b. arithmetic op (number_in a) (number_in b)))
value_of-bin row op l r = ap (value_of row) (sym (rolls-Bin op l r)) ∙ fold-roll-Expr Valued (value_step row) (Expr-F.Bin op l r)

pub ruleset values = (value_of-lit, value_of-col, value_of-neg, value_of-bin)

pub kind_of-lit : (kinds : List Kind) (value : Value) → kind_of kinds (Lit value) ≡ Some (value_kind value)
kind_of-lit kinds value = ap (kind_of kinds) (sym (rolls-Lit value)) ∙ fold-roll-Expr (Option Kind) (kind_step kinds) (Expr-F.Lit value)

pub kind_of-col : (kinds : List Kind) (column : ℕ) → kind_of kinds (Col column) ≡ slice_get kinds column
kind_of-col kinds column = ap (kind_of kinds) (sym (rolls-Col column)) ∙ fold-roll-Expr (Option Kind) (kind_step kinds) (Expr-F.Col column)

pub kind_of-neg : (kinds : List Kind) (e : Expr) → kind_of kinds (Neg e) ≡ number_kind (kind_of kinds e) (kind_of kinds e)
kind_of-neg kinds e = ap (kind_of kinds) (sym (rolls-Neg e)) ∙ fold-roll-Expr (Option Kind) (kind_step kinds) (Expr-F.Neg e)

pub kind_of-bin : (kinds : List Kind) (op : ArithOp) (l r : Expr) → kind_of kinds (Bin op l r) ≡ number_kind (kind_of kinds l) (kind_of kinds r)
kind_of-bin kinds op l r = ap (kind_of kinds) (sym (rolls-Bin op l r)) ∙ fold-roll-Expr (Option Kind) (kind_step kinds) (Expr-F.Bin op l r)

pub ruleset expression_kinds = (kind_of-lit, kind_of-col, kind_of-neg, kind_of-bin)

pub truth_of-cmp : (row : List Value) (op : CmpOp) (l r : Expr) → truth_of row (Cmp op l r) ≡ and_then (order_of row l r) (λ order. Ok (compared op order))
truth_of-cmp row op l r = ap (truth_of row) (sym (rolls-Cmp op l r)) ∙ fold-roll-Cond True (truth_step row) (Cond-F.Cmp op l r)

pub truth_of-and : (row : List Value) (l r : Cond) → truth_of row (And l r) ≡ and_then (truth_of row l) (λ a. cond a (truth_of row r) (Ok false))
truth_of-and row l r = ap (truth_of row) (sym (rolls-And l r)) ∙ fold-roll-Cond True (truth_step row) (Cond-F.And l r)

pub truth_of-or : (row : List Value) (l r : Cond) → truth_of row (Or l r) ≡ and_then (truth_of row l) (λ a. cond a (Ok true) (truth_of row r))
truth_of-or row l r = ap (truth_of row) (sym (rolls-Or l r)) ∙ fold-roll-Cond True (truth_step row) (Cond-F.Or l r)

pub truth_of-not : (row : List Value) (inner : Cond) → truth_of row (Not inner) ≡ and_then (truth_of row inner) (λ a. Ok (not a))
truth_of-not row inner = ap (truth_of row) (sym (rolls-Not inner)) ∙ fold-roll-Cond True (truth_step row) (Cond-F.Not inner)

pub ruleset truths = (truth_of-cmp, truth_of-and, truth_of-or, truth_of-not)

pub is_typed-cmp : (kinds : List Kind) (op : CmpOp) (l r : Expr) → is_typed kinds (Cmp op l r) ≡ are_comparable (kind_of kinds l) (kind_of kinds r)
is_typed-cmp kinds op l r = ap (is_typed kinds) (sym (rolls-Cmp op l r)) ∙ fold-roll-Cond Bool (typed_step kinds) (Cond-F.Cmp op l r)

pub is_typed-and : (kinds : List Kind) (l r : Cond) → is_typed kinds (And l r) ≡ (is_typed kinds l && is_typed kinds r)
is_typed-and kinds l r = ap (is_typed kinds) (sym (rolls-And l r)) ∙ fold-roll-Cond Bool (typed_step kinds) (Cond-F.And l r)

pub is_typed-or : (kinds : List Kind) (l r : Cond) → is_typed kinds (Or l r) ≡ (is_typed kinds l && is_typed kinds r)
is_typed-or kinds l r = ap (is_typed kinds) (sym (rolls-Or l r)) ∙ fold-roll-Cond Bool (typed_step kinds) (Cond-F.Or l r)

pub is_typed-not : (kinds : List Kind) (inner : Cond) → is_typed kinds (Not inner) ≡ is_typed kinds inner
is_typed-not kinds inner = ap (is_typed kinds) (sym (rolls-Not inner)) ∙ fold-roll-Cond Bool (typed_step kinds) (Cond-F.Not inner)

pub ruleset typings = (is_typed-cmp, is_typed-and, is_typed-or, is_typed-not)
