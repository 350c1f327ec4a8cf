-- The meaning of expressions and conditions on a row, over the mathematical integers. Both are defined by one node of the
-- tree, with what its parts gave in their places.
use Rattle.std.specs.Prelude.{ℕ, ◌^◌, ◌==◌, nat_lt, ℤ, pos, negsuc, neg_ℤ, ◌+ℤ◌, ◌-ℤ◌, ◌*ℤ◌, int_div, int_rem, unsigned_abs, Bool, true, false, not, if◌then◌else◌, List, slice_get, unwrap_or, Result, Ok, Err}
use Rattle.std.specs.Ordering.{is_eq, is_lt, is_le, is_gt, is_ge}
use Rattle.std.specs.declared.cmp.Ordering.{Ordering}
use Rattle.gx_tree.specs.Value.{value_order}
use Rattle.gx_tree.specs.declared.value.Value.{Value}
use Rattle.gx_tree.specs.declared.value.Value.TheVariants.{Int, Text}
use Rattle.gx_tree.specs.declared.expr.ArithOp.{ArithOp}
use Rattle.gx_tree.specs.declared.expr.ArithOp.TheVariants.{Add, Sub, Mul, Div, Rem}
use Rattle.gx_tree.specs.declared.expr.Expr.{Expr}
use Rattle.gx_tree.specs.declared.expr.Expr.TheOpen.{Expr-F}
use Rattle.gx_tree.specs.declared.expr.Expr.TheFolds.{fold-Expr}
use Rattle.gx_tree.specs.declared.cond.CmpOp.{CmpOp}
use Rattle.gx_tree.specs.declared.cond.CmpOp.TheVariants.{Eq, Ne, Lt, Le, Gt, Ge}
use Rattle.gx_tree.specs.declared.cond.Cond.{Cond}
use Rattle.gx_tree.specs.declared.cond.Cond.TheOpen.{Cond-F}
use Rattle.gx_tree.specs.declared.cond.Cond.TheFolds.{fold-Cond}
use Rattle.gx_meaning.specs.declared.fault.ArithFault.{ArithFault}
use Rattle.gx_meaning.specs.declared.fault.ArithFault.TheVariants.{Overflow, DivisionByZero}

-- from -2^63 to 2^63 - 1
abbrev pub is_in_range : ℤ → Bool
is_in_range (pos n) = nat_lt n (2 ^ 63)
is_in_range (negsuc n) = nat_lt n (2 ^ 63)

-- a number as a result
abbrev pub in_range : ℤ → Result Value ArithFault
in_range z = if is_in_range z then Ok (Int z) else Err Overflow

-- an operation on two numbers; division truncates towards zero, and a remainder has the sign of the left operand
abbrev pub arithmetic : ArithOp → ℤ → ℤ → Result Value ArithFault
arithmetic Add a b = in_range (a +ℤ b)
arithmetic Sub a b = in_range (a -ℤ b)
arithmetic Mul a b = in_range (a *ℤ b)
arithmetic Div a b = if unsigned_abs b == 0 then Err DivisionByZero else in_range (int_div a b)
arithmetic Rem a b = if unsigned_abs b == 0 then Err DivisionByZero else Ok (Int (int_rem a b))

-- what follows a value, unless there was a fault
abbrev pub and_then : {A B : Type 0} → Result A ArithFault → (A → Result B ArithFault) → Result B ArithFault
and_then (Ok value) next = next value
and_then (Err fault) next = Err fault

-- the number in a value; arithmetic is never on texts
abbrev pub number_in : Value → ℤ
number_in (Int z) = z
number_in (Text _) = pos 0

-- the value of a column; an expression names none that the row lacks
abbrev pub column_of : List Value → ℕ → Value
column_of row column = unwrap_or (slice_get row column) (Int (pos 0))

-- the value of one node, with the values of its parts in their places: the first fault from the left counts
abbrev pub value_step : List Value → Expr-F (Result Value ArithFault) → Result Value ArithFault
value_step row (Expr-F.Lit value) = Ok value
value_step row (Expr-F.Col column) = Ok (column_of row column)
value_step row (Expr-F.Neg inner) = and_then inner (λ a. in_range (neg_ℤ (number_in a)))
value_step row (Expr-F.Bin op left right) =
    and_then left (λ a. and_then right (λ b. arithmetic op (number_in a) (number_in b)))

-- the value of an expression on a row, or its fault
abbrev pub value_of : List Value → Expr → Result Value ArithFault
value_of row expr = fold-Expr (Result Value ArithFault) (value_step row) expr

-- a comparison, from the order of its two sides
abbrev pub compared : CmpOp → Ordering → Bool
compared Eq order = is_eq order
compared Ne order = not (is_eq order)
compared Lt order = is_lt order
compared Le order = is_le order
compared Gt order = is_gt order
compared Ge order = is_ge order

-- the order of the two sides of a comparison, or their first fault
abbrev pub order_of : List Value → Expr → Expr → Result Ordering ArithFault
order_of row left right = and_then (value_of row left) (λ a. and_then (value_of row right) (λ b. Ok (value_order a b)))

-- the truth of one node, with the truths of its parts in their places: the first fault from the left counts, and the right
-- side of AND doesn't where the left is false, nor that of OR where the left is true
abbrev pub truth_step : List Value → Cond-F (Result Bool ArithFault) → Result Bool ArithFault
truth_step row (Cond-F.Cmp op left right) = and_then (order_of row left right) (λ order. Ok (compared op order))
truth_step row (Cond-F.And left right) = and_then left (λ a. if a then right else Ok false)
truth_step row (Cond-F.Or left right) = and_then left (λ a. if a then Ok true else right)
truth_step row (Cond-F.Not inner) = and_then inner (λ a. Ok (not a))

-- the truth of a condition on a row, or its fault
abbrev pub truth_of : List Value → Cond → Result Bool ArithFault
truth_of row cond = fold-Cond (Result Bool ArithFault) (truth_step row) cond
