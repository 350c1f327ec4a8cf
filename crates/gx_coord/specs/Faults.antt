-- Commands, and constants of an INSERT that fault.
use Rattle.std.specs.Prelude.{◌≡◌, ℕ, ◌+◌, ◌^◌, Bool, true, false, nat_lt, if◌then◌else◌, List, [], ◌∷◌, length, All, Result, Ok, Err}
use Rattle.gx_ids.specs.declared.ids.Cid.{Cid}
use Rattle.gx_ids.specs.declared.ids.Gxid.{Gxid}
use Rattle.gx_tree.specs.declared.expr.Expr.{Expr}
use Rattle.gx_tree.specs.declared.stmt.Stmt.{Stmt}
use Rattle.gx_tree.specs.declared.stmt.Stmt.TheVariants as stmt
use Rattle.gx_meaning.specs.Expressions.{value_of}
use Rattle.gx_meaning.specs.declared.fault.ArithFault.{ArithFault}
use Rattle.gx_meaning.specs.declared.fault.ArithFault.TheVariants as arith
use Rattle.gx_eval.specs.declared.fault.EvalFault.{EvalFault}
use Rattle.gx_eval.specs.declared.fault.EvalFault.TheVariants as eval
use Rattle.gx_tree.specs.declared.value.Value.{Value}
use Rattle.gx_meaning.specs.Constants.{IsConstant}
use Rattle.gx_meaning.specs.Plan.{plan_of}
use Rattle.gx_meaning.specs.declared.piece.Piece.{Piece}
use Rattle.gx_script.specs.declared.Script.{Script}
use Rattle.gx_store.specs.Writes.{dist_of}
use Rattle.gx_rules.specs.AtCoordinator.{table_of}

-- the statement is sent to segments
abbrev pub IsCommand : Stmt → Type 0
IsCommand (stmt.Select query) = Unit {0}
IsCommand (stmt.Insert table tuples) = Unit {0}
IsCommand (stmt.Update table assigns cond) = Unit {0}
IsCommand (stmt.Delete table cond) = Unit {0}
IsCommand (stmt.Lock table mode) = Unit {0}
IsCommand _ = ⊥

-- the rows of its tuples, if it has any, have numbers of 32 bits
abbrev pub is_short : Stmt → Bool
is_short (stmt.Insert table tuples) = nat_lt (length tuples) (2 ^ 32)
is_short _ = true

-- the pieces of a command of a script, or the first fault of its constants
abbrev pub planned : Script → Gxid → Cid → Stmt → Result (List Piece) ArithFault
planned script g c line = plan_of script.segments (dist_of script.tables (table_of line)) g c line

-- CONSTANTS
-- an evaluation answers a meaning, unless memory runs out
abbrev pub Means : Result Value ArithFault → Result Value EvalFault → Type 0
Means meaning (Ok value) = meaning ≡ Ok value
Means meaning (Err eval.Overflow) = meaning ≡ Err arith.Overflow
Means meaning (Err eval.DivisionByZero) = meaning ≡ Err arith.DivisionByZero
Means meaning (Err eval.OutOfMemory) = Unit {0}

abbrev pub has_value : {A : Type 0} → Result A ArithFault → Bool
has_value (Ok value) = true
has_value (Err fault) = false

abbrev pub has_values : List Expr → Bool
has_values [] = true
has_values (expr ∷ exprs) = if has_value (value_of [] expr) then has_values exprs else false

-- the number of the first tuple that has a fault
abbrev pub faulting : ℕ → List (List Expr) → ℕ
faulting ordinal [] = ordinal
faulting ordinal (tuple ∷ tuples) = if has_values tuple then faulting (ordinal + 1) tuples else ordinal

abbrev pub AreConstants : List Expr → Type 0
AreConstants tuple = All IsConstant tuple

abbrev pub HasConstants : Stmt → Type 0
HasConstants (stmt.Insert table tuples) = All AreConstants tuples
HasConstants _ = Unit {0}
