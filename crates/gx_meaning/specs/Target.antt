-- The segments on which a condition can be true.
use Rattle.std.specs.Prelude.{◌≡◌, ◌≢◌, ℕ, ◌==◌, if◌then◌else◌, List, Option, None, Some, false, Ok}
use Rattle.gx_ids.specs.declared.rid.Rid.{Rid}
use Rattle.gx_tree.specs.declared.value.Value.{Value}
use Rattle.gx_tree.specs.declared.schema.Dist.{Dist}
use Rattle.gx_tree.specs.declared.schema.Dist.TheVariants.{By}
use Rattle.gx_tree.specs.declared.expr.Expr.{Expr, Lit, Col}
use Rattle.gx_tree.specs.declared.cond.CmpOp.TheVariants as op
use Rattle.gx_tree.specs.declared.cond.Cond.{Cond}
use Rattle.gx_tree.specs.declared.cond.Cond.TheOpen.{Cond-F}
use Rattle.gx_tree.specs.declared.cond.Cond.TheFolds.{fold-Cond}
use Rattle.gx_meaning.specs.Expressions.{truth_of}
use Rattle.gx_meaning.specs.Place.{value_place, row_place, IsWithin}
use Rattle.gx_meaning.specs.declared.target.Target.{Target}
use Rattle.gx_meaning.specs.declared.target.Target.TheVariants.{One, All}

-- the literal that the key column is compared with, on either side
abbrev pub literal_of : ℕ → Expr → Expr → Option Value
literal_of key (Col column) (Lit value) = if column == key then Some value else None
literal_of key (Lit value) (Col column) = if column == key then Some value else None
literal_of key _ _ = None

-- of an equality, its literal, of an AND, what its left side gives; nothing else says where a row stands
abbrev pub key_step : ℕ → Cond-F (Option Value) → Option Value
key_step key (Cond-F.Cmp op.Eq left right) = literal_of key left right
key_step key (Cond-F.And left right) = left
key_step key _ = None

-- the literal that the leftmost conjunct of a condition sets the key column equal to
abbrev pub key_of : ℕ → Cond → Option Value
key_of key cond = fold-Cond (Option Value) (key_step key) cond

abbrev pub key_target : ℕ → Option Value → Target
key_target n None = All
key_target n (Some value) = One (record { 0 = value_place n value })

-- the segments of a condition among n segments
abbrev pub target_of : ℕ → Dist → Option Cond → Target
target_of n (By column) (Some cond) = key_target n (key_of column cond)
target_of n _ _ = All

-- the segment isn't among the target's
abbrev pub IsOutside : Target → ℕ → Type 0
IsOutside (One node) place = place ≢ node.0
IsOutside All place = ⊥

-- a condition is false, without a fault, on each row that stands outside the target
abbrev pub IsFalseOutside : ℕ → Dist → Option Cond → Target → Type 0
IsFalseOutside n dist None target = (place : ℕ) → IsOutside target place → ⊥
IsFalseOutside n dist (Some cond) target =
    (row : List Value) (rid : Rid) → IsWithin dist row → IsOutside target (row_place n dist row rid) → truth_of row cond ≡ Ok false
