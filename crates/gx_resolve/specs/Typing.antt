-- What written expressions are over the columns of a table, by one node of the tree with what its parts are.
use Rattle.std.specs.Prelude.{ℕ, ℤ, nat_le, Bool, true, false, if◌then◌else◌, List, Option, Some, None, pos, ◌-ℤ◌}
use Rattle.gx_tree.specs.declared.schema.Column.{Column}
use Rattle.gx_tree.specs.declared.schema.Kind.{Kind}
use Rattle.gx_tree.specs.declared.schema.Kind.TheVariants as kind
use Rattle.gx_tree.specs.declared.value.Value.TheVariants as value
use Rattle.gx_tree.specs.declared.expr.ArithOp.{ArithOp}
use Rattle.gx_tree.specs.declared.expr.ArithOp.TheVariants as arith
use Rattle.gx_tree.specs.declared.expr.Expr.{Expr}
use Rattle.gx_tree.specs.declared.expr.Expr.TheVariants as expr
use Rattle.gx_tree.specs.declared.cond.CmpOp.{CmpOp}
use Rattle.gx_tree.specs.declared.cond.CmpOp.TheVariants as cmp
use Rattle.gx_tree.specs.declared.cond.Cond.TheVariants as cond
use Rattle.gx_grammar.specs.declared.syn.Op.{Op}
use Rattle.gx_grammar.specs.declared.syn.Op.TheVariants as op
use Rattle.gx_grammar.specs.declared.syn.Syn.{Syn}
use Rattle.gx_grammar.specs.declared.syn.Syn.TheOpen.{Syn-F}
use Rattle.gx_grammar.specs.declared.syn.Syn.TheFolds.{fold-Syn}
use Rattle.gx_resolve.specs.declared.typed.Typed.{Typed}
use Rattle.gx_resolve.specs.declared.typed.Typed.TheVariants.{Value, Cond, Unknown, Mismatch}
use Rattle.gx_resolve.specs.Columns.{column_of}

-- a number of 64 bits with its sign, where there is one
abbrev pub value_typed : Option ℤ → Typed
value_typed None = Mismatch
value_typed (Some n) = Value kind.Int (expr.Lit (value.Int n))

-- numbers are those of 64 bits with a sign
abbrev pub negative_typed : ℕ → Typed
negative_typed n = if nat_le n 9223372036854775808 then Value kind.Int (expr.Lit (value.Int (pos 0 -ℤ pos n))) else Mismatch

abbrev pub positive_typed : ℕ → Typed
positive_typed n = if nat_le n 9223372036854775807 then Value kind.Int (expr.Lit (value.Int (pos n))) else Mismatch

abbrev pub number_typed : Bool → Option ℕ → Typed
number_typed negative None = Mismatch
number_typed true (Some n) = negative_typed n
number_typed false (Some n) = positive_typed n

abbrev pub column_typed : Option (ℕ × Kind) → Typed
column_typed None = Unknown
column_typed (Some c) = Value c.1 (expr.Col c.0)

abbrev pub neg_typed : Typed → Typed
neg_typed (Value kind.Int e) = Value kind.Int (expr.Neg e)
neg_typed Unknown = Unknown
neg_typed _ = Mismatch

abbrev pub not_typed : Typed → Typed
not_typed (Cond c) = Cond (cond.Not c)
not_typed Unknown = Unknown
not_typed _ = Mismatch

-- what a part is beside one that no operator takes there: an unknown column comes before a mismatch
abbrev pub beside : Typed → Typed
beside Unknown = Unknown
beside _ = Mismatch

abbrev pub wrong : Typed → Typed → Typed
wrong Unknown t = Unknown
wrong _ t = beside t

abbrev pub arith_typed : ArithOp → Typed → Typed → Typed
arith_typed o (Value kind.Int a) (Value kind.Int b) = Value kind.Int (expr.Bin o a b)
arith_typed o s t = wrong s t

-- a comparison is of two numbers or of two texts
abbrev pub number_compared : CmpOp → Expr → Typed → Typed
number_compared o a (Value kind.Int b) = Cond (cond.Cmp o a b)
number_compared o a t = beside t

abbrev pub text_compared : CmpOp → Expr → Typed → Typed
text_compared o a (Value kind.Text b) = Cond (cond.Cmp o a b)
text_compared o a t = beside t

abbrev pub cmp_typed : CmpOp → Typed → Typed → Typed
cmp_typed o (Value kind.Int a) t = number_compared o a t
cmp_typed o (Value kind.Text a) t = text_compared o a t
cmp_typed o s t = wrong s t

abbrev pub and_typed : Typed → Typed → Typed
and_typed (Cond a) (Cond b) = Cond (cond.And a b)
and_typed s t = wrong s t

abbrev pub or_typed : Typed → Typed → Typed
or_typed (Cond a) (Cond b) = Cond (cond.Or a b)
or_typed s t = wrong s t

abbrev pub bin_typed : Op → Typed → Typed → Typed
bin_typed op.Or s t = or_typed s t
bin_typed op.And s t = and_typed s t
bin_typed op.Equal s t = cmp_typed cmp.Eq s t
bin_typed op.NotEqual s t = cmp_typed cmp.Ne s t
bin_typed op.Less s t = cmp_typed cmp.Lt s t
bin_typed op.LessEqual s t = cmp_typed cmp.Le s t
bin_typed op.Greater s t = cmp_typed cmp.Gt s t
bin_typed op.GreaterEqual s t = cmp_typed cmp.Ge s t
bin_typed op.Add s t = arith_typed arith.Add s t
bin_typed op.Sub s t = arith_typed arith.Sub s t
bin_typed op.Mul s t = arith_typed arith.Mul s t
bin_typed op.Div s t = arith_typed arith.Div s t
bin_typed op.Rem s t = arith_typed arith.Rem s t

abbrev pub typed_step : List Column → Syn-F Typed → Typed
typed_step columns (Syn-F.Number negative size) = number_typed negative size
typed_step columns (Syn-F.Text t) = Value kind.Text (expr.Lit (value.Text t))
typed_step columns (Syn-F.Column name) = column_typed (column_of name columns)
typed_step columns (Syn-F.Neg t) = neg_typed t
typed_step columns (Syn-F.Not t) = not_typed t
typed_step columns (Syn-F.Bin o s t) = bin_typed o s t

-- what a written expression is over these columns
abbrev pub typed_of : List Column → Syn → Typed
typed_of columns syn = fold-Syn Typed (typed_step columns) syn
