-- The level of the rule that writes an expression, and whether it stands in parentheses behind a minus sign.
use Rattle.std.specs.Prelude.{ℕ, Bool, true, false}
use Rattle.gx_tree.specs.declared.value.Value.{Value}
use Rattle.gx_tree.specs.declared.value.Value.TheVariants as value
use Rattle.gx_tree.specs.declared.expr.Expr.{Expr}
use Rattle.gx_tree.specs.declared.expr.Expr.TheOpen.{Expr-F}
use Rattle.gx_tree.specs.declared.expr.Expr.TheFolds.{fold-Expr}
use Rattle.gx_tree.specs.declared.cond.Cond.{Cond}
use Rattle.gx_tree.specs.declared.cond.Cond.TheOpen.{Cond-F}
use Rattle.gx_tree.specs.declared.cond.Cond.TheFolds.{fold-Cond}
use Rattle.gx_grammar.specs.Grammar.{level}
use Rattle.gx_print.specs.Written.{arith_op}

abbrev pub expr_level_step : Expr-F ℕ → ℕ
expr_level_step (Expr-F.Lit v) = 7
expr_level_step (Expr-F.Col c) = 7
expr_level_step (Expr-F.Neg n) = 7
expr_level_step (Expr-F.Bin o m n) = level (arith_op o)

abbrev pub expr_level : Expr → ℕ
expr_level e = fold-Expr ℕ expr_level_step e

abbrev pub is_number : Value → Bool
is_number (value.Int z) = true
is_number (value.Text t) = false

abbrev pub closed_step : Expr-F Bool → Bool
closed_step (Expr-F.Lit v) = is_number v
closed_step (Expr-F.Col c) = false
closed_step (Expr-F.Neg b) = true
closed_step (Expr-F.Bin o a b) = true

abbrev pub is_closed : Expr → Bool
is_closed e = fold-Expr Bool closed_step e

abbrev pub cond_level_step : Cond-F ℕ → ℕ
cond_level_step (Cond-F.Cmp o a b) = 4
cond_level_step (Cond-F.And m n) = 2
cond_level_step (Cond-F.Or m n) = 1
cond_level_step (Cond-F.Not n) = 3

abbrev pub cond_level : Cond → ℕ
cond_level c = fold-Cond ℕ cond_level_step c
