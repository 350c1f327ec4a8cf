use Rattle.std.proofs.Common.{◌≡◌, ◌∙◌, ap, sym, ◌++◌, codes, ◌+◌, nat_lt, List, ℕ, OnOk, subst}
use Rattle.gx_tree.specs.declared.expr.Expr.{Expr, Neg, Bin}
use Rattle.gx_print.specs.Shapes.{shape_text}
use Rattle.gx_print.specs.Forms.{enclosed_if, shape_of}
use Rattle.gx_print.specs.Statements.{expr_text}
use Rattle.gx_print.specs.Written.{expr_syn}
use Rattle.gx_print.proofs.Nodes.{neg_is, bin_is, joined, joined_twice}
use Rattle.gx_print.proofs.exprs.+expressions.Goals as goal

pub push_expr-returns-in_ok-push_bytes-in-Neg : goal.push_expr-returns-in_ok-push_bytes-in-Neg
push_expr-returns-in_ok-push_bytes-in-Neg t c =
    let inner : List ℕ = shape_text (enclosed_if c.is_closed.result (shape_of (expr_syn c.args.columns.now c.get-inner.result.now))) in
    let is : expr_text (expr_syn c.args.columns.now c.args.expr.now) ≡ codes "-" ++ inner =
    neg_is c.args.columns.now c.args.expr.now c.get-inner.result.now c.is_closed.result (c.in-Neg.is ∙ ap Neg (sym c.get-inner.ensures)) c.is_closed.ensures in
    let first : c.push_bytes-in-Neg.new.text.items ≡ c.args.text.now.items ++ codes "-" = c.in_ok-push_bytes-in-Neg.ensures in
    subst (λ (x : List ℕ). OnOk c.push_operand.result (c.push_operand.new.text.items ≡ x)) (joined c.args.text.now.items c.push_bytes-in-Neg.new.text.items (codes "-") inner (expr_text (expr_syn c.args.columns.now c.args.expr.now)) first is) c.push_operand.ensures

pub push_expr-returns-in_ok-push_bytes-in-Bin : goal.push_expr-returns-in_ok-push_bytes-in-Bin
push_expr-returns-in_ok-push_bytes-in-Bin t c =
    let node = c.in-Bin.is ∙ ap (λ (x : Expr). Bin c.in-Bin.op x c.in-Bin.right) (sym c.get-left.ensures) ∙ ap (λ (x : Expr). Bin c.in-Bin.op c.get-left.result.now x) (sym c.get-right.ensures) in
    let left : List ℕ = shape_text (enclosed_if (nat_lt c.expr_level.result c.operator_level-level.result) (shape_of (expr_syn c.args.columns.now c.get-left.result.now))) in
    let right : List ℕ = shape_text (enclosed_if (nat_lt c.expr_level-in-Bin.result (c.operator_level-level.result + 1)) (shape_of (expr_syn c.args.columns.now c.get-right.result.now))) in
    let whole : List ℕ = expr_text (expr_syn c.args.columns.now c.args.expr.now) in
    let is : whole ≡ left ++ (c.operator.result.now ++ right) =
    bin_is c.args.columns.now c.args.expr.now c.get-left.result.now c.get-right.result.now c.in-Bin.op c.expr_level.result c.operator_level-level.result c.expr_level-in-Bin.result c.operator.result.now node c.operator_level-level.ensures.at c.expr_level.ensures c.expr_level-in-Bin.ensures c.operator.ensures in
    let first : c.push_operand-in-Bin.new.text.items ≡ c.args.text.now.items ++ left = c.in_ok-push_operand-in-Bin.ensures in
    let second : c.push_bytes-in-Bin.new.text.items ≡ c.push_operand-in-Bin.new.text.items ++ c.operator.result.now = c.in_ok-push_bytes-in-Bin.ensures in
    subst (λ (x : List ℕ). OnOk c.push_operand-in-Bin-2.result (c.push_operand-in-Bin-2.new.text.items ≡ x)) (joined_twice c.args.text.now.items c.push_operand-in-Bin.new.text.items c.push_bytes-in-Bin.new.text.items left c.operator.result.now right whole first second is) c.push_operand-in-Bin-2.ensures
