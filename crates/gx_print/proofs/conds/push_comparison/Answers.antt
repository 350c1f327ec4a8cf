use Rattle.std.proofs.Common.{◌≡◌, ◌++◌, List, ℕ, OnOk, subst}
use Rattle.gx_grammar.specs.declared.syn.Syn.TheVariants.{Bin}
use Rattle.gx_print.specs.Statements.{expr_text}
use Rattle.gx_print.specs.Written.{expr_syn, cmp_op}
use Rattle.gx_print.proofs.Nodes.{joined_twice}
use Rattle.gx_print.proofs.CondNodes.{text-cmp}
use Rattle.gx_print.proofs.conds.push_comparison.Goals as goal

pub returns : goal.returns
returns c =
    let left : List ℕ = expr_text (expr_syn c.args.columns.now c.args.left.now) in
    let right : List ℕ = expr_text (expr_syn c.args.columns.now c.args.right.now) in
    let whole : List ℕ = expr_text (Bin (cmp_op c.args.op) (expr_syn c.args.columns.now c.args.left.now) (expr_syn c.args.columns.now c.args.right.now)) in
    let is : whole ≡ left ++ (c.operator.result.now ++ right) = text-cmp c.args.columns.now c.args.op c.args.left.now c.args.right.now c.operator.result.now c.operator.ensures in
    let first : c.push_expr.new.text.items ≡ c.args.text.now.items ++ left = c.in_ok-push_expr.ensures in
    let second : c.push_bytes.new.text.items ≡ c.push_expr.new.text.items ++ c.operator.result.now = c.in_ok-push_bytes.ensures in
    subst (λ (x : List ℕ). OnOk c.push_expr-2.result (c.push_expr-2.new.text.items ≡ x)) (joined_twice c.args.text.now.items c.push_expr.new.text.items c.push_bytes.new.text.items left c.operator.result.now right whole first second is) c.push_expr-2.ensures
