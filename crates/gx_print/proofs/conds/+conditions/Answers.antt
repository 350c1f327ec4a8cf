use Rattle.std.proofs.Common.{◌≡◌, ◌∙◌, ap, sym, ◌++◌, codes, nat_lt, List, ℕ, OnOk, subst}
use Rattle.gx_tree.specs.declared.cond.Cond.{Cond, And, Or, Not}
use Rattle.gx_print.specs.Shapes.{shape_text}
use Rattle.gx_print.specs.Forms.{enclosed_if, shape_of}
use Rattle.gx_print.specs.Statements.{expr_text}
use Rattle.gx_print.specs.Written.{cond_syn}
use Rattle.gx_print.proofs.Nodes.{joined, joined_twice}
use Rattle.gx_print.proofs.CondNodes.{and_is, or_is, not_cond_is}
use Rattle.gx_print.proofs.conds.+conditions.Goals as goal

pub push_cond-returns-in_ok-push_bytes-in-And : goal.push_cond-returns-in_ok-push_bytes-in-And
push_cond-returns-in_ok-push_bytes-in-And t c =
    let node = c.in-And.is ∙ ap (λ (x : Cond). And x c.in-And.right) (sym c.get-left.ensures) ∙ ap (λ (x : Cond). And c.get-left.result.now x) (sym c.get-right.ensures) in
    let left : List ℕ = shape_text (enclosed_if (nat_lt c.cond_level.result 2) (shape_of (cond_syn c.args.columns.now c.get-left.result.now))) in
    let right : List ℕ = shape_text (enclosed_if (nat_lt c.cond_level-in-And.result 3) (shape_of (cond_syn c.args.columns.now c.get-right.result.now))) in
    let whole : List ℕ = expr_text (cond_syn c.args.columns.now c.args.cond.now) in
    let is : whole ≡ left ++ (codes " AND " ++ right) = and_is c.args.columns.now c.args.cond.now c.get-left.result.now c.get-right.result.now c.cond_level.result c.cond_level-in-And.result node c.cond_level.ensures c.cond_level-in-And.ensures in
    let first : c.push_part.new.text.items ≡ c.args.text.now.items ++ left = c.in_ok-push_part-in-And.ensures in
    let second : c.push_bytes.new.text.items ≡ c.push_part.new.text.items ++ codes " AND " = c.in_ok-push_bytes-in-And.ensures in
    subst (λ (x : List ℕ). OnOk c.push_part-in-And.result (c.push_part-in-And.new.text.items ≡ x)) (joined_twice c.args.text.now.items c.push_part.new.text.items c.push_bytes.new.text.items left (codes " AND ") right whole first second is) c.push_part-in-And.ensures

pub push_cond-returns-in_ok-push_bytes-in-Or : goal.push_cond-returns-in_ok-push_bytes-in-Or
push_cond-returns-in_ok-push_bytes-in-Or t c =
    let node = c.in-Or.is ∙ ap (λ (x : Cond). Or x c.in-Or.right) (sym c.get-left-in-Or.ensures) ∙ ap (λ (x : Cond). Or c.get-left-in-Or.result.now x) (sym c.get-right-in-Or.ensures) in
    let left : List ℕ = shape_text (enclosed_if (nat_lt c.cond_level-in-Or.result 1) (shape_of (cond_syn c.args.columns.now c.get-left-in-Or.result.now))) in
    let right : List ℕ = shape_text (enclosed_if (nat_lt c.cond_level-in-Or-2.result 2) (shape_of (cond_syn c.args.columns.now c.get-right-in-Or.result.now))) in
    let whole : List ℕ = expr_text (cond_syn c.args.columns.now c.args.cond.now) in
    let is : whole ≡ left ++ (codes " OR " ++ right) = or_is c.args.columns.now c.args.cond.now c.get-left-in-Or.result.now c.get-right-in-Or.result.now c.cond_level-in-Or.result c.cond_level-in-Or-2.result node c.cond_level-in-Or.ensures c.cond_level-in-Or-2.ensures in
    let first : c.push_part-in-Or.new.text.items ≡ c.args.text.now.items ++ left = c.in_ok-push_part-in-Or.ensures in
    let second : c.push_bytes-in-Or.new.text.items ≡ c.push_part-in-Or.new.text.items ++ codes " OR " = c.in_ok-push_bytes-in-Or.ensures in
    subst (λ (x : List ℕ). OnOk c.push_part-in-Or-2.result (c.push_part-in-Or-2.new.text.items ≡ x)) (joined_twice c.args.text.now.items c.push_part-in-Or.new.text.items c.push_bytes-in-Or.new.text.items left (codes " OR ") right whole first second is) c.push_part-in-Or-2.ensures

pub push_cond-returns-in_ok-push_bytes-in-Not : goal.push_cond-returns-in_ok-push_bytes-in-Not
push_cond-returns-in_ok-push_bytes-in-Not t c =
    let inner : List ℕ = shape_text (enclosed_if (nat_lt c.cond_level-in-Not.result 3) (shape_of (cond_syn c.args.columns.now c.get-inner.result.now))) in
    let whole : List ℕ = expr_text (cond_syn c.args.columns.now c.args.cond.now) in
    let is : whole ≡ codes "NOT " ++ inner = not_cond_is c.args.columns.now c.args.cond.now c.get-inner.result.now c.cond_level-in-Not.result (c.in-Not.is ∙ ap Not (sym c.get-inner.ensures)) c.cond_level-in-Not.ensures in
    let first : c.push_bytes-in-Not.new.text.items ≡ c.args.text.now.items ++ codes "NOT " = c.in_ok-push_bytes-in-Not.ensures in
    subst (λ (x : List ℕ). OnOk c.push_part-in-Not.result (c.push_part-in-Not.new.text.items ≡ x)) (joined c.args.text.now.items c.push_bytes-in-Not.new.text.items (codes "NOT ") inner whole first is) c.push_part-in-Not.ensures
