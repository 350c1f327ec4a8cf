-- What the definitions give at each kind of condition.
use Rattle.std.proofs.Common.{◌≡◌, ◌∙◌, sym, ap, ℕ, ◌+◌, ◌≤◌, nat_lt, ◌++◌, codes, List, subst, refl, arith, append_assoc}
use Rattle.gx_tree.specs.declared.schema.Column.{Column}
use Rattle.gx_tree.specs.declared.expr.ArithOp.{ArithOp}
use Rattle.gx_tree.specs.declared.expr.ArithOp.TheVariants as ariths
use Rattle.gx_tree.specs.declared.expr.Expr.{Expr, roll-Expr}
use Rattle.gx_tree.specs.declared.expr.Expr.TheVariants.{rolls-Lit, rolls-Col, rolls-Neg, rolls-Bin}
use Rattle.gx_tree.specs.declared.expr.Expr.TheOpen.{Expr-F}
use Rattle.gx_tree.specs.declared.expr.Expr.TheFolds.{ind-Expr}
use Rattle.gx_tree.specs.declared.cond.CmpOp.{CmpOp}
use Rattle.gx_tree.specs.declared.cond.CmpOp.TheVariants as cmps
use Rattle.gx_tree.specs.declared.cond.Cond.{Cond, roll-Cond}
use Rattle.gx_tree.specs.declared.cond.Cond.TheVariants as cond
use Rattle.gx_tree.specs.declared.cond.Cond.TheVariants.{rolls-Cmp, rolls-And, rolls-Or, rolls-Not}
use Rattle.gx_tree.specs.declared.cond.Cond.TheOpen.{Cond-F}
use Rattle.gx_tree.specs.declared.cond.Cond.TheFolds.{fold-roll-Cond, ind-Cond}
use Rattle.gx_grammar.specs.declared.syn.Op.{Op}
use Rattle.gx_grammar.specs.declared.syn.Op.TheVariants as op
use Rattle.gx_grammar.specs.declared.syn.Syn.{Syn}
use Rattle.gx_grammar.specs.declared.syn.Syn.TheVariants as syn
use Rattle.gx_grammar.specs.Grammar.{parens, level, left_level}
use Rattle.gx_print.specs.Shapes.{shape_text, op_text}
use Rattle.gx_print.specs.Forms.{Form, enclosed_if, at_level, not_form, op_form, form_of, shape_of}
use Rattle.gx_print.specs.Statements.{expr_text}
use Rattle.gx_print.specs.Levels.{expr_level, cond_level, cond_level_step}
use Rattle.gx_print.specs.Written.{arith_op, cmp_op, expr_syn, cond_syn}
use Rattle.gx_print.proofs.Levels.{by_le}
use Rattle.gx_print.proofs.Nodes.{form_of-not, form_of-bin, expr_level-lit, expr_level-col, expr_level-neg, expr_level-bin, form-level, at_level-enclosed, cond_syn-cmp, cond_syn-and, cond_syn-or, cond_syn-not}

-- LEVELS
pub cond_level-cmp : (o : CmpOp) (a b : Expr) → cond_level (cond.Cmp o a b) ≡ 4
cond_level-cmp o a b = ap cond_level (sym (rolls-Cmp o a b)) ∙ fold-roll-Cond ℕ cond_level_step (Cond-F.Cmp o a b)

pub cond_level-and : (a b : Cond) → cond_level (cond.And a b) ≡ 2
cond_level-and a b = ap cond_level (sym (rolls-And a b)) ∙ fold-roll-Cond ℕ cond_level_step (Cond-F.And a b)

pub cond_level-or : (a b : Cond) → cond_level (cond.Or a b) ≡ 1
cond_level-or a b = ap cond_level (sym (rolls-Or a b)) ∙ fold-roll-Cond ℕ cond_level_step (Cond-F.Or a b)

pub cond_level-not : (a : Cond) → cond_level (cond.Not a) ≡ 3
cond_level-not a = ap cond_level (sym (rolls-Not a)) ∙ fold-roll-Cond ℕ cond_level_step (Cond-F.Not a)

pub ruleset levels = (cond_level-cmp, cond_level-and, cond_level-or, cond_level-not)

arith_from : (o : ArithOp) → 5 ≤ level (arith_op o)
arith_from ariths.Add = omega arith
arith_from ariths.Sub = omega arith
arith_from ariths.Mul = omega arith
arith_from ariths.Div = omega arith
arith_from ariths.Rem = omega arith

high : (e u : Expr) (n : ℕ) → u ≡ e → expr_level u ≡ n → 5 ≤ n → 5 ≤ expr_level e
high e u n is same l = subst (λ (m : ℕ). 5 ≤ m) (sym same ∙ ap expr_level is) l

high-node : (x : Expr-F Expr) → 5 ≤ expr_level (roll-Expr x)
high-node (Expr-F.Lit v) = high _ _ 7 (sym (rolls-Lit v)) (expr_level-lit v) (omega arith)
high-node (Expr-F.Col c) = high _ _ 7 (sym (rolls-Col c)) (expr_level-col c) (omega arith)
high-node (Expr-F.Neg e) = high _ _ 7 (sym (rolls-Neg e)) (expr_level-neg e) (omega arith)
high-node (Expr-F.Bin o a b) = high _ _ (level (arith_op o)) (sym (rolls-Bin o a b)) (expr_level-bin o a b) (arith_from o)

expr-high : (e : Expr) → 5 ≤ expr_level e
expr-high = ind-Expr (λ e. 5 ≤ expr_level e) (λ x y is. high-node x)

-- the sides of a comparison stand as they are
side : (columns : List Column) (e : Expr) (p : ℕ) → p ≤ 5 → shape_text (at_level p (form_of (expr_syn columns e))) ≡ expr_text (expr_syn columns e)
side columns e p l =
    let high : 5 ≤ (form_of (expr_syn columns e)).level = subst (λ (m : ℕ). 5 ≤ m) (sym (form-level columns e)) (expr-high e) in
    ap shape_text (by_le p (form_of (expr_syn columns e)).level (shape_of (expr_syn columns e)) (parens (shape_of (expr_syn columns e))) (omega arith))

cmp_level : (o : CmpOp) → (left_level (cmp_op o) ≤ 5) × (level (cmp_op o) + 1 ≤ 5)
cmp_level cmps.Eq = (omega arith, omega arith)
cmp_level cmps.Ne = (omega arith, omega arith)
cmp_level cmps.Lt = (omega arith, omega arith)
cmp_level cmps.Le = (omega arith, omega arith)
cmp_level cmps.Gt = (omega arith, omega arith)
cmp_level cmps.Ge = (omega arith, omega arith)

pub text-cmp : (columns : List Column) (o : CmpOp) (a b : Expr) (sign : List ℕ) → sign ≡ codes " " ++ (op_text (cmp_op o) ++ codes " ") → expr_text (syn.Bin (cmp_op o) (expr_syn columns a) (expr_syn columns b)) ≡ expr_text (expr_syn columns a) ++ (sign ++ expr_text (expr_syn columns b))
text-cmp columns o a b sign s =
    let (l, r) = cmp_level o in
    let right : List ℕ = shape_text (at_level (level (cmp_op o) + 1) (form_of (expr_syn columns b))) in
    let left : List ℕ = expr_text (expr_syn columns a) in
    ap (λ (f : Form). shape_text f.shape) (form_of-bin (cmp_op o) (expr_syn columns a) (expr_syn columns b))
    ∙ ap (λ (t : List ℕ). t ++ (codes " " ++ (op_text (cmp_op o) ++ (codes " " ++ right)))) (side columns a (left_level (cmp_op o)) l)
    ∙ ap (λ (t : List ℕ). left ++ (codes " " ++ t)) (sym (append_assoc (op_text (cmp_op o)) (codes " ") right))
    ∙ ap (λ (t : List ℕ). left ++ (t ++ right)) (sym s)
    ∙ ap (λ (t : List ℕ). left ++ (sign ++ t)) (side columns b (level (cmp_op o) + 1) r)

pub text_cond-cmp : (columns : List Column) (o : CmpOp) (a b : Expr) → expr_text (cond_syn columns (cond.Cmp o a b)) ≡ expr_text (syn.Bin (cmp_op o) (expr_syn columns a) (expr_syn columns b))
text_cond-cmp columns o a b = ap expr_text (cond_syn-cmp columns o a b)

pub ruleset conds = (text_cond-cmp)

-- THE FORM'S LEVEL IS THE CONDITION'S
bin_form : (columns : List Column) (c a b : Cond) (o : Op) → cond_syn columns c ≡ syn.Bin o (cond_syn columns a) (cond_syn columns b) → form_of (cond_syn columns c) ≡ op_form o (form_of (cond_syn columns a)) (form_of (cond_syn columns b))
bin_form columns c a b o is = ap form_of is ∙ form_of-bin o (cond_syn columns a) (cond_syn columns b)

not_is_form : (columns : List Column) (c : Cond) → form_of (cond_syn columns (cond.Not c)) ≡ not_form (form_of (cond_syn columns c))
not_is_form columns c = ap form_of (cond_syn-not columns c) ∙ form_of-not (cond_syn columns c)

cmp_form_level : (o : CmpOp) → level (cmp_op o) ≡ 4
cmp_form_level cmps.Eq = refl
cmp_form_level cmps.Ne = refl
cmp_form_level cmps.Lt = refl
cmp_form_level cmps.Le = refl
cmp_form_level cmps.Gt = refl
cmp_form_level cmps.Ge = refl

abbrev Same : List Column → Cond → Type 0
Same columns c = (form_of (cond_syn columns c)).level ≡ cond_level c

same-node : (columns : List Column) (x : Cond-F Cond) → Same columns (roll-Cond x)
same-node columns (Cond-F.Cmp o a b) = subst (Same columns) (sym (rolls-Cmp o a b)) (ap (λ (t : Syn). (form_of t).level) (cond_syn-cmp columns o a b) ∙ ap (λ (f : Form). f.level) (form_of-bin (cmp_op o) (expr_syn columns a) (expr_syn columns b)) ∙ cmp_form_level o ∙ sym (cond_level-cmp o a b))
same-node columns (Cond-F.And a b) = subst (Same columns) (sym (rolls-And a b)) (ap (λ (f : Form). f.level) (bin_form columns (cond.And a b) a b op.And (cond_syn-and columns a b)) ∙ sym (cond_level-and a b))
same-node columns (Cond-F.Or a b) = subst (Same columns) (sym (rolls-Or a b)) (ap (λ (f : Form). f.level) (bin_form columns (cond.Or a b) a b op.Or (cond_syn-or columns a b)) ∙ sym (cond_level-or a b))
same-node columns (Cond-F.Not a) = subst (Same columns) (sym (rolls-Not a)) (ap (λ (f : Form). f.level) (not_is_form columns a) ∙ sym (cond_level-not a))

pub cond_form-level : (columns : List Column) (c : Cond) → (form_of (cond_syn columns c)).level ≡ cond_level c
cond_form-level columns = ind-Cond (Same columns) (λ x y is. same-node columns x)

-- THE TEXT
part-text : (columns : List Column) (c : Cond) (p n : ℕ) → n ≡ cond_level c → shape_text (at_level p (form_of (cond_syn columns c))) ≡ shape_text (enclosed_if (nat_lt n p) (shape_of (cond_syn columns c)))
part-text columns c p n l = ap shape_text (at_level-enclosed p (form_of (cond_syn columns c))) ∙ ap (λ (m : ℕ). shape_text (enclosed_if (nat_lt m p) (shape_of (cond_syn columns c)))) (cond_form-level columns c ∙ sym l)

pub bin_cond_is : (columns : List Column) (c a b : Cond) (o : Op) (m n : ℕ) → cond_syn columns c ≡ syn.Bin o (cond_syn columns a) (cond_syn columns b) → m ≡ cond_level a → n ≡ cond_level b
    → expr_text (cond_syn columns c) ≡ shape_text (enclosed_if (nat_lt m (left_level o)) (shape_of (cond_syn columns a))) ++ ((codes " " ++ (op_text o ++ codes " ")) ++ shape_text (enclosed_if (nat_lt n (level o + 1)) (shape_of (cond_syn columns b))))
bin_cond_is columns c a b o m n is p q =
    let right : List ℕ = shape_text (at_level (level o + 1) (form_of (cond_syn columns b))) in
    let left : List ℕ = shape_text (enclosed_if (nat_lt m (left_level o)) (shape_of (cond_syn columns a))) in
    ap (λ (f : Form). shape_text f.shape) (bin_form columns c a b o is)
    ∙ ap (λ (t : List ℕ). t ++ (codes " " ++ (op_text o ++ (codes " " ++ right)))) (part-text columns a (left_level o) m p)
    ∙ ap (λ (t : List ℕ). left ++ (codes " " ++ t)) (sym (append_assoc (op_text o) (codes " ") right))
    ∙ ap (λ (t : List ℕ). left ++ ((codes " " ++ (op_text o ++ codes " ")) ++ t)) (part-text columns b (level o + 1) n q)

pub not_cond_is : (columns : List Column) (c a : Cond) (n : ℕ) → c ≡ cond.Not a → n ≡ cond_level a → expr_text (cond_syn columns c) ≡ codes "NOT " ++ shape_text (enclosed_if (nat_lt n 3) (shape_of (cond_syn columns a)))
not_cond_is columns c a n is p = ap (λ (x : Cond). expr_text (cond_syn columns x)) is ∙ ap (λ (f : Form). shape_text f.shape) (not_is_form columns a) ∙ ap (λ (t : List ℕ). codes "NOT " ++ t) (part-text columns a 3 n p)

pub and_is : (columns : List Column) (c a b : Cond) (m n : ℕ) → c ≡ cond.And a b → m ≡ cond_level a → n ≡ cond_level b
    → expr_text (cond_syn columns c) ≡ shape_text (enclosed_if (nat_lt m 2) (shape_of (cond_syn columns a))) ++ (codes " AND " ++ shape_text (enclosed_if (nat_lt n 3) (shape_of (cond_syn columns b))))
and_is columns c a b m n is p q = bin_cond_is columns c a b op.And m n (ap (cond_syn columns) is ∙ cond_syn-and columns a b) p q

pub or_is : (columns : List Column) (c a b : Cond) (m n : ℕ) → c ≡ cond.Or a b → m ≡ cond_level a → n ≡ cond_level b
    → expr_text (cond_syn columns c) ≡ shape_text (enclosed_if (nat_lt m 1) (shape_of (cond_syn columns a))) ++ (codes " OR " ++ shape_text (enclosed_if (nat_lt n 2) (shape_of (cond_syn columns b))))
or_is columns c a b m n is p q = bin_cond_is columns c a b op.Or m n (ap (cond_syn columns) is ∙ cond_syn-or columns a b) p q
