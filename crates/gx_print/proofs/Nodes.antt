-- What the definitions give at each kind of node.
use Rattle.std.proofs.Common.{◌≡◌, ◌∙◌, sym, ap, ℕ, ◌+◌, nat_lt, ◌++◌, codes, Bool, true, false, List, Option, Some, pos, negsuc, suc, subst, refl, arith, append_assoc}
use Rattle.gx_tree.specs.declared.value.Value.{Value}
use Rattle.gx_tree.specs.declared.value.Value.TheVariants as value
use Rattle.gx_tree.specs.declared.schema.Column.{Column}
use Rattle.gx_tree.specs.declared.expr.ArithOp.{ArithOp}
use Rattle.gx_tree.specs.declared.expr.ArithOp.TheVariants as ariths
use Rattle.gx_tree.specs.declared.expr.Expr.{Expr, roll-Expr}
use Rattle.gx_tree.specs.declared.expr.Expr.TheVariants as expr
use Rattle.gx_tree.specs.declared.expr.Expr.TheVariants.{rolls-Neg, rolls-Bin, rolls-Lit, rolls-Col}
use Rattle.gx_tree.specs.declared.expr.Expr.TheOpen.{Expr-F}
use Rattle.gx_tree.specs.declared.expr.Expr.TheFolds.{fold-roll-Expr, ind-Expr}
use Rattle.gx_tree.specs.declared.cond.CmpOp.{CmpOp}
use Rattle.gx_tree.specs.declared.cond.Cond.{Cond}
use Rattle.gx_tree.specs.declared.cond.Cond.TheVariants as cond
use Rattle.gx_tree.specs.declared.cond.Cond.TheVariants.{rolls-Cmp, rolls-And, rolls-Or}
use Rattle.gx_tree.specs.declared.cond.Cond.TheOpen.{Cond-F}
use Rattle.gx_tree.specs.declared.cond.Cond.TheFolds.{fold-roll-Cond}
use Rattle.gx_grammar.specs.declared.syn.Op.{Op}
use Rattle.gx_grammar.specs.declared.syn.Op.TheVariants as op
use Rattle.gx_grammar.specs.declared.syn.Syn.{Syn}
use Rattle.gx_grammar.specs.declared.syn.Syn.TheVariants as syn
use Rattle.gx_grammar.specs.declared.syn.Syn.TheVariants.{rolls-Number, rolls-Text, rolls-Column}
use Rattle.gx_grammar.specs.declared.syn.Syn.TheOpen.{Syn-F}
use Rattle.gx_grammar.specs.declared.syn.Syn.TheFolds.{fold-roll-Syn}
use Rattle.gx_grammar.specs.Grammar.{level, left_level}
use Rattle.gx_print.specs.Shapes.{shape_text, op_text}
use Rattle.gx_print.specs.Forms.{Form, enclosed_if, at_level, number_form, text_form, column_form, minus_form, not_form, op_form, form_step, form_of, shape_of}
use Rattle.gx_print.specs.Statements.{expr_text}
use Rattle.gx_print.specs.Levels.{expr_level, expr_level_step, is_number, is_closed, closed_step}
use Rattle.gx_print.specs.Written.{column_name, value_syn, arith_op, cmp_op, expr_syn, expr_step, cond_syn, cond_step}

pub form_of-number : (b : Bool) (n : Option ℕ) → form_of (syn.Number b n) ≡ number_form b n
form_of-number b n = ap form_of (sym (rolls-Number b n)) ∙ fold-roll-Syn Form form_step (Syn-F.Number b n)

pub form_of-text : (t : List ℕ) → form_of (syn.Text t) ≡ text_form t
form_of-text t = ap form_of (sym (rolls-Text t)) ∙ fold-roll-Syn Form form_step (Syn-F.Text t)

pub form_of-column : (c : List ℕ) → form_of (syn.Column c) ≡ column_form c
form_of-column c = ap form_of (sym (rolls-Column c)) ∙ fold-roll-Syn Form form_step (Syn-F.Column c)

pub form_of-neg : (t : Syn) → form_of (syn.Neg t) ≡ minus_form (form_of t)
form_of-neg t = ap form_of (sym (syn.rolls-Neg t)) ∙ fold-roll-Syn Form form_step (Syn-F.Neg t)

pub form_of-not : (t : Syn) → form_of (syn.Not t) ≡ not_form (form_of t)
form_of-not t = ap form_of (sym (syn.rolls-Not t)) ∙ fold-roll-Syn Form form_step (Syn-F.Not t)

pub form_of-bin : (o : Op) (s t : Syn) → form_of (syn.Bin o s t) ≡ op_form o (form_of s) (form_of t)
form_of-bin o s t = ap form_of (sym (syn.rolls-Bin o s t)) ∙ fold-roll-Syn Form form_step (Syn-F.Bin o s t)

pub expr_syn-lit : (columns : List Column) (v : Value) → expr_syn columns (expr.Lit v) ≡ value_syn v
expr_syn-lit columns v = ap (expr_syn columns) (sym (rolls-Lit v)) ∙ fold-roll-Expr Syn (expr_step columns) (Expr-F.Lit v)

pub expr_syn-col : (columns : List Column) (c : ℕ) → expr_syn columns (expr.Col c) ≡ syn.Column (column_name columns c)
expr_syn-col columns c = ap (expr_syn columns) (sym (rolls-Col c)) ∙ fold-roll-Expr Syn (expr_step columns) (Expr-F.Col c)

pub expr_syn-neg : (columns : List Column) (e : Expr) → expr_syn columns (expr.Neg e) ≡ syn.Neg (expr_syn columns e)
expr_syn-neg columns e = ap (expr_syn columns) (sym (rolls-Neg e)) ∙ fold-roll-Expr Syn (expr_step columns) (Expr-F.Neg e)

pub expr_syn-bin : (columns : List Column) (o : ArithOp) (a b : Expr) → expr_syn columns (expr.Bin o a b) ≡ syn.Bin (arith_op o) (expr_syn columns a) (expr_syn columns b)
expr_syn-bin columns o a b = ap (expr_syn columns) (sym (rolls-Bin o a b)) ∙ fold-roll-Expr Syn (expr_step columns) (Expr-F.Bin o a b)

pub cond_syn-cmp : (columns : List Column) (o : CmpOp) (a b : Expr) → cond_syn columns (cond.Cmp o a b) ≡ syn.Bin (cmp_op o) (expr_syn columns a) (expr_syn columns b)
cond_syn-cmp columns o a b = ap (cond_syn columns) (sym (rolls-Cmp o a b)) ∙ fold-roll-Cond Syn (cond_step columns) (Cond-F.Cmp o a b)

pub cond_syn-and : (columns : List Column) (a b : Cond) → cond_syn columns (cond.And a b) ≡ syn.Bin op.And (cond_syn columns a) (cond_syn columns b)
cond_syn-and columns a b = ap (cond_syn columns) (sym (rolls-And a b)) ∙ fold-roll-Cond Syn (cond_step columns) (Cond-F.And a b)

pub cond_syn-or : (columns : List Column) (a b : Cond) → cond_syn columns (cond.Or a b) ≡ syn.Bin op.Or (cond_syn columns a) (cond_syn columns b)
cond_syn-or columns a b = ap (cond_syn columns) (sym (rolls-Or a b)) ∙ fold-roll-Cond Syn (cond_step columns) (Cond-F.Or a b)

pub cond_syn-not : (columns : List Column) (a : Cond) → cond_syn columns (cond.Not a) ≡ syn.Not (cond_syn columns a)
cond_syn-not columns a = ap (cond_syn columns) (sym (cond.rolls-Not a)) ∙ fold-roll-Cond Syn (cond_step columns) (Cond-F.Not a)

pub form-lit : (columns : List Column) (v : Value) → form_of (expr_syn columns (expr.Lit v)) ≡ form_of (value_syn v)
form-lit columns v = ap form_of (expr_syn-lit columns v)

pub form-col : (columns : List Column) (c : ℕ) → form_of (expr_syn columns (expr.Col c)) ≡ column_form (column_name columns c)
form-col columns c = ap form_of (expr_syn-col columns c) ∙ form_of-column (column_name columns c)

pub form-neg : (columns : List Column) (e : Expr) → form_of (expr_syn columns (expr.Neg e)) ≡ minus_form (form_of (expr_syn columns e))
form-neg columns e = ap form_of (expr_syn-neg columns e) ∙ form_of-neg (expr_syn columns e)

pub form-bin : (columns : List Column) (o : ArithOp) (a b : Expr) → form_of (expr_syn columns (expr.Bin o a b)) ≡ op_form (arith_op o) (form_of (expr_syn columns a)) (form_of (expr_syn columns b))
form-bin columns o a b = ap form_of (expr_syn-bin columns o a b) ∙ form_of-bin (arith_op o) (expr_syn columns a) (expr_syn columns b)

pub expr_level-lit : (v : Value) → expr_level (expr.Lit v) ≡ 7
expr_level-lit v = ap expr_level (sym (rolls-Lit v)) ∙ fold-roll-Expr ℕ expr_level_step (Expr-F.Lit v)

pub expr_level-col : (c : ℕ) → expr_level (expr.Col c) ≡ 7
expr_level-col c = ap expr_level (sym (rolls-Col c)) ∙ fold-roll-Expr ℕ expr_level_step (Expr-F.Col c)

pub expr_level-neg : (e : Expr) → expr_level (expr.Neg e) ≡ 7
expr_level-neg e = ap expr_level (sym (rolls-Neg e)) ∙ fold-roll-Expr ℕ expr_level_step (Expr-F.Neg e)

pub expr_level-bin : (o : ArithOp) (a b : Expr) → expr_level (expr.Bin o a b) ≡ level (arith_op o)
expr_level-bin o a b = ap expr_level (sym (rolls-Bin o a b)) ∙ fold-roll-Expr ℕ expr_level_step (Expr-F.Bin o a b)

pub is_closed-lit : (v : Value) → is_closed (expr.Lit v) ≡ is_number v
is_closed-lit v = ap is_closed (sym (rolls-Lit v)) ∙ fold-roll-Expr Bool closed_step (Expr-F.Lit v)

pub is_closed-col : (c : ℕ) → is_closed (expr.Col c) ≡ false
is_closed-col c = ap is_closed (sym (rolls-Col c)) ∙ fold-roll-Expr Bool closed_step (Expr-F.Col c)

pub is_closed-neg : (e : Expr) → is_closed (expr.Neg e) ≡ true
is_closed-neg e = ap is_closed (sym (rolls-Neg e)) ∙ fold-roll-Expr Bool closed_step (Expr-F.Neg e)

pub is_closed-bin : (o : ArithOp) (a b : Expr) → is_closed (expr.Bin o a b) ≡ true
is_closed-bin o a b = ap is_closed (sym (rolls-Bin o a b)) ∙ fold-roll-Expr Bool closed_step (Expr-F.Bin o a b)

-- THE FORM'S LEVEL IS THE EXPRESSION'S
record Same (columns : List Column) (e : Expr) : Type 0 where
  pub level : (form_of (expr_syn columns e)).level ≡ expr_level e
  pub closed : (form_of (expr_syn columns e)).closed ≡ is_closed e

same_is : (columns : List Column) (e : Expr) (f : Form) (n : ℕ) (b : Bool) → form_of (expr_syn columns e) ≡ f → expr_level e ≡ n → is_closed e ≡ b → f.level ≡ n → f.closed ≡ b → Same columns e
same_is columns e f n b p q r s t = record { level = ap (λ (x : Form). x.level) p ∙ s ∙ sym q; closed = ap (λ (x : Form). x.closed) p ∙ t ∙ sym r }

same-value : (columns : List Column) (v : Value) → Same columns (expr.Lit v)
same-value columns (value.Int (pos n)) = same_is columns (expr.Lit (value.Int (pos n))) (number_form false (Some n)) 7 true (form-lit columns (value.Int (pos n)) ∙ form_of-number false (Some n)) (expr_level-lit (value.Int (pos n))) (is_closed-lit (value.Int (pos n))) refl refl
same-value columns (value.Int (negsuc n)) = same_is columns (expr.Lit (value.Int (negsuc n))) (number_form true (Some (suc n))) 7 true (form-lit columns (value.Int (negsuc n)) ∙ form_of-number true (Some (suc n))) (expr_level-lit (value.Int (negsuc n))) (is_closed-lit (value.Int (negsuc n))) refl refl
same-value columns (value.Text t) = same_is columns (expr.Lit (value.Text t)) (text_form t) 7 false (form-lit columns (value.Text t) ∙ form_of-text t) (expr_level-lit (value.Text t)) (is_closed-lit (value.Text t)) refl refl

same-node : (columns : List Column) (x : Expr-F Expr) → Same columns (roll-Expr x)
same-node columns (Expr-F.Lit v) = subst (Same columns) (sym (rolls-Lit v)) (same-value columns v)
same-node columns (Expr-F.Col c) = subst (Same columns) (sym (rolls-Col c)) (same_is columns (expr.Col c) (column_form (column_name columns c)) 7 false (form-col columns c) (expr_level-col c) (is_closed-col c) refl refl)
same-node columns (Expr-F.Neg e) = subst (Same columns) (sym (rolls-Neg e)) (same_is columns (expr.Neg e) (minus_form (form_of (expr_syn columns e))) 7 true (form-neg columns e) (expr_level-neg e) (is_closed-neg e) refl refl)
same-node columns (Expr-F.Bin o a b) = subst (Same columns) (sym (rolls-Bin o a b)) (same_is columns (expr.Bin o a b) (op_form (arith_op o) (form_of (expr_syn columns a)) (form_of (expr_syn columns b))) (level (arith_op o)) true (form-bin columns o a b) (expr_level-bin o a b) (is_closed-bin o a b) refl refl)

same : (columns : List Column) (e : Expr) → Same columns e
same columns = ind-Expr (Same columns) (λ x y is. same-node columns x)

pub form-level : (columns : List Column) (e : Expr) → (form_of (expr_syn columns e)).level ≡ expr_level e
form-level columns e = let s = same columns e in s.level

pub form-closed : (columns : List Column) (e : Expr) → (form_of (expr_syn columns e)).closed ≡ is_closed e
form-closed columns e = let s = same columns e in s.closed

-- an operand stands in parentheses where its level is too low
pub at_level-enclosed : (p : ℕ) (f : Form) → at_level p f ≡ enclosed_if (nat_lt f.level p) f.shape
at_level-enclosed p f = grind arith

-- THE TEXT
same_left : (o : ArithOp) → left_level (arith_op o) ≡ level (arith_op o)
same_left ariths.Add = refl
same_left ariths.Sub = refl
same_left ariths.Mul = refl
same_left ariths.Div = refl
same_left ariths.Rem = refl

operand-text : (columns : List Column) (e : Expr) (p q : ℕ) → p ≡ q → shape_text (at_level p (form_of (expr_syn columns e))) ≡ shape_text (enclosed_if (nat_lt (expr_level e) q) (shape_of (expr_syn columns e)))
operand-text columns e p q l = ap shape_text (at_level-enclosed p (form_of (expr_syn columns e))) ∙ ap (λ (n : ℕ). shape_text (enclosed_if (nat_lt n p) (shape_of (expr_syn columns e)))) (form-level columns e) ∙ ap (λ (n : ℕ). shape_text (enclosed_if (nat_lt (expr_level e) n) (shape_of (expr_syn columns e)))) l

pub text-lit : (columns : List Column) (v : Value) → expr_text (expr_syn columns (expr.Lit v)) ≡ expr_text (value_syn v)
text-lit columns v = ap expr_text (expr_syn-lit columns v)

pub text-col : (columns : List Column) (c : ℕ) → expr_text (expr_syn columns (expr.Col c)) ≡ column_name columns c
text-col columns c = ap (λ (f : Form). shape_text f.shape) (form-col columns c)

pub text-neg : (columns : List Column) (e : Expr) → expr_text (expr_syn columns (expr.Neg e)) ≡ codes "-" ++ shape_text (enclosed_if (is_closed e) (shape_of (expr_syn columns e)))
text-neg columns e = ap (λ (f : Form). shape_text f.shape) (form-neg columns e) ∙ ap (λ (b : Bool). codes "-" ++ shape_text (enclosed_if b (shape_of (expr_syn columns e)))) (form-closed columns e)

pub text-bin : (columns : List Column) (o : ArithOp) (a b : Expr) → expr_text (expr_syn columns (expr.Bin o a b)) ≡ shape_text (enclosed_if (nat_lt (expr_level a) (level (arith_op o))) (shape_of (expr_syn columns a))) ++ ((codes " " ++ (op_text (arith_op o) ++ codes " ")) ++ shape_text (enclosed_if (nat_lt (expr_level b) (level (arith_op o) + 1)) (shape_of (expr_syn columns b))))
text-bin columns o a b =
    let x : List ℕ = shape_text (enclosed_if (nat_lt (expr_level a) (level (arith_op o))) (shape_of (expr_syn columns a))) in
    let y : List ℕ = shape_text (enclosed_if (nat_lt (expr_level b) (level (arith_op o) + 1)) (shape_of (expr_syn columns b))) in
    let z : List ℕ = shape_text (at_level (level (arith_op o) + 1) (form_of (expr_syn columns b))) in
    ap (λ (f : Form). shape_text f.shape) (form-bin columns o a b)
    ∙ ap (λ (t : List ℕ). t ++ (codes " " ++ (op_text (arith_op o) ++ (codes " " ++ z)))) (operand-text columns a (left_level (arith_op o)) (level (arith_op o)) (same_left o))
    ∙ ap (λ (t : List ℕ). x ++ (codes " " ++ (op_text (arith_op o) ++ (codes " " ++ t)))) (operand-text columns b (level (arith_op o) + 1) (level (arith_op o) + 1) refl)
    ∙ ap (λ (t : List ℕ). x ++ (codes " " ++ t)) (sym (append_assoc (op_text (arith_op o)) (codes " ") y))

-- the same of an expression that is such a node, with what the code has of its parts
pub neg_is : (columns : List Column) (e inner : Expr) (b : Bool) → e ≡ expr.Neg inner → b ≡ is_closed inner → expr_text (expr_syn columns e) ≡ codes "-" ++ shape_text (enclosed_if b (shape_of (expr_syn columns inner)))
neg_is columns e inner b is q = ap (λ (x : Expr). expr_text (expr_syn columns x)) is ∙ text-neg columns inner ∙ ap (λ (x : Bool). codes "-" ++ shape_text (enclosed_if x (shape_of (expr_syn columns inner)))) (sym q)

pub bin_is : (columns : List Column) (e a b : Expr) (o : ArithOp) (l m n : ℕ) (sign : List ℕ) → e ≡ expr.Bin o a b → m ≡ level (arith_op o) → l ≡ expr_level a → n ≡ expr_level b → sign ≡ codes " " ++ (op_text (arith_op o) ++ codes " ")
    → expr_text (expr_syn columns e) ≡ shape_text (enclosed_if (nat_lt l m) (shape_of (expr_syn columns a))) ++ (sign ++ shape_text (enclosed_if (nat_lt n (m + 1)) (shape_of (expr_syn columns b))))
bin_is columns e a b o l m n sign is p q r s =
    let left : Bool → List ℕ = λ x. shape_text (enclosed_if x (shape_of (expr_syn columns a))) in
    let right : Bool → List ℕ = λ x. shape_text (enclosed_if x (shape_of (expr_syn columns b))) in
    let one : nat_lt (expr_level a) (level (arith_op o)) ≡ nat_lt l m = ap (λ (x : ℕ). nat_lt x (level (arith_op o))) (sym q) ∙ ap (λ (x : ℕ). nat_lt l x) (sym p) in
    let two : nat_lt (expr_level b) (level (arith_op o) + 1) ≡ nat_lt n (m + 1) = ap (λ (x : ℕ). nat_lt x (level (arith_op o) + 1)) (sym r) ∙ ap (λ (x : ℕ). nat_lt n (x + 1)) (sym p) in
    ap (λ (x : Expr). expr_text (expr_syn columns x)) is ∙ text-bin columns o a b
    ∙ ap (λ (x : List ℕ). left (nat_lt (expr_level a) (level (arith_op o))) ++ (x ++ right (nat_lt (expr_level b) (level (arith_op o) + 1)))) (sym s)
    ∙ ap (λ (x : Bool). left x ++ (sign ++ right (nat_lt (expr_level b) (level (arith_op o) + 1)))) one ∙ ap (λ (x : Bool). left (nat_lt l m) ++ (sign ++ right x)) two

pub ruleset levels = (expr_level-lit, expr_level-col, expr_level-neg, expr_level-bin, is_closed-lit, is_closed-col, is_closed-neg, is_closed-bin)

pub ruleset values = (form_of-number, form_of-text)

pub ruleset exprs = (text-lit, text-col, text-neg, text-bin)

-- the texts of the pushes, joined
pub joined : (t u x y whole : List ℕ) → u ≡ t ++ x → whole ≡ x ++ y → u ++ y ≡ t ++ whole
joined t u x y whole p q = ap (λ (z : List ℕ). z ++ y) p ∙ append_assoc t x y ∙ ap (λ (z : List ℕ). t ++ z) (sym q)

pub joined_twice : (t u v x y z whole : List ℕ) → u ≡ t ++ x → v ≡ u ++ y → whole ≡ x ++ (y ++ z) → v ++ z ≡ t ++ whole
joined_twice t u v x y z whole p q r = ap (λ (w : List ℕ). w ++ z) q ∙ append_assoc u y z ∙ joined t u x (y ++ z) whole p r
