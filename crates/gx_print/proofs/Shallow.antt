-- What is read within the limits is shallow.
use Rattle.std.proofs.Common.{◌≡◌, ℕ, ◌+◌, ◌≤◌, Bool, true, false, List, refl, sym, ◌∙◌, ap, subst, arith}
use Rattle.gx_lex.specs.declared.token.Token.{Token}
use Rattle.gx_grammar.specs.declared.fault.Limits.{Limits}
use Rattle.gx_grammar.specs.declared.syn.Syn.{Syn}
use Rattle.gx_grammar.specs.declared.syn.Syn.TheVariants.{rolls-Number, rolls-Text, rolls-Column, rolls-Neg, rolls-Not, rolls-Bin}
use Rattle.gx_grammar.specs.declared.syn.Syn.TheOpen.{Syn-F}
use Rattle.gx_grammar.specs.declared.syn.Syn.TheFolds.{fold-roll-Syn}
use Rattle.gx_grammar.specs.Grammar.{Shape, digits, minus_digits, text, column, parens, minus, negated, both, level, left_level, tree_of, Fits, Within, IsNoDigits, operators_of, expr}
use Rattle.gx_print.specs.Forms.{Form, enclosed_if, at_level, number_form, text_form, column_form, minus_form, not_form, op_form, form_step, form_of, IsShallow}
use Rattle.gx_print.proofs.Levels.{pick_le, by_le, level_from, level_to, left_from, within_down, within_after}

-- the form of what a way of writing means
abbrev pub form_again : Shape → Form
form_again (digits n) = number_form false n
form_again (minus_digits n) = number_form true n
form_again (text t) = text_form t
form_again (column c) = column_form c
form_again (parens s) = form_again s
form_again (minus s) = minus_form (form_again s)
form_again (negated s) = not_form (form_again s)
form_again (both o a b) = op_form o (form_again a) (form_again b)

pub form_is : (s : Shape) → form_of (tree_of s) ≡ form_again s
form_is (digits n) = ap form_of (sym (rolls-Number false n)) ∙ fold-roll-Syn Form form_step (Syn-F.Number false n)
form_is (minus_digits n) = ap form_of (sym (rolls-Number true n)) ∙ fold-roll-Syn Form form_step (Syn-F.Number true n)
form_is (text t) = ap form_of (sym (rolls-Text t)) ∙ fold-roll-Syn Form form_step (Syn-F.Text t)
form_is (column c) = ap form_of (sym (rolls-Column c)) ∙ fold-roll-Syn Form form_step (Syn-F.Column c)
form_is (parens s) = form_is s
form_is (minus s) = ap form_of (sym (rolls-Neg (tree_of s))) ∙ fold-roll-Syn Form form_step (Syn-F.Neg (tree_of s)) ∙ ap minus_form (form_is s)
form_is (negated s) = ap form_of (sym (rolls-Not (tree_of s))) ∙ fold-roll-Syn Form form_step (Syn-F.Not (tree_of s)) ∙ ap not_form (form_is s)
form_is (both o a b) = ap form_of (sym (rolls-Bin o (tree_of a) (tree_of b))) ∙ fold-roll-Syn Form form_step (Syn-F.Bin o (tree_of a) (tree_of b))
    ∙ ap (λ (f : Form). op_form o f (form_of (tree_of b))) (form_is a) ∙ ap (λ (f : Form). op_form o (form_again a) f) (form_is b)

level_up : (s : Shape) → 1 ≤ (form_again s).level
level_up (digits n) = omega arith
level_up (minus_digits n) = omega arith
level_up (text n) = omega arith
level_up (column n) = omega arith
level_up (parens s) = level_up s
level_up (minus s) = omega arith
level_up (negated s) = omega arith
level_up (both o a b) = level_from o

-- DEPTH
-- in an operand's place, and behind a minus sign, the form is no deeper
record NoDeeper (s : Shape) : Type 0 where
  pub operand : (d : Limits) (p n : ℕ) → 1 ≤ p → Fits p s → Within d n false s → Within d n false (at_level p (form_again s))
  pub behind : (d : Limits) (n : ℕ) → Fits 7 s → IsNoDigits s → Within d n true s → Within d n true (enclosed_if (form_again s).closed (form_again s).shape)

at_shape : (d : Limits) (n p : ℕ) (f : Form) → p ≤ f.level → Within d n false f.shape → Within d n false (at_level p f)
at_shape d n p f l w = subst (λ (s : Shape). Within d n false s) (sym (by_le p f.level f.shape (parens f.shape) l)) w

enclosed_in : (d : Limits) (n : ℕ) (b : Bool) (s : Shape) → Within d n false s → Within d n true (enclosed_if b s)
enclosed_in d n true s w = w
enclosed_in d n false s w = within_after d n s w

at_one : (d : Limits) (n : ℕ) (s : Shape) → Within d n false (at_level 1 (form_again s)) → Within d n false (form_again s).shape
at_one d n s w = subst (λ (x : Shape). Within d n false x) (by_le 1 (form_again s).level (form_again s).shape (parens (form_again s).shape) (level_up s)) w

no_deeper : (s : Shape) → NoDeeper s
no_deeper (digits k) = record { operand = λ d p n u f w. at_shape d n p (form_again (digits k)) f w; behind = λ d n f z w. absurd z }
no_deeper (minus_digits k) = record { operand = λ d p n u f w. at_shape d n p (form_again (minus_digits k)) f w; behind = λ d n f z w. w }
no_deeper (text t) = record { operand = λ d p n u f w. at_shape d n p (form_again (text t)) f w; behind = λ d n f z w. w }
no_deeper (column c) = record { operand = λ d p n u f w. at_shape d n p (form_again (column c)) f w; behind = λ d n f z w. w }
no_deeper (parens s) = let i = no_deeper s in record {
  operand = λ d p n u f w. let x = at_one d (n + 1) s (i.operand d 1 (n + 1) (omega arith) f.1 w) in
      pick_le (λ y. Within d n false y) p (form_again s).level _ _ (λ l. within_down d (n + 1) n false (form_again s).shape (omega arith) x) (λ l. x);
  behind = λ d n f z w. enclosed_in d n (form_again s).closed (form_again s).shape (at_one d n s (i.operand d 1 n (omega arith) f.1 w));
}
no_deeper (minus s) = let i = no_deeper s in record {
  operand = λ d p n u f w. at_shape d n p (form_again (minus s)) f.0 (i.behind d (n + 1) f.1 f.2 w);
  behind = λ d n f z w. i.behind d (n + 1) f.1 f.2 w;
}
no_deeper (negated s) = let i = no_deeper s in record {
  operand = λ d p n u f w. at_shape d n p (form_again (negated s)) f.0 (i.operand d 3 (n + 1) (omega arith) f.1 w);
  behind = λ d n f z w. absurd (let q = f.0 in omega arith);
}
no_deeper (both o a b) = let i = no_deeper a in let j = no_deeper b in record {
  operand = λ d p n u f w. at_shape d n p (form_again (both o a b)) f.0 (i.operand d (left_level o) n (grind (arith, level_from o, left_from o)) f.1 w.0, j.operand d (level o + 1) n (omega arith) f.2 w.1);
  behind = λ d n f z w. absurd (let q = f.0 in let r = level_to o in omega arith);
}

-- OPERATORS
operators_enclosed : (b : Bool) (s : Shape) → operators_of (enclosed_if b s) ≡ operators_of s
operators_enclosed true s = refl
operators_enclosed false s = refl

operators_at : (p : ℕ) (f : Form) → operators_of (at_level p f) ≡ operators_of f.shape
operators_at p f = pick_le (λ s. operators_of s ≡ operators_of f.shape) p f.level _ _ (λ m. refl) (λ m. refl)

-- parentheses are no operators
same_operators : (s : Shape) → operators_of (form_again s).shape ≡ operators_of s
same_operators (digits n) = refl
same_operators (minus_digits n) = refl
same_operators (text t) = refl
same_operators (column c) = refl
same_operators (parens s) = same_operators s
same_operators (minus s) = ap (λ (n : ℕ). 1 + n) (operators_enclosed (form_again s).closed (form_again s).shape ∙ same_operators s)
same_operators (negated s) = ap (λ (n : ℕ). 1 + n) (operators_at 3 (form_again s) ∙ same_operators s)
same_operators (both o a b) = ap (λ (n : ℕ). n + (1 + operators_of (at_level (level o + 1) (form_again b)))) (operators_at (left_level o) (form_again a) ∙ same_operators a)
    ∙ ap (λ (n : ℕ). operators_of a + (1 + n)) (operators_at (level o + 1) (form_again b) ∙ same_operators b)

-- what is written within the limits is shallow: its own writing has the parentheses that the printed form has
pub expr_shallow : (d : Limits) (t : Syn) (ts : List Token) → expr d t ts → IsShallow d t
expr_shallow d t ts (s, f, w, o, e, u) =
    let i = no_deeper s in
    let x = at_one d 0 s (i.operand d 1 0 (omega arith) f w) in
    let y : operators_of (form_again s).shape ≤ d.operators = subst (λ (n : ℕ). n ≤ d.operators) (sym (same_operators s)) o in
    subst (λ (v : Syn). IsShallow d v) (sym u) (subst (λ (g : Form). Within d 0 false g.shape × (operators_of g.shape ≤ d.operators)) (sym (form_is s)) (x, y))
