-- The form of an expression is a way of writing it.
use Rattle.std.proofs.Common.{◌≡◌, ℕ, ◌+◌, ◌≤◌, Bool, true, false, List, Option, refl, sym, ◌∙◌, ap, subst, arith}
use Rattle.gx_grammar.specs.declared.fault.Limits.{Limits}
use Rattle.gx_grammar.specs.declared.syn.Op.{Op}
use Rattle.gx_grammar.specs.declared.syn.Syn.{Syn, roll-Syn}
use Rattle.gx_grammar.specs.declared.syn.Syn.TheVariants.{Number, Text, Column, Neg, Not, Bin, rolls-Number, rolls-Text, rolls-Column, rolls-Neg, rolls-Not, rolls-Bin}
use Rattle.gx_grammar.specs.declared.syn.Syn.TheOpen.{Syn-F}
use Rattle.gx_grammar.specs.declared.syn.Syn.TheFolds.{fold-roll-Syn, ind-Syn, map-Syn}
use Rattle.gx_grammar.specs.Grammar.{level, left_level, tree_of, Fits, IsNoDigits, expr}
use Rattle.gx_print.specs.Forms.{Form, enclosed_if, at_level, number_form, text_form, column_form, minus_form, not_form, op_form, form_step, form_of, shape_of, IsShallow}
use Rattle.gx_print.specs.Statements.{expr_tokens}
use Rattle.gx_print.proofs.Levels.{pick_le, level_from, level_to, left_to, fits_less}

-- the form writes the expression
pub record Writes (f : Form) (t : Syn) : Type 0 where
  pub from : 1 ≤ f.level
  pub to : f.level ≤ 7
  pub fits : Fits f.level f.shape
  pub bare : f.closed ≡ false → Fits 7 f.shape × IsNoDigits f.shape
  pub tree : t ≡ tree_of f.shape

at_fits : (p : ℕ) (f : Form) (t : Syn) → p ≤ 7 → Writes f t → Fits p (at_level p f)
at_fits p f t l w = pick_le (λ s. Fits p s) p f.level _ _ (λ m. fits_less p f.level f.shape m w.fits) (λ m. (l, fits_less 1 f.level f.shape w.from w.fits))

at_tree : (p : ℕ) (f : Form) (t : Syn) → Writes f t → t ≡ tree_of (at_level p f)
at_tree p f t w = pick_le (λ s. t ≡ tree_of s) p f.level _ _ (λ m. w.tree) (λ m. w.tree)

minus_fits : (b : Bool) (f : Form) (t : Syn) → f.closed ≡ b → Writes f t → Fits 7 (enclosed_if b f.shape) × IsNoDigits (enclosed_if b f.shape)
minus_fits true f t e w = ((omega arith, fits_less 1 f.level f.shape w.from w.fits), tt)
minus_fits false f t e w = w.bare e

minus_tree : (b : Bool) (f : Form) (t : Syn) → Writes f t → t ≡ tree_of (enclosed_if b f.shape)
minus_tree true f t w = w.tree
minus_tree false f t w = w.tree

number_writes : (b : Bool) (n : Option ℕ) → Writes (number_form b n) (Number b n)
number_writes true n = record { from = omega arith; to = omega arith; fits = omega arith; bare = λ e. absurd (cc); tree = refl }
number_writes false n = record { from = omega arith; to = omega arith; fits = omega arith; bare = λ e. absurd (cc); tree = refl }

text_writes : (t : List ℕ) → Writes (text_form t) (Text t)
text_writes t = record { from = omega arith; to = omega arith; fits = omega arith; bare = λ e. (omega arith, tt); tree = refl }

column_writes : (c : List ℕ) → Writes (column_form c) (Column c)
column_writes c = record { from = omega arith; to = omega arith; fits = omega arith; bare = λ e. (omega arith, tt); tree = refl }

neg_writes : (f : Form) (t : Syn) → Writes f t → Writes (minus_form f) (Neg t)
neg_writes f t w = let (g, n) = minus_fits f.closed f t refl w in
    record { from = omega arith; to = omega arith; fits = (omega arith, g, n); bare = λ e. absurd (cc); tree = ap Neg (minus_tree f.closed f t w) }

not_writes : (f : Form) (t : Syn) → Writes f t → Writes (not_form f) (Not t)
not_writes f t w = record { from = omega arith; to = omega arith; fits = (omega arith, at_fits 3 f t (omega arith) w); bare = λ e. absurd (cc); tree = ap Not (at_tree 3 f t w) }

bin_writes : (o : Op) (f g : Form) (t u : Syn) → Writes f t → Writes g u → Writes (op_form o f g) (Bin o t u)
bin_writes o f g t u w v = record {
  from = level_from o;
  to = grind (arith, level_to o);
  fits = (omega arith, at_fits (left_level o) f t (grind (arith, left_to o, level_to o)) w, at_fits (level o + 1) g u (grind (arith, level_to o)) v);
  bare = λ e. absurd (cc);
  tree = ap (λ (x : Syn). Bin o x u) (at_tree (left_level o) f t w) ∙ ap (λ (x : Syn). Bin o (tree_of (at_level (left_level o) f)) x) (at_tree (level o + 1) g u v);
}

abbrev pub IsFormed : Syn → Type 0
IsFormed t = Writes (form_of t) t

-- a node's form, at the expression that it makes
rolled : (x : Syn-F Syn) (t : Syn) → roll-Syn x ≡ t → Writes (form_step (map-Syn Syn Form form_of x)) t → IsFormed (roll-Syn x)
rolled x t e w = subst (λ (f : Form). Writes f (roll-Syn x)) (sym (fold-roll-Syn Form form_step x)) (subst (λ (u : Syn). Writes (form_step (map-Syn Syn Form form_of x)) u) (sym e) w)

node_formed : (y : Syn-F ((t : Syn) × IsFormed t)) → IsFormed (roll-Syn (map-Syn ((t : Syn) × IsFormed t) Syn (λ e. e.0) y))
node_formed (Syn-F.Number b n) = rolled (Syn-F.Number b n) (Number b n) (rolls-Number b n) (number_writes b n)
node_formed (Syn-F.Text t) = rolled (Syn-F.Text t) (Text t) (rolls-Text t) (text_writes t)
node_formed (Syn-F.Column c) = rolled (Syn-F.Column c) (Column c) (rolls-Column c) (column_writes c)
node_formed (Syn-F.Neg e) = rolled (Syn-F.Neg e.0) (Neg e.0) (rolls-Neg e.0) (neg_writes (form_of e.0) e.0 e.1)
node_formed (Syn-F.Not e) = rolled (Syn-F.Not e.0) (Not e.0) (rolls-Not e.0) (not_writes (form_of e.0) e.0 e.1)
node_formed (Syn-F.Bin o e f) = rolled (Syn-F.Bin o e.0 f.0) (Bin o e.0 f.0) (rolls-Bin o e.0 f.0) (bin_writes o (form_of e.0) (form_of f.0) e.0 f.0 e.1 f.1)

pub formed : (t : Syn) → IsFormed t
formed = ind-Syn IsFormed (λ x y is. subst (λ (z : Syn-F Syn). IsFormed (roll-Syn z)) is (node_formed y))

-- where it is shallow, its printed tokens are an expression that means it
pub expr_spelled : (d : Limits) (t : Syn) → IsShallow d t → expr d t (expr_tokens t)
expr_spelled d t w = let f = formed t in (shape_of t, fits_less 1 (form_of t).level (shape_of t) f.from f.fits, w.0, w.1, refl, f.tree)
