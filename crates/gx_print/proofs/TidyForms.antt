-- What is tidied is printed within the same limits.
use Rattle.std.proofs.Common.{◌≡◌, ℕ, zero, suc, ◌+◌, ◌≤◌, nat_le, Bool, true, false, if◌then◌else◌, Option, Some, None, refl, sym, ◌∙◌, ap, subst}
use Rattle.gx_grammar.specs.declared.fault.Limits.{Limits}
use Rattle.gx_grammar.specs.declared.syn.Op.{Op}
use Rattle.gx_grammar.specs.declared.syn.Syn.{Syn, roll-Syn}
use Rattle.gx_grammar.specs.declared.syn.Syn.TheOpen.{Syn-F}
use Rattle.gx_grammar.specs.declared.syn.Syn.TheFolds.{fold-roll-Syn, ind-Syn, map-Syn}
use Rattle.gx_grammar.specs.Grammar.{Shape, parens, level, left_level, Within, operators_of}
use Rattle.gx_print.specs.Forms.{Form, enclosed_if, at_level, number_form, text_form, column_form, minus_form, not_form, op_form, form_step, form_of, IsShallow}
use Rattle.gx_print.proofs.Tidied.{tidy_number, tidy_step, tidy}
use Rattle.gx_print.proofs.ShapeTexts.{TextsOne}
use Rattle.gx_print.proofs.Nodes.{form_of-number, form_of-text, form_of-column, form_of-neg, form_of-not, form_of-bin}

-- as deep, with as many operators, and with texts that may stand in a line where those may
record AlikeShapes (s t : Shape) : Type 0 where
  pub within : (d : Limits) (n : ℕ) (after : Bool) → Within d n after s → Within d n after t
  pub operators : operators_of t ≡ operators_of s
  pub texts : TextsOne s → TextsOne t

record Alike (f g : Form) : Type 0 where
  pub shapes : AlikeShapes f.shape g.shape
  pub level : g.level ≡ f.level
  pub closed : g.closed ≡ f.closed

same_shape : (s : Shape) → AlikeShapes s s
same_shape s = record { within = λ d n after w. w; operators = refl; texts = λ h. h }

same_form : (f : Form) → Alike f f
same_form f = record { shapes = same_shape f.shape; level = refl; closed = refl }

parens_alike : (s t : Shape) → AlikeShapes s t → AlikeShapes (parens s) (parens t)
parens_alike s t a = record { within = λ d n after w. a.within d (if after then n else n + 1) false w; operators = a.operators; texts = a.texts }

enclosed_alike : (b : Bool) (s t : Shape) → AlikeShapes s t → AlikeShapes (enclosed_if b s) (enclosed_if b t)
enclosed_alike true s t a = parens_alike s t a
enclosed_alike false s t a = a

either_alike : (b : Bool) (s t : Shape) → AlikeShapes s t → AlikeShapes (if b then s else parens s) (if b then t else parens t)
either_alike true s t a = a
either_alike false s t a = parens_alike s t a

at_alike : (p : ℕ) (f g : Form) → Alike f g → AlikeShapes (at_level p f) (at_level p g)
at_alike p f g a = subst (λ (n : ℕ). AlikeShapes (at_level p f) (if nat_le p n then g.shape else parens g.shape)) (sym a.level) (either_alike (nat_le p f.level) f.shape g.shape a.shapes)

minus_shapes : (f g : Form) → Alike f g → AlikeShapes (enclosed_if f.closed f.shape) (enclosed_if g.closed g.shape)
minus_shapes f g a = subst (λ (b : Bool). AlikeShapes (enclosed_if f.closed f.shape) (enclosed_if b g.shape)) (sym a.closed) (enclosed_alike f.closed f.shape g.shape a.shapes)

minus_alike : (f g : Form) → Alike f g → Alike (minus_form f) (minus_form g)
minus_alike f g a = let s = minus_shapes f g a in record { shapes = record { within = λ d n after w. s.within d (n + 1) true w; operators = ap (λ (n : ℕ). 1 + n) s.operators; texts = s.texts }; level = refl; closed = refl }

not_alike : (f g : Form) → Alike f g → Alike (not_form f) (not_form g)
not_alike f g a = let s = at_alike 3 f g a in record { shapes = record { within = λ d n after w. s.within d (n + 1) false w; operators = ap (λ (n : ℕ). 1 + n) s.operators; texts = s.texts }; level = refl; closed = refl }

op_alike : (o : Op) (f g h k : Form) → Alike f g → Alike h k → Alike (op_form o f h) (op_form o g k)
op_alike o f g h k a b =
    let s = at_alike (left_level o) f g a in
    let t = at_alike (level o + 1) h k b in
    record {
      shapes = record {
        within = λ d n after w. (s.within d n false w.0, t.within d n false w.1);
        operators = ap (λ (n : ℕ). n + (1 + operators_of (at_level (level o + 1) k))) s.operators ∙ ap (λ (n : ℕ). operators_of (at_level (left_level o) f) + (1 + n)) t.operators;
        texts = λ h. (s.texts h.0, t.texts h.1);
      };
      level = refl;
      closed = refl;
    }

number_alike : (b : Bool) (n : Option ℕ) → Alike (number_form b n) (form_of (tidy_number b n))
number_alike true (Some zero) = subst (λ (f : Form). Alike (number_form true (Some zero)) f) (sym (form_of-number false (Some zero))) (record { shapes = record { within = λ d n after w. w; operators = refl; texts = λ h. h }; level = refl; closed = refl })
number_alike true (Some (suc n)) = subst (λ (f : Form). Alike (number_form true (Some (suc n))) f) (sym (form_of-number true (Some (suc n)))) (same_form (number_form true (Some (suc n))))
number_alike true None = subst (λ (f : Form). Alike (number_form true None) f) (sym (form_of-number true None)) (same_form (number_form true None))
number_alike false n = subst (λ (f : Form). Alike (number_form false n) f) (sym (form_of-number false n)) (same_form (number_form false n))

abbrev IsAlike : Syn → Type 0
IsAlike t = Alike (form_of t) (form_of (tidy t))

rolled : (x : Syn-F Syn) → Alike (form_step (map-Syn Syn Form form_of x)) (form_of (tidy_step (map-Syn Syn Syn tidy x))) → IsAlike (roll-Syn x)
rolled x a = subst (λ (f : Form). Alike f (form_of (tidy (roll-Syn x)))) (sym (fold-roll-Syn Form form_step x)) (subst (λ (t : Syn). Alike (form_step (map-Syn Syn Form form_of x)) (form_of t)) (sym (fold-roll-Syn Syn tidy_step x)) a)

node : (y : Syn-F ((t : Syn) × IsAlike t)) → IsAlike (roll-Syn (map-Syn ((t : Syn) × IsAlike t) Syn (λ e. e.0) y))
node (Syn-F.Number b n) = rolled (Syn-F.Number b n) (number_alike b n)
node (Syn-F.Text t) = rolled (Syn-F.Text t) (subst (λ (f : Form). Alike (text_form t) f) (sym (form_of-text t)) (same_form (text_form t)))
node (Syn-F.Column c) = rolled (Syn-F.Column c) (subst (λ (f : Form). Alike (column_form c) f) (sym (form_of-column c)) (same_form (column_form c)))
node (Syn-F.Neg e) = rolled (Syn-F.Neg e.0) (subst (λ (f : Form). Alike (minus_form (form_of e.0)) f) (sym (form_of-neg (tidy e.0))) (minus_alike (form_of e.0) (form_of (tidy e.0)) e.1))
node (Syn-F.Not e) = rolled (Syn-F.Not e.0) (subst (λ (f : Form). Alike (not_form (form_of e.0)) f) (sym (form_of-not (tidy e.0))) (not_alike (form_of e.0) (form_of (tidy e.0)) e.1))
node (Syn-F.Bin o e g) = rolled (Syn-F.Bin o e.0 g.0) (subst (λ (f : Form). Alike (op_form o (form_of e.0) (form_of g.0)) f) (sym (form_of-bin o (tidy e.0) (tidy g.0))) (op_alike o (form_of e.0) (form_of (tidy e.0)) (form_of g.0) (form_of (tidy g.0)) e.1 g.1))

alike : (t : Syn) → IsAlike t
alike = ind-Syn IsAlike (λ x y is. subst (λ (z : Syn-F Syn). IsAlike (roll-Syn z)) is (node y))

pub tidy_shallow : (d : Limits) (t : Syn) → IsShallow d t → IsShallow d (tidy t)
tidy_shallow d t w = let a = alike t in let s = a.shapes in (s.within d 0 false w.0, subst (λ (n : ℕ). n ≤ d.operators) (sym s.operators) w.1)

pub tidy_texts : (t : Syn) → TextsOne (form_of t).shape → TextsOne (form_of (tidy t)).shape
tidy_texts t h = let a = alike t in let s = a.shapes in s.texts h
