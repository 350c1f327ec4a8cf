-- How an expression is written with parentheses only where they are needed.
use Rattle.std.specs.Prelude.{ℕ, ◌+◌, ◌≤◌, nat_le, Bool, true, false, if◌then◌else◌, List, Option}
use Rattle.gx_grammar.specs.declared.fault.Limits.{Limits}
use Rattle.gx_grammar.specs.declared.syn.Op.{Op}
use Rattle.gx_grammar.specs.declared.syn.Syn.{Syn}
use Rattle.gx_grammar.specs.declared.syn.Syn.TheOpen.{Syn-F}
use Rattle.gx_grammar.specs.declared.syn.Syn.TheFolds.{fold-Syn}
use Rattle.gx_grammar.specs.Grammar.{Shape, digits, minus_digits, text, column, parens, minus, negated, both, level, left_level, Within, operators_of}

-- a way of writing, the level of its rule, and whether it stands in parentheses behind a minus sign
pub record Form : Type 0 where
  pub shape : Shape
  pub level : ℕ
  pub closed : Bool

abbrev pub enclosed_if : Bool → Shape → Shape
enclosed_if true s = parens s
enclosed_if false s = s

-- in parentheses unless the rule of a level writes it
abbrev pub at_level : ℕ → Form → Shape
at_level p f = if nat_le p f.level then f.shape else parens f.shape

abbrev pub number_shape : Bool → Option ℕ → Shape
number_shape false n = digits n
number_shape true n = minus_digits n

abbrev pub number_form : Bool → Option ℕ → Form
number_form negative n = record { shape = number_shape negative n; level = 7; closed = true }

abbrev pub text_form : List ℕ → Form
text_form t = record { shape = text t; level = 7; closed = false }

abbrev pub column_form : List ℕ → Form
column_form c = record { shape = column c; level = 7; closed = false }

-- behind a minus sign an operand stands in parentheses unless it is a name or a text
abbrev pub minus_form : Form → Form
minus_form f = record { shape = minus (enclosed_if f.closed f.shape); level = 7; closed = true }

abbrev pub not_form : Form → Form
not_form f = record { shape = negated (at_level 3 f); level = 3; closed = true }

abbrev pub op_form : Op → Form → Form → Form
op_form op f g = record { shape = both op (at_level (left_level op) f) (at_level (level op + 1) g); level = level op; closed = true }

abbrev pub form_step : Syn-F Form → Form
form_step (Syn-F.Number negative n) = number_form negative n
form_step (Syn-F.Text t) = text_form t
form_step (Syn-F.Column c) = column_form c
form_step (Syn-F.Neg f) = minus_form f
form_step (Syn-F.Not f) = not_form f
form_step (Syn-F.Bin op f g) = op_form op f g

abbrev pub form_of : Syn → Form
form_of syn = fold-Syn Form form_step syn

-- how the expression is printed
abbrev pub shape_of : Syn → Shape
shape_of syn = (form_of syn).shape

-- Its names and texts are short enough; no token has more NOTs, minus signs and needed parentheses around it than the
-- limit, a parenthesis directly after a minus sign not counted; and it has no more operators than the limit.
abbrev pub IsShallow : Limits → Syn → Type 0
IsShallow d syn = Within d 0 false (shape_of syn) × (operators_of (shape_of syn) ≤ d.operators)
