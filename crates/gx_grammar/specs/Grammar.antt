-- The grammar of expressions.
use Rattle.std.specs.Prelude.{◌≡◌, ℕ, ◌+◌, ◌≤◌, Bool, true, false, if◌then◌else◌, List, [], ◌∷◌, ◌++◌, length, Option}
use Rattle.gx_lex.specs.declared.word.Word.TheVariants as word
use Rattle.gx_lex.specs.declared.symbol.Symbol.TheVariants as symbol
use Rattle.gx_lex.specs.declared.token.Token.{Token}
use Rattle.gx_lex.specs.declared.token.Token.TheVariants as token
use Rattle.gx_grammar.specs.declared.fault.Limits.{Limits}
use Rattle.gx_grammar.specs.declared.syn.Op.{Op}
use Rattle.gx_grammar.specs.declared.syn.Op.TheVariants.{Or, And, Equal, NotEqual, Less, LessEqual, Greater, GreaterEqual, Add, Sub, Mul, Div, Rem}
use Rattle.gx_grammar.specs.declared.syn.Syn.{Syn}
use Rattle.gx_grammar.specs.declared.syn.Syn.TheVariants.{Number, Text, Column, Neg, Not, Bin}

-- how an operator is written
abbrev pub written : Op → Token
written Or = token.Word word.Or
written And = token.Word word.And
written Equal = token.Symbol symbol.Equal
written NotEqual = token.Symbol symbol.NotEqual
written Less = token.Symbol symbol.Less
written LessEqual = token.Symbol symbol.LessEqual
written Greater = token.Symbol symbol.Greater
written GreaterEqual = token.Symbol symbol.GreaterEqual
written Add = token.Symbol symbol.Plus
written Sub = token.Symbol symbol.Minus
written Mul = token.Symbol symbol.Star
written Div = token.Symbol symbol.Slash
written Rem = token.Symbol symbol.Percent

-- a way of writing an expression, its parentheses kept
pub data Shape : Type 0 where
  digits : Option ℕ → Shape
  minus_digits : Option ℕ → Shape
  text : List ℕ → Shape
  column : List ℕ → Shape
  parens : Shape → Shape
  minus : Shape → Shape
  negated : Shape → Shape
  both : Op → Shape → Shape → Shape

-- its tokens
abbrev pub tokens_of : Shape → List Token
tokens_of (digits n) = token.Number n ∷ []
tokens_of (minus_digits n) = token.Symbol symbol.Minus ∷ token.Number n ∷ []
tokens_of (text t) = token.Text t ∷ []
tokens_of (column c) = token.Name c ∷ []
tokens_of (parens s) = token.Symbol symbol.Open ∷ (tokens_of s ++ token.Symbol symbol.Close ∷ [])
tokens_of (minus s) = token.Symbol symbol.Minus ∷ tokens_of s
tokens_of (negated s) = token.Word word.Not ∷ tokens_of s
tokens_of (both op a b) = tokens_of a ++ written op ∷ tokens_of b

-- the expression that it writes
abbrev pub tree_of : Shape → Syn
tree_of (digits n) = Number false n
tree_of (minus_digits n) = Number true n
tree_of (text t) = Text t
tree_of (column c) = Column c
tree_of (parens s) = tree_of s
tree_of (minus s) = Neg (tree_of s)
tree_of (negated s) = Not (tree_of s)
tree_of (both op a b) = Bin op (tree_of a) (tree_of b)

-- The rules have levels: 1 expr, 2 conj, 3 neg, 4 comp, 5 sum, 6 prod, 7 sign and atom.
-- The level of the rule of an operator, and of its left operand. The right operand is a level above the operator.
abbrev pub level : Op → ℕ
level Or = 1
level And = 2
level Add = 5
level Sub = 5
level Mul = 6
level Div = 6
level Rem = 6
level _ = 4

abbrev pub left_level : Op → ℕ
left_level Or = 1
left_level And = 2
left_level Mul = 6
left_level Div = 6
left_level Rem = 6
left_level _ = 5

abbrev pub IsNoDigits : Shape → Type 0
IsNoDigits (digits n) = ⊥
IsNoDigits _ = Unit {0}

-- it is written by the rule of this level
abbrev pub Fits : ℕ → Shape → Type 0
Fits p (digits n) = p ≤ 7
Fits p (minus_digits n) = p ≤ 7
Fits p (text t) = p ≤ 7
Fits p (column c) = p ≤ 7
Fits p (parens s) = (p ≤ 7) × Fits 1 s
Fits p (minus s) = (p ≤ 7) × Fits 7 s × IsNoDigits s
Fits p (negated s) = (p ≤ 3) × Fits 3 s
Fits p (both op a b) = (p ≤ level op) × Fits (left_level op) a × Fits (level op + 1) b

-- its names and texts are short enough, and no token that stands for itself has more than the limit around it, n of them
-- from outside; a parenthesis directly after a minus isn't counted
abbrev pub Within : Limits → ℕ → Bool → Shape → Type 0
Within d n after (digits m) = n ≤ d.depth
Within d n after (minus_digits m) = n ≤ d.depth
Within d n after (text t) = (length t ≤ d.text) × (n ≤ d.depth)
Within d n after (column c) = (length c ≤ d.name) × (n ≤ d.depth)
Within d n after (parens s) = Within d (if after then n else n + 1) false s
Within d n after (minus s) = Within d (n + 1) true s
Within d n after (negated s) = Within d (n + 1) false s
Within d n after (both op a b) = Within d n false a × Within d n false b

-- its operators, a literal's sign not counted
abbrev pub operators_of : Shape → ℕ
operators_of (digits n) = 0
operators_of (minus_digits n) = 0
operators_of (text t) = 0
operators_of (column c) = 0
operators_of (parens s) = operators_of s
operators_of (minus s) = 1 + operators_of s
operators_of (negated s) = 1 + operators_of s
operators_of (both op a b) = operators_of a + (1 + operators_of b)

-- these tokens are an expression that means this tree, within the limits
abbrev pub expr : Limits → Syn → List Token → Type 0
expr d t ts = (s : Shape) × Fits 1 s × Within d 0 false s × (operators_of s ≤ d.operators) × (ts ≡ tokens_of s) × (t ≡ tree_of s)
