-- The bytes of a way of writing an expression are cut into its tokens.
use Rattle.std.proofs.Common.{[], ◌∷◌, codes, refl}
use Rattle.gx_lex.specs.declared.word.Word.TheVariants as word
use Rattle.gx_lex.specs.declared.symbol.Symbol.TheVariants as symbol
use Rattle.gx_grammar.specs.declared.syn.Op.{Op}
use Rattle.gx_grammar.specs.declared.syn.Op.TheVariants.{Or, And, Equal, NotEqual, Less, LessEqual, Greater, GreaterEqual, Add, Sub, Mul, Div, Rem}
use Rattle.gx_grammar.specs.Grammar.{Shape, digits, minus_digits, text, column, parens, minus, negated, both, tokens_of, written}
use Rattle.gx_print.specs.Shapes.{shape_text, op_text, IsClear}
use Rattle.gx_print.proofs.Cuts.{Cuts, behind, also, spaced, enclosed, negative, lone, keyword, name_cuts, number_cuts, text_cuts, less_ends, greater_ends}

op_cuts : (o : Op) → Cuts (written o ∷ []) (op_text o)
op_cuts Or = keyword word.Or (codes "OR") refl refl
op_cuts And = keyword word.And (codes "AND") refl refl
op_cuts Equal = lone symbol.Equal (codes "=") (λ rest b. tt) refl
op_cuts NotEqual = lone symbol.NotEqual (codes "<>") (λ rest b. tt) refl
op_cuts Less = lone symbol.Less (codes "<") less_ends refl
op_cuts LessEqual = lone symbol.LessEqual (codes "<=") (λ rest b. tt) refl
op_cuts Greater = lone symbol.Greater (codes ">") greater_ends refl
op_cuts GreaterEqual = lone symbol.GreaterEqual (codes ">=") (λ rest b. tt) refl
op_cuts Add = lone symbol.Plus (codes "+") (λ rest b. tt) refl
op_cuts Sub = lone symbol.Minus (codes "-") (λ rest b. tt) refl
op_cuts Mul = lone symbol.Star (codes "*") (λ rest b. tt) refl
op_cuts Div = lone symbol.Slash (codes "/") (λ rest b. tt) refl
op_cuts Rem = lone symbol.Percent (codes "%") (λ rest b. tt) refl

pub shape_cuts : (s : Shape) → IsClear s → Cuts (tokens_of s) (shape_text s)
shape_cuts (digits n) c = number_cuts n c
shape_cuts (minus_digits n) c = negative (number_cuts n c)
shape_cuts (text t) c = text_cuts t
shape_cuts (column n) c = name_cuts n c
shape_cuts (parens s) c = enclosed (shape_cuts s c)
shape_cuts (minus s) c = negative (shape_cuts s c)
shape_cuts (negated s) c = behind (keyword word.Not (codes "NOT") refl refl) (spaced (shape_cuts s c))
shape_cuts (both o a b) c = behind (shape_cuts a c.0) (also (spaced (op_cuts o)) (spaced (shape_cuts b c.1)))
