-- The reader of expressions, token by token.
use Rattle.std.specs.Prelude.{ℕ, ◌+◌, nat_le, Bool, true, false, if◌then◌else◌, List, [], ◌∷◌, length, Ok, Err, Option, Some, None}
use Rattle.gx_lex.specs.declared.word.Word.{Word}
use Rattle.gx_lex.specs.declared.word.Word.TheVariants as word
use Rattle.gx_lex.specs.declared.symbol.Symbol.{Symbol}
use Rattle.gx_lex.specs.declared.symbol.Symbol.TheVariants as symbol
use Rattle.gx_lex.specs.declared.token.Token.{Token}
use Rattle.gx_lex.specs.declared.token.Token.TheVariants as token
use Rattle.gx_grammar.specs.declared.fault.Limits.{Limits}
use Rattle.gx_grammar.specs.declared.fault.LineLimit.TheVariants as limit
use Rattle.gx_grammar.specs.declared.fault.Fault.{Fault}
use Rattle.gx_grammar.specs.declared.fault.Fault.TheVariants.{Syntax, TooMany}
use Rattle.gx_grammar.specs.declared.syn.Op.{Op}
use Rattle.gx_grammar.specs.declared.syn.Op.TheVariants as op
use Rattle.gx_grammar.specs.declared.syn.Syn.{Syn}
use Rattle.gx_grammar.specs.declared.syn.Syn.TheVariants.{Number, Text, Column, Neg, Not, Bin}
use Rattle.gx_grammar.specs.declared.expr.Frame.{Frame}
use Rattle.gx_grammar.specs.declared.expr.Frame.TheVariants.{Paren, Minus, Negation, Left}
use Rattle.gx_grammar.specs.declared.expr.Prefix.{Prefix}
use Rattle.gx_grammar.specs.declared.expr.Prefix.TheVariants as prefix
use Rattle.gx_grammar.specs.Grammar.{level, left_level}
use Rattle.gx_grammar.specs.Rules.{Reading}

abbrev pub is_not : Word → Bool
is_not word.Not = true
is_not _ = false

abbrev pub word_op : Word → Option Op
word_op word.Or = Some op.Or
word_op word.And = Some op.And
word_op _ = None

abbrev pub symbol_op : Symbol → Option Op
symbol_op symbol.Equal = Some op.Equal
symbol_op symbol.NotEqual = Some op.NotEqual
symbol_op symbol.Less = Some op.Less
symbol_op symbol.LessEqual = Some op.LessEqual
symbol_op symbol.Greater = Some op.Greater
symbol_op symbol.GreaterEqual = Some op.GreaterEqual
symbol_op symbol.Plus = Some op.Add
symbol_op symbol.Minus = Some op.Sub
symbol_op symbol.Star = Some op.Mul
symbol_op symbol.Slash = Some op.Div
symbol_op symbol.Percent = Some op.Rem
symbol_op _ = None

-- the operator that a token is
abbrev pub op_of : Token → Option Op
op_of (token.Word w) = word_op w
op_of (token.Symbol s) = symbol_op s
op_of _ = None

abbrev pub is_close_symbol : Symbol → Bool
is_close_symbol symbol.Close = true
is_close_symbol _ = false

abbrev pub is_close : Token → Bool
is_close (token.Symbol s) = is_close_symbol s
is_close _ = false

-- the level of the rule that a frame goes on with
abbrev pub frame_level : Frame → ℕ
frame_level Paren = 0
frame_level Minus = 7
frame_level Negation = 3
frame_level (Left op t) = level op

-- the level that an operand must have behind these frames, the innermost first
abbrev pub wants : List Frame → ℕ
wants [] = 1
wants (Paren ∷ k) = 1
wants (Minus ∷ k) = 7
wants (Negation ∷ k) = 3
wants (Left op t ∷ k) = level op + 1

abbrev pub is_minus : List Frame → Bool
is_minus [] = false
is_minus (Paren ∷ k) = false
is_minus (Minus ∷ k) = true
is_minus (Negation ∷ k) = false
is_minus (Left op t ∷ k) = false

-- how many of them count as depth
abbrev pub deep : List Frame → ℕ
deep [] = 0
deep (Paren ∷ k) = if is_minus k then deep k else deep k + 1
deep (Minus ∷ k) = deep k + 1
deep (Negation ∷ k) = deep k + 1
deep (Left op t ∷ k) = deep k

-- the operators so far, where the last minus is no literal's sign
abbrev pub so_far : ℕ → List Frame → ℕ
so_far c k = if is_minus k then c + 1 else c

-- a frame around its last operand
abbrev pub close : Frame → Syn → Syn
close Paren t = t
close Minus t = Neg t
close Negation t = Not t
close (Left op l) t = Bin op l t

-- closes the frames down to a level
abbrev pub reduce : ℕ → Syn → List Frame → Syn × List Frame
reduce q t [] = (t, [])
reduce q t (f ∷ k) = if nat_le q (frame_level f) then reduce q (close f t) k else (t, f ∷ k)

-- the reader awaits an operand, or has one, behind so many operators; a minus directly before the place isn't counted
pub data Mode : Type 0 where
  Want : ℕ → List Frame → Mode
  Have : ℕ → Syn → List Frame → Mode

pub data Step : Type 0 where
  Stop : Fault → Step
  Go : Mode → Step
  Done : Syn → Step

abbrev pub too_deep : Step
too_deep = Stop (TooMany limit.Depth)

-- goes on where so deep a place and so many operators are within the limits
abbrev pub within : Limits → ℕ → ℕ → Mode → Step
within d n c m = if nat_le n d.depth then (if nat_le c d.operators then Go m else too_deep) else too_deep

abbrev pub on_number : ℕ → Option ℕ → List Frame → Mode
on_number c n [] = Have c (Number false n) []
on_number c n (Paren ∷ k) = Have c (Number false n) (Paren ∷ k)
on_number c n (Minus ∷ k) = Have c (Number true n) k
on_number c n (Negation ∷ k) = Have c (Number false n) (Negation ∷ k)
on_number c n (Left op t ∷ k) = Have c (Number false n) (Left op t ∷ k)

-- a token that stands for itself
abbrev pub on_leaf : Limits → ℕ → List Frame → Syn → Step
on_leaf d c k t = within d (deep k) (so_far c k) (Have (so_far c k) t k)

abbrev pub on_name : Limits → ℕ → List Frame → List ℕ → Step
on_name d c k name = if nat_le (length name) d.name then on_leaf d c k (Column name) else Stop (TooMany limit.Name)

abbrev pub on_text : Limits → ℕ → List Frame → List ℕ → Step
on_text d c k value = if nat_le (length value) d.text then on_leaf d c k (Text value) else Stop (TooMany limit.Text)

abbrev pub on_not : Limits → ℕ → List Frame → Step
on_not d c k = if nat_le (wants k) 3 then within d (deep k + 1) (c + 1) (Want (c + 1) (Negation ∷ k)) else Stop Syntax

abbrev pub on_word : Limits → ℕ → List Frame → Word → Step
on_word d c k w = if is_not w then on_not d c k else Stop Syntax

abbrev pub on_minus : Limits → ℕ → List Frame → Step
on_minus d c k = within d (deep k) (so_far c k) (Want (so_far c k) (Minus ∷ k))

abbrev pub on_open : Limits → ℕ → List Frame → Step
on_open d c k = within d (deep (Paren ∷ k)) (so_far c k) (Want (so_far c k) (Paren ∷ k))

-- the signs that may begin an operand
abbrev pub prefix_of : Symbol → Option Prefix
prefix_of symbol.Minus = Some prefix.Minus
prefix_of symbol.Open = Some prefix.Open
prefix_of _ = None

abbrev pub on_prefix : Limits → ℕ → List Frame → Option Prefix → Step
on_prefix d c k (Some prefix.Minus) = on_minus d c k
on_prefix d c k (Some prefix.Open) = on_open d c k
on_prefix d c k None = Stop Syntax

abbrev pub on_symbol : Limits → ℕ → List Frame → Symbol → Step
on_symbol d c k s = on_prefix d c k (prefix_of s)

abbrev pub operand : Limits → ℕ → List Frame → Token → Step
operand d c k (token.Number n) = Go (on_number c n k)
operand d c k (token.Name name) = on_name d c k name
operand d c k (token.Text value) = on_text d c k value
operand d c k (token.Word w) = on_word d c k w
operand d c k (token.Symbol s) = on_symbol d c k s
operand d c k token.Bad = Stop Syntax

abbrev pub on_op : Limits → ℕ → Op → Syn × List Frame → Step
on_op d c op r = if nat_le (wants r.1) (level op) then (if nat_le (c + 1) d.operators then Go (Want (c + 1) (Left op r.0 ∷ r.1)) else too_deep) else Stop Syntax

abbrev pub on_close : ℕ → Syn → List Frame → Step
on_close c t [] = Done t
on_close c t (Paren ∷ k) = Go (Have c t k)
on_close c t (f ∷ k) = Stop Syntax

abbrev pub on_end : Syn → List Frame → Step
on_end t [] = Done t
on_end t (f ∷ k) = Stop Syntax

abbrev pub ending : Syn × List Frame → Step
ending r = on_end r.0 r.1

abbrev pub behind_operand : ℕ → Syn × List Frame → Bool → Step
behind_operand c r closes = if closes then on_close c r.0 r.1 else ending r

abbrev pub operator_by : Limits → ℕ → Syn → List Frame → Token → Option Op → Step
operator_by d c t k x (Some op) = on_op d c op (reduce (left_level op) t k)
operator_by d c t k x None = behind_operand c (reduce 1 t k) (is_close x)

abbrev pub operator : Limits → ℕ → Syn → List Frame → Token → Step
operator d c t k x = operator_by d c t k x (op_of x)

abbrev pub step : Limits → Mode → Token → Step
step d (Want c k) x = operand d c k x
step d (Have c t k) x = operator d c t k x

abbrev pub finish : Mode → Step
finish (Want c k) = Stop Syntax
finish (Have c t k) = ending (reduce 1 t k)

abbrev pub after_step : Step → (Mode → Reading Syn) → List Token → Reading Syn
after_step (Stop e) go here = Err (e, here)
after_step (Go m) go here = go m
after_step (Done t) go here = Ok (t, here)

abbrev pub run : Limits → List Token → Mode → Reading Syn
run d [] m = after_step (finish m) (λ _. Err (Syntax, [])) []
run d (x ∷ xs) m = after_step (step d m x) (λ n. run d xs n) (x ∷ xs)

-- reads the expression that stands first
abbrev pub expr_at : Limits → List Token → Reading Syn
expr_at d ts = run d ts (Want 0 [])
