-- Levels, frames and tests.
use Rattle.std.proofs.Common.{◌≡◌, ℕ, ◌+◌, ◌<◌, ◌≤◌, nat_le, Bool, true, false, if◌then◌else◌, List, [], ◌∷◌, length, Option, Some, None, refl, subst, arith}
use Rattle.gx_lex.specs.declared.word.Word.{Word}
use Rattle.gx_lex.specs.declared.word.Word.TheVariants as word
use Rattle.gx_lex.specs.declared.symbol.Symbol.{Symbol}
use Rattle.gx_lex.specs.declared.symbol.Symbol.TheVariants as symbol
use Rattle.gx_lex.specs.declared.token.Token.{Token}
use Rattle.gx_lex.specs.declared.token.Token.TheVariants as token
use Rattle.gx_grammar.specs.declared.fault.Limits.{Limits}
use Rattle.gx_grammar.specs.declared.syn.Op.{Op}
use Rattle.gx_grammar.specs.declared.syn.Op.TheVariants as op
use Rattle.gx_grammar.specs.declared.syn.Syn.{Syn}
use Rattle.gx_grammar.specs.declared.expr.Frame.{Frame}
use Rattle.gx_grammar.specs.declared.expr.Frame.TheVariants.{Paren, Minus, Negation, Left}
use Rattle.gx_grammar.specs.declared.expr.Prefix.{Prefix}
use Rattle.gx_grammar.specs.declared.expr.Prefix.TheVariants as prefix
use Rattle.gx_grammar.specs.Limiting.{Below}
use Rattle.gx_grammar.specs.Grammar.{written, level, left_level, Shape, digits, minus_digits, text, column, parens, minus, negated, both, Fits, Within}
use Rattle.gx_grammar.specs.Machine.{is_not, word_op, symbol_op, op_of, is_close_symbol, is_close, prefix_of, wants, is_minus, close, reduce}

pub by_le : {A : Type 0} (a b : ℕ) (x y : A) → a ≤ b → (if nat_le a b then x else y) ≡ x
by_le a b x y l = grind arith

pub by_not_le : {A : Type 0} (a b : ℕ) (x y : A) → b < a → (if nat_le a b then x else y) ≡ y
by_not_le a b x y l = grind arith

pub pick : {A : Type 0} (P : A → Type 0) (c : Bool) (x y : A) → (c ≡ true → P x) → (c ≡ false → P y) → P (if c then x else y)
pick P true x y f g = f refl
pick P false x y f g = g refl

pub pick_le : {A : Type 0} (P : A → Type 0) (a b : ℕ) (x y : A) → (a ≤ b → P x) → (b < a → P y) → P (if nat_le a b then x else y)
pick_le P a b x y f g = pick P (nat_le a b) x y (λ e. f (grind arith)) (λ e. g (grind arith))

pub by_true : {A : Type 0} (c : Bool) (x y : A) → c ≡ true → (if c then x else y) ≡ x
by_true c x y e = grind arith

pub by_false : {A : Type 0} (c : Bool) (x y : A) → c ≡ false → (if c then x else y) ≡ y
by_false c x y e = grind arith

pub wants_to : (k : List Frame) → wants k ≤ 7
wants_to k = grind arith

pub level_from : (o : Op) → 1 ≤ level o
level_from o = grind arith

pub level_to : (o : Op) → level o ≤ 6
level_to o = grind arith

pub left_from : (o : Op) → level o ≤ left_level o
left_from o = grind arith

pub left_to : (o : Op) → left_level o ≤ level o + 1
left_to o = grind arith

pub wants_minus : (k : List Frame) → wants k ≤ 6 → is_minus k ≡ false
wants_minus k l = grind arith

-- a frame that an operator goes under isn't closed by it
pub reduce_stays : (o : Op) (t : Syn) (k : List Frame) → wants k ≤ level o → reduce (left_level o) t k ≡ (t, k)
reduce_stays o t [] l = refl
reduce_stays o t (Paren ∷ k) l = grind (arith, left_from o, level_from o)
reduce_stays o t (Minus ∷ k) l = absurd (grind (arith, level_to o))
reduce_stays o t (Negation ∷ k) l = grind arith
reduce_stays o t (Left p u ∷ k) l = grind (arith, left_from o)

-- closing down to a level may go by a higher one
pub reduce_less : (p q : ℕ) (t : Syn) (k : List Frame) → p ≤ q → reduce p (reduce q t k).0 (reduce q t k).1 ≡ reduce p t k
reduce_less p q t [] l = refl
reduce_less p q t (f ∷ k) l = grind (arith, reduce_less p q (close f t) k l)

pub within_least : (d : Limits) (n : ℕ) (after : Bool) (s : Shape) → Within d n after s → n ≤ d.depth
within_least d n after (digits m) w = w
within_least d n after (minus_digits m) w = w
within_least d n after (text t) w = w.1
within_least d n after (column c) w = w.1
within_least d n true (parens s) w = within_least d n false s w
within_least d n false (parens s) w = grind (arith, within_least d (n + 1) false s w)
within_least d n after (minus s) w = grind (arith, within_least d (n + 1) true s w)
within_least d n after (negated s) w = grind (arith, within_least d (n + 1) false s w)
within_least d n after (both o a b) w = within_least d n false a w.0

pub within_more : (d e : Limits) (n : ℕ) (after : Bool) (s : Shape) → Below d e → Within d n after s → Within e n after s
within_more d e n after (digits m) l w = omega arith
within_more d e n after (minus_digits m) l w = omega arith
within_more d e n after (text t) l w = let a : length t ≤ d.text = w.0 in let b : n ≤ d.depth = w.1 in (omega arith, omega arith)
within_more d e n after (column c) l w = let a : length c ≤ d.name = w.0 in let b : n ≤ d.depth = w.1 in (omega arith, omega arith)
within_more d e n after (parens s) l w = within_more d e (if after then n else n + 1) false s l w
within_more d e n after (minus s) l w = within_more d e (n + 1) true s l w
within_more d e n after (negated s) l w = within_more d e (n + 1) false s l w
within_more d e n after (both o a b) l w = (within_more d e n false a l w.0, within_more d e n false b l w.1)

pub fits_less : (p q : ℕ) (s : Shape) → p ≤ q → Fits q s → Fits p s
fits_less p q (digits n) l f = omega arith
fits_less p q (minus_digits n) l f = omega arith
fits_less p q (text n) l f = omega arith
fits_less p q (column n) l f = omega arith
fits_less p q (parens s) l f = (omega arith, f.1)
fits_less p q (minus s) l f = (omega arith, f.1, f.2)
fits_less p q (negated s) l f = (omega arith, f.1)
fits_less p q (both o a b) l f = (omega arith, f.1, f.2)

-- what tokens are
some_same : {A : Type 0} (x y : A) → Some x ≡ Some y → x ≡ y
some_same x y e = cc

pub op_written : (o : Op) → op_of (written o) ≡ Some o
op_written op.Or = refl
op_written op.And = refl
op_written op.Equal = refl
op_written op.NotEqual = refl
op_written op.Less = refl
op_written op.LessEqual = refl
op_written op.Greater = refl
op_written op.GreaterEqual = refl
op_written op.Add = refl
op_written op.Sub = refl
op_written op.Mul = refl
op_written op.Div = refl
op_written op.Rem = refl

abbrev IsWritten : Token → Option Op → Type 0
IsWritten x (Some o) = x ≡ written o
IsWritten x None = Unit {0}

word_written : (w : Word) → IsWritten (token.Word w) (word_op w)
word_written word.Or = refl
word_written word.And = refl
word_written _ = tt

symbol_written : (s : Symbol) → IsWritten (token.Symbol s) (symbol_op s)
symbol_written symbol.Equal = refl
symbol_written symbol.NotEqual = refl
symbol_written symbol.Less = refl
symbol_written symbol.LessEqual = refl
symbol_written symbol.Greater = refl
symbol_written symbol.GreaterEqual = refl
symbol_written symbol.Plus = refl
symbol_written symbol.Minus = refl
symbol_written symbol.Star = refl
symbol_written symbol.Slash = refl
symbol_written symbol.Percent = refl
symbol_written _ = tt

is_written : (x : Token) → IsWritten x (op_of x)
is_written (token.Word w) = word_written w
is_written (token.Symbol s) = symbol_written s
is_written (token.Name n) = tt
is_written (token.Number n) = tt
is_written (token.Text n) = tt
is_written token.Bad = tt

pub written_is : (x : Token) (o : Op) → op_of x ≡ Some o → x ≡ written o
written_is x o e = subst (λ (y : Option Op). IsWritten x y) e (is_written x)

abbrev IsClose : Token → Bool → Type 0
IsClose x true = x ≡ token.Symbol symbol.Close
IsClose x false = Unit {0}

symbol_closes : (s : Symbol) → IsClose (token.Symbol s) (is_close_symbol s)
symbol_closes symbol.Close = refl
symbol_closes _ = tt

closes : (x : Token) → IsClose x (is_close x)
closes (token.Symbol s) = symbol_closes s
closes (token.Word w) = tt
closes (token.Name n) = tt
closes (token.Number n) = tt
closes (token.Text n) = tt
closes token.Bad = tt

pub close_is : (x : Token) → is_close x ≡ true → x ≡ token.Symbol symbol.Close
close_is x e = subst (λ (y : Bool). IsClose x y) e (closes x)

abbrev IsNot : Word → Bool → Type 0
IsNot w true = w ≡ word.Not
IsNot w false = Unit {0}

word_not : (w : Word) → IsNot w (is_not w)
word_not word.Not = refl
word_not _ = tt

pub not_is : (w : Word) → is_not w ≡ true → w ≡ word.Not
not_is w e = subst (λ (y : Bool). IsNot w y) e (word_not w)

-- the sign that a prefix is
abbrev pub sign_of : Prefix → Symbol
sign_of prefix.Minus = symbol.Minus
sign_of prefix.Open = symbol.Open

abbrev IsPrefix : Symbol → Option Prefix → Type 0
IsPrefix s (Some p) = s ≡ sign_of p
IsPrefix s None = Unit {0}

symbol_prefix : (s : Symbol) → IsPrefix s (prefix_of s)
symbol_prefix symbol.Minus = refl
symbol_prefix symbol.Open = refl
symbol_prefix _ = tt

pub prefix_is : (s : Symbol) (p : Prefix) → prefix_of s ≡ Some p → s ≡ sign_of p
prefix_is s p e = subst (λ (y : Option Prefix). IsPrefix s y) e (symbol_prefix s)
