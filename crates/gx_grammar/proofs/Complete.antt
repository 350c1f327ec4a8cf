-- What is written is read.
use Rattle.std.proofs.Common.{◌≡◌, ℕ, ◌+◌, ◌≤◌, Bool, true, false, if◌then◌else◌, List, [], ◌∷◌, ◌++◌, Option, None, refl, sym, ◌∙◌, ap, arith, append_assoc, Ok, Err}
use Rattle.gx_lex.specs.declared.word.Word.TheVariants as word
use Rattle.gx_lex.specs.declared.symbol.Symbol.TheVariants as symbol
use Rattle.gx_lex.specs.declared.token.Token.{Token}
use Rattle.gx_lex.specs.declared.token.Token.TheVariants as token
use Rattle.gx_grammar.specs.declared.fault.Limits.{Limits}
use Rattle.gx_grammar.specs.declared.fault.Fault.TheVariants.{Syntax}
use Rattle.gx_grammar.specs.declared.syn.Syn.{Syn}
use Rattle.gx_grammar.specs.declared.syn.Syn.TheVariants.{Number, Text, Column}
use Rattle.gx_grammar.specs.declared.expr.Frame.{Frame}
use Rattle.gx_grammar.specs.declared.expr.Frame.TheVariants.{Paren, Minus, Negation, Left}
use Rattle.gx_grammar.specs.Grammar.{written, tokens_of, tree_of, level, left_level, Shape, digits, minus_digits, text, column, parens, minus, negated, both, Fits, Within, IsNoDigits, operators_of, expr}
use Rattle.gx_grammar.specs.Machine.{op_of, is_close, wants, is_minus, deep, so_far, reduce, run, after_step, step, Mode, Want, Have, Go, Done, Step, within, on_close, on_op, ending, behind_operand, operator_by, expr_at}
use Rattle.gx_grammar.proofs.Tools.{by_le, level_from, level_to, left_from, wants_minus, reduce_stays, reduce_less, within_least, op_written}

-- having read the shape, the reader has it as its operand, once the frames above the level are closed
pub record Reached (d : Limits) (c p : ℕ) (s : Shape) (k : List Frame) (rest : List Token) : Type 0 where
  pub top : Syn
  pub under : List Frame
  pub ran : run d (tokens_of s ++ rest) (Want c k) ≡ run d rest (Have (so_far c k + operators_of s) top under)
  pub reduces : reduce p top under ≡ reduce p (tree_of s) k

-- a step that goes on
goes : (d : Limits) (x : Token) (xs : List Token) (m n : Mode) → step d m x ≡ Go n → run d (x ∷ xs) m ≡ run d xs n
goes d x xs m n e = ap (λ (s : Step). after_step s (λ n. run d xs n) (x ∷ xs)) e

inside : (d : Limits) (n c : ℕ) (m : Mode) → n ≤ d.depth → c ≤ d.operators → within d n c m ≡ Go m
inside d n c m l k = by_le n d.depth _ _ l ∙ by_le c d.operators _ _ k

-- the same count, written otherwise
counted : (d : Limits) (rest : List Token) (t : Syn) (k : List Frame) (a b : ℕ) → a ≡ b → run d rest (Have a t k) ≡ run d rest (Have b t k)
counted d rest t k a b e = ap (λ (x : ℕ). run d rest (Have x t k)) e

plain : (c : ℕ) (k : List Frame) → is_minus k ≡ false → so_far c k ≡ c
plain c k e = ap (λ (b : Bool). if b then c + 1 else c) e

number_reached : (d : Limits) (c p : ℕ) (n : Option ℕ) (k : List Frame) (rest : List Token) → is_minus k ≡ false → Reached d c p (digits n) k rest
number_reached d c p n [] rest e = record { top = Number false n; under = []; ran = counted d rest _ _ c (c + 0) (omega arith); reduces = refl }
number_reached d c p n (Paren ∷ k) rest e = record { top = Number false n; under = Paren ∷ k; ran = counted d rest _ _ c (c + 0) (omega arith); reduces = refl }
number_reached d c p n (Minus ∷ k) rest e = absurd (cc)
number_reached d c p n (Negation ∷ k) rest e = record { top = Number false n; under = Negation ∷ k; ran = counted d rest _ _ c (c + 0) (omega arith); reduces = refl }
number_reached d c p n (Left o t ∷ k) rest e = record { top = Number false n; under = Left o t ∷ k; ran = counted d rest _ _ c (c + 0) (omega arith); reduces = refl }

not_minus : (k : List Frame) (n : Option ℕ) (b : Bool) → is_minus k ≡ b → (b ≡ true → IsNoDigits (digits n)) → is_minus k ≡ false
not_minus k n true e f = absurd (f refl)
not_minus k n false e f = e

pub reach : (d : Limits) (c p : ℕ) (s : Shape) (k : List Frame) (rest : List Token) → 1 ≤ p → Fits p s → wants k ≤ p → Within d (deep k) (is_minus k) s → so_far c k + operators_of s ≤ d.operators → (is_minus k ≡ true → IsNoDigits s) → Reached d c p s k rest
reach d c p (digits n) k rest l f w h m z = number_reached d c p n k rest (not_minus k n (is_minus k) refl z)
reach d c p (minus_digits n) k rest l f w h m z = record {
  top = Number true n;
  under = k;
  ran = goes d (token.Symbol symbol.Minus) (token.Number n ∷ rest) (Want c k) (Want (so_far c k) (Minus ∷ k)) (inside d (deep k) (so_far c k) _ h (omega arith)) ∙ counted d rest (Number true n) k (so_far c k) (so_far c k + 0) (omega arith);
  reduces = refl;
}
reach d c p (text v) k rest l f w h m z = record {
  top = Text v;
  under = k;
  ran = goes d (token.Text v) rest (Want c k) (Have (so_far c k) (Text v) k) (by_le _ d.text _ _ h.0 ∙ inside d (deep k) (so_far c k) _ h.1 (omega arith)) ∙ counted d rest (Text v) k (so_far c k) (so_far c k + 0) (omega arith);
  reduces = refl;
}
reach d c p (column n) k rest l f w h m z = record {
  top = Column n;
  under = k;
  ran = goes d (token.Name n) rest (Want c k) (Have (so_far c k) (Column n) k) (by_le _ d.name _ _ h.0 ∙ inside d (deep k) (so_far c k) _ h.1 (omega arith)) ∙ counted d rest (Column n) k (so_far c k) (so_far c k + 0) (omega arith);
  reduces = refl;
}
reach d c p (parens s) k rest l f w h m z =
    let r = reach d (so_far c k) 1 s (Paren ∷ k) (token.Symbol symbol.Close ∷ rest) (omega arith) f.1 (omega arith) h m (λ e. absurd (cc)) in
    record {
      top = tree_of s;
      under = k;
      ran = goes d (token.Symbol symbol.Open) ((tokens_of s ++ token.Symbol symbol.Close ∷ []) ++ rest) (Want c k) (Want (so_far c k) (Paren ∷ k)) (inside d (deep (Paren ∷ k)) (so_far c k) _ (within_least d _ false s h) (omega arith)) ∙ ap (λ (ts : List Token). run d ts (Want (so_far c k) (Paren ∷ k))) (append_assoc (tokens_of s) (token.Symbol symbol.Close ∷ []) rest) ∙ r.ran ∙ goes d (token.Symbol symbol.Close) rest (Have (so_far c k + operators_of s) r.top r.under) (Have (so_far c k + operators_of s) (tree_of s) k) (ap (λ (x : Syn × List Frame). on_close (so_far c k + operators_of s) x.0 x.1) r.reduces);
      reduces = refl;
    }
reach d c p (minus s) k rest l f w h m z =
    let i = within_least d _ true s h in
    let r = reach d (so_far c k) 7 s (Minus ∷ k) rest (omega arith) f.1 (omega arith) h (omega arith) (λ e. f.2) in
    record {
      top = r.top;
      under = r.under;
      ran = goes d (token.Symbol symbol.Minus) (tokens_of s ++ rest) (Want c k) (Want (so_far c k) (Minus ∷ k)) (inside d (deep k) (so_far c k) _ (omega arith) (omega arith)) ∙ r.ran ∙ counted d rest r.top r.under (so_far c k + 1 + operators_of s) (so_far c k + (1 + operators_of s)) (omega arith);
      reduces = sym (reduce_less p 7 r.top r.under f.0) ∙ ap (λ (x : Syn × List Frame). reduce p x.0 x.1) r.reduces ∙ reduce_less p 7 (tree_of s) (Minus ∷ k) f.0 ∙ by_le p 7 _ _ f.0;
    }
reach d c p (negated s) k rest l f w h m z =
    let i = within_least d _ false s h in
    let b : wants k ≤ 3 = omega (arith, f.0) in
    let e : so_far c k ≡ c = plain c k (wants_minus k (omega arith)) in
    let r = reach d (c + 1) 3 s (Negation ∷ k) rest (omega arith) f.1 (omega arith) h (omega arith) (λ e. absurd (cc)) in
    record {
      top = r.top;
      under = r.under;
      ran = goes d (token.Word word.Not) (tokens_of s ++ rest) (Want c k) (Want (c + 1) (Negation ∷ k)) (by_le (wants k) 3 _ _ b ∙ inside d (deep k + 1) (c + 1) _ i (omega arith)) ∙ r.ran ∙ counted d rest r.top r.under (c + 1 + operators_of s) (so_far c k + (1 + operators_of s)) (omega arith);
      reduces = sym (reduce_less p 3 r.top r.under f.0) ∙ ap (λ (x : Syn × List Frame). reduce p x.0 x.1) r.reduces ∙ reduce_less p 3 (tree_of s) (Negation ∷ k) f.0 ∙ by_le p 3 _ _ f.0;
    }
reach d c p (both o a b) k rest l f w h m z =
    let here : wants k ≤ level o = omega (arith, f.0) in
    let e : is_minus k ≡ false = wants_minus k (grind (arith, level_to o)) in
    let q : so_far c k ≡ c = plain c k e in
    let n = so_far c k + operators_of a in
    let r = reach d c (left_level o) a k (written o ∷ tokens_of b ++ rest) (grind (arith, level_from o, left_from o)) f.1 (grind (arith, left_from o)) (rw e h.0) (omega arith) (λ z. absurd (cc)) in
    let i = reach d (so_far c k + operators_of a + 1) (level o + 1) b (Left o (tree_of a) ∷ k) rest (omega arith) f.2 (omega arith) h.1 (omega arith) (λ z. absurd (cc)) in
    record {
      top = i.top;
      under = i.under;
      ran = ap (λ (ts : List Token). run d ts (Want c k)) (append_assoc (tokens_of a) (written o ∷ tokens_of b) rest) ∙ r.ran
          ∙ goes d (written o) (tokens_of b ++ rest) (Have (so_far c k + operators_of a) r.top r.under) (Want (so_far c k + operators_of a + 1) (Left o (tree_of a) ∷ k))
          (ap (operator_by d (so_far c k + operators_of a) r.top r.under (written o)) (op_written o)
          ∙ ap (λ (x : Syn × List Frame). on_op d (so_far c k + operators_of a) o x) (r.reduces ∙ reduce_stays o (tree_of a) k here)
          ∙ by_le (wants k) (level o) _ _ here ∙ by_le (so_far c k + operators_of a + 1) d.operators _ _ (omega arith))
          ∙ i.ran ∙ counted d rest i.top i.under (so_far c k + operators_of a + 1 + operators_of b) (so_far c k + (operators_of a + (1 + operators_of b))) (omega arith);
      reduces = sym (reduce_less p (level o + 1) i.top i.under (omega (arith, f.0))) ∙ ap (λ (x : Syn × List Frame). reduce p x.0 x.1) i.reduces ∙ reduce_less p (level o + 1) (tree_of b) (Left o (tree_of a) ∷ k) (omega (arith, f.0)) ∙ by_le p (level o) _ _ f.0;
    }

-- no operator follows
abbrev pub Ends : List Token → Type 0
Ends [] = Unit {0}
Ends (y ∷ ys) = op_of y ≡ None

both_end : (c : ℕ) (u : Syn) (b : Bool) → behind_operand c (u, []) b ≡ Done u
both_end c u true = refl
both_end c u false = refl

ended : (d : Limits) (c : ℕ) (t u : Syn) (k : List Frame) (rest : List Token) → Ends rest → reduce 1 t k ≡ (u, []) → run d rest (Have c t k) ≡ Ok (u, rest)
ended d c t u k [] n e = ap (λ (x : Syn × List Frame). after_step (ending x) (λ _. Err (Syntax, [])) []) e
ended d c t u k (y ∷ ys) n e = ap (λ (s : Step). after_step s (λ n. run d ys n) (y ∷ ys)) (ap (operator_by d c t k y) n ∙ ap (λ (x : Syn × List Frame). behind_operand c x (is_close y)) e ∙ both_end c u (is_close y))

-- each expression is read as it is written, where its end can be seen
pub complete : (d : Limits) (ts rest : List Token) (t : Syn) → expr d t ts → Ends rest → expr_at d (ts ++ rest) ≡ Ok (t, rest)
complete d ts rest t (s, f, w, o, e, u) n =
    let r = reach d 0 1 s [] rest (omega arith) f (omega arith) w (omega arith) (λ z. absurd (cc)) in
    ap (λ (ys : List Token). run d (ys ++ rest) (Want 0 [])) e ∙ r.ran ∙ ended d _ r.top (tree_of s) r.under rest n r.reduces ∙ ap (λ (y : Syn). Ok (y, rest)) (sym u)
