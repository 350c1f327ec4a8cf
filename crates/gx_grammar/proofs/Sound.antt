-- What is read is written so.
use Rattle.std.proofs.Common.{◌≡◌, ℕ, ◌+◌, ◌≤◌, Bool, true, false, if◌then◌else◌, List, [], ◌∷◌, ◌++◌, length, Option, Some, None, refl, sym, ◌∙◌, ap, subst, arith, append_assoc, append-nil, Ok, Err}
use Rattle.gx_lex.specs.declared.word.Word.{Word}
use Rattle.gx_lex.specs.declared.word.Word.TheVariants as word
use Rattle.gx_lex.specs.declared.symbol.Symbol.{Symbol}
use Rattle.gx_lex.specs.declared.symbol.Symbol.TheVariants as symbol
use Rattle.gx_lex.specs.declared.token.Token.{Token}
use Rattle.gx_lex.specs.declared.token.Token.TheVariants as token
use Rattle.gx_grammar.specs.declared.fault.Limits.{Limits}
use Rattle.gx_grammar.specs.declared.fault.Fault.TheVariants.{Syntax}
use Rattle.gx_grammar.specs.declared.syn.Op.{Op}
use Rattle.gx_grammar.specs.declared.syn.Syn.{Syn}
use Rattle.gx_grammar.specs.declared.syn.Syn.TheVariants.{Neg, Not, Bin}
use Rattle.gx_grammar.specs.declared.expr.Frame.{Frame}
use Rattle.gx_grammar.specs.declared.expr.Frame.TheVariants.{Paren, Minus, Negation, Left}
use Rattle.gx_grammar.specs.declared.expr.Prefix.{Prefix}
use Rattle.gx_grammar.specs.declared.expr.Prefix.TheVariants as prefix
use Rattle.gx_grammar.specs.Grammar.{written, tokens_of, tree_of, level, left_level, Shape, digits, minus_digits, text, column, parens, minus, negated, both, Fits, Within, IsNoDigits, operators_of, expr}
use Rattle.gx_grammar.specs.Rules.{Reading}
use Rattle.gx_grammar.specs.Machine.{is_not, op_of, is_close, frame_level, wants, is_minus, deep, so_far, close, reduce, run, after_step, step, finish, Mode, Want, Have, Go, Stop, Done, Step, within, on_number, on_leaf, on_not, on_word, prefix_of, on_prefix, on_op, on_close, on_end, behind_operand, operand, operator_by, expr_at}
use Rattle.gx_grammar.proofs.Tools.{pick, pick_le, level_from, level_to, left_from, left_to, wants_minus, wants_to, within_least, fits_less, written_is, close_is, not_is, sign_of, prefix_is}

-- the frames stand for these tokens, which have so many operators
abbrev pub Held : Limits → ℕ → List Frame → List Token → Type 0
Held d c [] us = (us ≡ []) × (c ≡ 0)
Held d c (Paren ∷ k) us = (vs : List Token) × (a : ℕ) × Held d a k vs × (c ≡ so_far a k) × (us ≡ vs ++ token.Symbol symbol.Open ∷ [])
Held d c (Minus ∷ k) us = (vs : List Token) × (a : ℕ) × Held d a k vs × (c ≡ so_far a k) × (us ≡ vs ++ token.Symbol symbol.Minus ∷ [])
Held d c (Negation ∷ k) us = (vs : List Token) × (a : ℕ) × Held d a k vs × (c ≡ a + 1) × (us ≡ vs ++ token.Word word.Not ∷ []) × (wants k ≤ 3)
Held d c (Left o l ∷ k) us = (vs : List Token) × (a : ℕ) × (s : Shape) × Held d a k vs × (c ≡ a + operators_of s + 1) × (wants k ≤ level o) × Fits (left_level o) s × Within d (deep k) false s × (l ≡ tree_of s) × (us ≡ vs ++ (tokens_of s ++ written o ∷ []))

-- the last tokens are the operand, of this level at least
pub record Holds (d : Limits) (c q : ℕ) (t : Syn) (k : List Frame) (us : List Token) : Type 0 where
  pub shape : Shape
  pub before : List Token
  pub so_many : ℕ
  pub held : Held d so_many k before
  pub count : c ≡ so_far so_many k + operators_of shape
  pub fits : Fits q shape
  pub here : Fits (wants k) shape
  pub inside : Within d (deep k) (is_minus k) shape
  pub clear : is_minus k ≡ true → IsNoDigits shape
  pub tree : t ≡ tree_of shape
  pub all : us ≡ before ++ tokens_of shape

-- a pending minus may still become a literal's
abbrev pub Room : Limits → List Frame → Type 0
Room d [] = Unit {0}
Room d (Paren ∷ k) = deep (Paren ∷ k) ≤ d.depth
Room d (Minus ∷ k) = deep k ≤ d.depth
Room d (Negation ∷ k) = deep (Negation ∷ k) ≤ d.depth
Room d (Left o t ∷ k) = deep k ≤ d.depth

abbrev pub Stands : Limits → Mode → List Token → Type 0
Stands d (Want c k) us = Held d c k us × Room d k × (c ≤ d.operators)
Stands d (Have c t k) us = Holds d c 7 t k us × (c ≤ d.operators)

plain : (a : ℕ) (k : List Frame) → is_minus k ≡ false → so_far a k ≡ a
plain a k e = ap (λ (b : Bool). if b then a + 1 else a) e

close_holds : (d : Limits) (c q : ℕ) (f : Frame) (t : Syn) (k : List Frame) (us : List Token) → 1 ≤ q → q ≤ frame_level f → Holds d c q t (f ∷ k) us → Holds d c q (close f t) k us
close_holds d c q Paren t k us l m h = absurd (omega arith)
close_holds d c q Minus t k us l m h =
    let (vs, a, held, n, all) = h.held in
    let e = h.count in
    record {
      shape = minus h.shape;
      before = vs;
      so_many = a;
      held = held;
      count = omega arith;
      fits = (m, h.here, h.clear refl);
      here = (wants_to k, h.here, h.clear refl);
      inside = h.inside;
      clear = λ e. tt;
      tree = ap Neg h.tree;
      all = h.all ∙ ap (λ (vs : List Token). vs ++ tokens_of h.shape) all ∙ append_assoc vs (token.Symbol symbol.Minus ∷ []) (tokens_of h.shape);
    }
close_holds d c q Negation t k us l m h =
    let (vs, a, held, n, all, w) = h.held in
    let e = h.count in
    let p : so_far a k ≡ a = plain a k (wants_minus k (omega arith)) in
    record {
      shape = negated h.shape;
      before = vs;
      so_many = a;
      held = held;
      count = omega arith;
      fits = (m, h.here);
      here = (w, h.here);
      inside = h.inside;
      clear = λ e. tt;
      tree = ap Not h.tree;
      all = h.all ∙ ap (λ (vs : List Token). vs ++ tokens_of h.shape) all ∙ append_assoc vs (token.Word word.Not ∷ []) (tokens_of h.shape);
    }
close_holds d c q (Left o l) t k us low m h =
    let (vs, a, s, held, n, under, fits, inside, tree, all) = h.held in
    let e = h.count in
    let p : so_far a k ≡ a = plain a k (wants_minus k (grind (arith, level_to o))) in
    record {
      shape = both o s h.shape;
      before = vs;
      so_many = a;
      held = held;
      count = omega arith;
      fits = (m, fits, h.here);
      here = (under, fits, h.here);
      inside = (inside, h.inside);
      clear = λ e. tt;
      tree = ap (λ (x : Syn). Bin o l x) h.tree ∙ ap (λ (x : Syn). Bin o x (tree_of h.shape)) tree;
      all = h.all ∙ ap (λ (vs : List Token). vs ++ tokens_of h.shape) all ∙ append_assoc vs (tokens_of s ++ written o ∷ []) (tokens_of h.shape) ∙ ap (λ (xs : List Token). vs ++ xs) (append_assoc (tokens_of s) (written o ∷ []) (tokens_of h.shape));
    }

pub reduce_holds : (d : Limits) (c q : ℕ) (t : Syn) (k : List Frame) (us : List Token) → 1 ≤ q → Holds d c q t k us → Holds d c q (reduce q t k).0 (reduce q t k).1 us
reduce_holds d c q t [] us l h = h
reduce_holds d c q t (f ∷ k) us l h = pick_le (λ (r : Syn × List Frame). Holds d c q r.0 r.1 us) q (frame_level f) _ _ (λ m. reduce_holds d c q (close f t) k us l (close_holds d c q f t k us l m h)) (λ m. h)

less_holds : (d : Limits) (c q : ℕ) (t : Syn) (k : List Frame) (us : List Token) → q ≤ 7 → Holds d c 7 t k us → Holds d c q t k us
less_holds d c q t k us l h = record { shape = h.shape; before = h.before; so_many = h.so_many; held = h.held; count = h.count; fits = fits_less q 7 h.shape l h.fits; here = h.here; inside = h.inside; clear = h.clear; tree = h.tree; all = h.all }

leaf_holds : (d : Limits) (c a : ℕ) (s : Shape) (k : List Frame) (us : List Token) → Held d a k us → c ≡ so_far a k + operators_of s → Fits 7 s → Within d (deep k) (is_minus k) s → (is_minus k ≡ true → IsNoDigits s) → Holds d c 7 (tree_of s) k (us ++ tokens_of s)
leaf_holds d c a s k us h n f w z = record { shape = s; before = us; so_many = a; held = h; count = n; fits = f; here = fits_less (wants k) 7 s (wants_to k) f; inside = w; clear = z; tree = refl; all = refl }

-- a step keeps what the reader stands for
abbrev pub StepOk : Limits → List Token → Token → Step → Type 0
StepOk d us x (Go n) = Stands d n (us ++ x ∷ [])
StepOk d us x (Done t) = expr d t us
StepOk d us x (Stop e) = Unit {0}

number_ok : (d : Limits) (c : ℕ) (n : Option ℕ) (k : List Frame) (us : List Token) → Held d c k us → Room d k → c ≤ d.operators → Stands d (on_number c n k) (us ++ token.Number n ∷ [])
number_ok d c n [] us h r l = (leaf_holds d c c (digits n) [] us h (omega arith) (omega arith) (omega arith) (λ e. absurd (cc)), l)
number_ok d c n (Paren ∷ k) us h r l = (leaf_holds d c c (digits n) (Paren ∷ k) us h (omega arith) (omega arith) r (λ e. absurd (cc)), l)
number_ok d c n (Minus ∷ k) us h r l =
    let (vs, a, held, e, all) = h in (
      record {
        shape = minus_digits n;
        before = vs;
        so_many = a;
        held = held;
        count = omega arith;
        fits = omega arith;
        here = wants_to k;
        inside = r;
        clear = λ e. tt;
        tree = refl;
        all = ap (λ (vs : List Token). vs ++ token.Number n ∷ []) all ∙ append_assoc vs (token.Symbol symbol.Minus ∷ []) (token.Number n ∷ []);
      },
      l,
    )
number_ok d c n (Negation ∷ k) us h r l = (leaf_holds d c c (digits n) (Negation ∷ k) us h (omega arith) (omega arith) r (λ e. absurd (cc)), l)
number_ok d c n (Left o t ∷ k) us h r l = (leaf_holds d c c (digits n) (Left o t ∷ k) us h (omega arith) (omega arith) r (λ e. absurd (cc)), l)

within_ok : (d : Limits) (us : List Token) (x : Token) (n c : ℕ) (m : Mode) → (n ≤ d.depth → c ≤ d.operators → Stands d m (us ++ x ∷ [])) → StepOk d us x (within d n c m)
within_ok d us x n c m f = pick_le (λ s. StepOk d us x s) n d.depth _ _ (λ l. pick_le (λ s. StepOk d us x s) c d.operators _ _ (λ k. f l k) (λ k. tt)) (λ l. tt)

leaf_ok : (d : Limits) (c : ℕ) (k : List Frame) (us : List Token) (x : Token) (s : Shape) → Held d c k us → tokens_of s ≡ x ∷ [] → operators_of s ≡ 0 → Fits 7 s → (is_minus k ≡ true → IsNoDigits s) → (deep k ≤ d.depth → Within d (deep k) (is_minus k) s) → StepOk d us x (on_leaf d c k (tree_of s))
leaf_ok d c k us x s h e o f z w = within_ok d us x (deep k) (so_far c k) _ (λ l m. (subst (λ (ts : List Token). Holds d (so_far c k) 7 (tree_of s) k (us ++ ts)) e (leaf_holds d (so_far c k) c s k us h (omega arith) f (w l) z), m))

not_ok : (d : Limits) (c : ℕ) (k : List Frame) (us : List Token) → Held d c k us → StepOk d us (token.Word word.Not) (on_not d c k)
not_ok d c k us h = pick_le (λ s. StepOk d us (token.Word word.Not) s) (wants k) 3 _ _ (λ w. within_ok d us (token.Word word.Not) (deep k + 1) (c + 1) _ (λ l m. ((us, c, h, refl, refl, w), l, m))) (λ w. tt)

word_ok : (d : Limits) (c : ℕ) (k : List Frame) (us : List Token) (w : Word) → Held d c k us → StepOk d us (token.Word w) (on_word d c k w)
word_ok d c k us w h = pick (λ s. StepOk d us (token.Word w) s) (is_not w) _ _ (λ e. subst (λ (x : Word). StepOk d us (token.Word x) (on_not d c k)) (sym (not_is w e)) (not_ok d c k us h)) (λ e. tt)

prefix_ok : (d : Limits) (c : ℕ) (k : List Frame) (us : List Token) (p : Prefix) → Held d c k us → StepOk d us (token.Symbol (sign_of p)) (on_prefix d c k (Some p))
prefix_ok d c k us prefix.Minus h = within_ok d us (token.Symbol symbol.Minus) (deep k) (so_far c k) _ (λ l m. ((us, c, h, refl, refl), l, m))
prefix_ok d c k us prefix.Open h = within_ok d us (token.Symbol symbol.Open) (deep (Paren ∷ k)) (so_far c k) _ (λ l m. ((us, c, h, refl, refl), l, m))

symbol_ok : (d : Limits) (c : ℕ) (k : List Frame) (us : List Token) (s : Symbol) (o : Option Prefix) → prefix_of s ≡ o → Held d c k us → StepOk d us (token.Symbol s) (on_prefix d c k o)
symbol_ok d c k us s None e h = tt
symbol_ok d c k us s (Some p) e h = subst (λ (x : Symbol). StepOk d us (token.Symbol x) (on_prefix d c k (Some p))) (sym (prefix_is s p e)) (prefix_ok d c k us p h)

operand_ok : (d : Limits) (c : ℕ) (k : List Frame) (us : List Token) (x : Token) → Held d c k us → Room d k → c ≤ d.operators → StepOk d us x (operand d c k x)
operand_ok d c k us (token.Number n) h r l = number_ok d c n k us h r l
operand_ok d c k us (token.Name n) h r l = pick_le (λ s. StepOk d us (token.Name n) s) (length n) d.name _ _ (λ m. leaf_ok d c k us (token.Name n) (column n) h refl refl (omega arith) (λ e. tt) (λ l. (m, l))) (λ m. tt)
operand_ok d c k us (token.Text n) h r l = pick_le (λ s. StepOk d us (token.Text n) s) (length n) d.text _ _ (λ m. leaf_ok d c k us (token.Text n) (text n) h refl refl (omega arith) (λ e. tt) (λ l. (m, l))) (λ m. tt)
operand_ok d c k us (token.Word w) h r l = word_ok d c k us w h
operand_ok d c k us (token.Symbol s) h r l = symbol_ok d c k us s (prefix_of s) refl h
operand_ok d c k us token.Bad h r l = tt

op_ok : (d : Limits) (c : ℕ) (t : Syn) (k : List Frame) (us : List Token) (o : Op) → Holds d c (left_level o) t k us → StepOk d us (written o) (on_op d c o (t, k))
op_ok d c t k us o h = pick_le (λ s. StepOk d us (written o) s) (wants k) (level o) _ _
    (λ w. pick_le (λ s. StepOk d us (written o) s) (c + 1) d.operators _ _
    (λ m. let e : is_minus k ≡ false = wants_minus k (grind (arith, level_to o)) in
    let i : Within d (deep k) false h.shape = rw e at h.inside in
    let p : so_far h.so_many k ≡ h.so_many = plain h.so_many k e in
    let n = h.count in
    ((h.before, h.so_many, h.shape, h.held, omega arith, w, h.fits, i, h.tree, ap (λ (vs : List Token). vs ++ written o ∷ []) h.all ∙ append_assoc h.before (tokens_of h.shape) (written o ∷ [])), within_least d (deep k) (is_minus k) h.shape h.inside, m))
    (λ m. tt))
    (λ w. tt)

whole : (d : Limits) (c : ℕ) (t : Syn) (us : List Token) → Holds d c 1 t [] us → c ≤ d.operators → expr d t us
whole d c t us h l =
    let n = h.count in
    let z : h.so_many ≡ 0 = h.held.1 in
    (h.shape, h.here, h.inside, omega arith, h.all ∙ ap (λ (vs : List Token). vs ++ tokens_of h.shape) h.held.0, h.tree)

close_ok : (d : Limits) (c : ℕ) (t : Syn) (k : List Frame) (us : List Token) → Holds d c 1 t k us → c ≤ d.operators → StepOk d us (token.Symbol symbol.Close) (on_close c t k)
close_ok d c t [] us h l = whole d c t us h l
close_ok d c t (Paren ∷ k) us h l =
    let (vs, a, held, n, all) = h.held in
    let e = h.count in (
      record {
        shape = parens h.shape;
        before = vs;
        so_many = a;
        held = held;
        count = omega arith;
        fits = (omega arith, h.here);
        here = (wants_to k, h.here);
        inside = h.inside;
        clear = λ e. tt;
        tree = h.tree;
        all = ap (λ (vs : List Token). vs ++ token.Symbol symbol.Close ∷ []) (h.all ∙ ap (λ (vs : List Token). vs ++ tokens_of h.shape) all ∙ append_assoc vs (token.Symbol symbol.Open ∷ []) (tokens_of h.shape))
            ∙ append_assoc vs (token.Symbol symbol.Open ∷ tokens_of h.shape) (token.Symbol symbol.Close ∷ []);
      },
      l,
    )
close_ok d c t (f ∷ k) us h l = tt

end_ok : (d : Limits) (c : ℕ) (t : Syn) (k : List Frame) (us : List Token) (x : Token) → Holds d c 1 t k us → c ≤ d.operators → StepOk d us x (on_end t k)
end_ok d c t [] us x h l = whole d c t us h l
end_ok d c t (f ∷ k) us x h l = tt

behind_ok : (d : Limits) (c : ℕ) (t : Syn) (k : List Frame) (us : List Token) (x : Token) → Holds d c 1 t k us → c ≤ d.operators → StepOk d us x (behind_operand c (t, k) (is_close x))
behind_ok d c t k us x h l = pick (λ s. StepOk d us x s) (is_close x) _ _ (λ e. subst (λ (y : Token). StepOk d us y (on_close c t k)) (sym (close_is x e)) (close_ok d c t k us h l)) (λ e. end_ok d c t k us x h l)

operator_ok : (d : Limits) (c : ℕ) (t : Syn) (k : List Frame) (us : List Token) (x : Token) (o : Option Op) → op_of x ≡ o → Holds d c 7 t k us → c ≤ d.operators → StepOk d us x (operator_by d c t k x o)
operator_ok d c t k us x (Some o) e h l = subst (λ (y : Token). StepOk d us y (on_op d c o (reduce (left_level o) t k))) (sym (written_is x o e))
    (op_ok d c (reduce (left_level o) t k).0 (reduce (left_level o) t k).1 us o (reduce_holds d c (left_level o) t k us (grind (arith, level_from o, left_from o)) (less_holds d c (left_level o) t k us (grind (arith, left_to o, level_to o)) h)))
operator_ok d c t k us x None e h l = behind_ok d c (reduce 1 t k).0 (reduce 1 t k).1 us x (reduce_holds d c 1 t k us (omega arith) (less_holds d c 1 t k us (omega arith) h)) l

pub step_ok : (d : Limits) (m : Mode) (us : List Token) (x : Token) → Stands d m us → StepOk d us x (step d m x)
step_ok d (Want c k) us x i = operand_ok d c k us x i.0 i.1 i.2
step_ok d (Have c t k) us x i = operator_ok d c t k us x (op_of x) refl i.0 i.1

finish_ok : (d : Limits) (m : Mode) (us : List Token) (x : Token) → Stands d m us → StepOk d us x (finish m)
finish_ok d (Want c k) us x i = tt
finish_ok d (Have c t k) us x (h, l) = end_ok d c _ _ us x (reduce_holds d c 1 t k us (omega arith) (less_holds d c 1 t k us (omega arith) h)) l

-- what the answer says of the tokens us that are read and ts that were to be read
abbrev pub Said : Limits → List Token → List Token → Reading Syn → Type 0
Said d us ts (Ok r) = (used : List Token) × (ts ≡ used ++ r.1) × expr d r.0 (us ++ used)
Said d us ts (Err r) = Unit {0}

shift : (d : Limits) (us xs : List Token) (x : Token) (r : Reading Syn) → Said d (us ++ x ∷ []) xs r → Said d us (x ∷ xs) r
shift d us xs x (Ok r) (used, e, w) = (x ∷ used, ap (λ (ys : List Token). x ∷ ys) e, subst (λ (ys : List Token). expr d r.0 ys) (append_assoc us (x ∷ []) used) w)
shift d us xs x (Err r) s = tt

after_ok : (d : Limits) (us xs : List Token) (x : Token) (s : Step) → StepOk d us x s → ((n : Mode) → Stands d n (us ++ x ∷ []) → Said d (us ++ x ∷ []) xs (run d xs n)) → Said d us (x ∷ xs) (after_step s (λ n. run d xs n) (x ∷ xs))
after_ok d us xs x (Stop e) o f = tt
after_ok d us xs x (Go n) o f = shift d us xs x (run d xs n) (f n o)
after_ok d us xs x (Done t) o f = ([], refl, subst (λ (ys : List Token). expr d t ys) (sym (append-nil us)) o)

end_said : (d : Limits) (us : List Token) (s : Step) (go : Mode → Reading Syn) → StepOk d us token.Bad s → ((n : Mode) → Said d us [] (go n)) → Said d us [] (after_step s go [])
end_said d us (Stop e) go o f = tt
end_said d us (Go n) go o f = f n
end_said d us (Done t) go o f = ([], refl, subst (λ (ys : List Token). expr d t ys) (sym (append-nil us)) o)

pub said : (d : Limits) (ts : List Token) (m : Mode) (us : List Token) → Stands d m us → Said d us ts (run d ts m)
said d [] m us i = end_said d us (finish m) (λ _. Err (Syntax, [])) (finish_ok d m us token.Bad i) (λ n. tt)
said d (x ∷ xs) m us i = after_ok d us xs x (step d m x) (step_ok d m us x i) (λ n j. said d xs n (us ++ x ∷ []) j)

pub stands_first : (d : Limits) → Stands d (Want 0 []) []
stands_first d = ((refl, refl), tt, omega arith)

-- each expression that is read is written so
pub sound : (d : Limits) (ts : List Token) → Said d [] ts (expr_at d ts)
sound d ts = said d ts (Want 0 []) [] (stands_first d)
