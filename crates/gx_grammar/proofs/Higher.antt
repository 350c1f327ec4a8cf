-- Higher limits change nothing but what passes one of those that are raised.
use Rattle.std.proofs.Common.{◌≡◌, ℕ, ◌+◌, ◌≤◌, false, List, [], ◌∷◌, ◌++◌, length, Option, Some, None, max, refl, sym, ◌∙◌, ap, subst, arith, append_assoc, append-nil, Ok, Err}
use Rattle.gx_lex.specs.declared.word.Word.{Word}
use Rattle.gx_lex.specs.declared.symbol.Symbol.{Symbol}
use Rattle.gx_lex.specs.declared.token.Token.{Token}
use Rattle.gx_lex.specs.declared.token.Token.TheVariants as token
use Rattle.gx_grammar.specs.declared.fault.Limits.{Limits}
use Rattle.gx_grammar.specs.declared.fault.LineLimit.{LineLimit}
use Rattle.gx_grammar.specs.declared.fault.LineLimit.TheVariants as limit
use Rattle.gx_grammar.specs.declared.fault.Fault.{Fault}
use Rattle.gx_grammar.specs.declared.fault.Fault.TheVariants.{Syntax, TooMany}
use Rattle.gx_grammar.specs.declared.syn.Op.{Op}
use Rattle.gx_grammar.specs.declared.syn.Syn.{Syn}
use Rattle.gx_grammar.specs.declared.syn.Syn.TheVariants.{Text, Column}
use Rattle.gx_grammar.specs.declared.expr.Frame.{Frame}
use Rattle.gx_grammar.specs.declared.expr.Frame.TheVariants.{Paren, Minus, Negation, Left}
use Rattle.gx_grammar.specs.declared.expr.Prefix.{Prefix}
use Rattle.gx_grammar.specs.declared.expr.Prefix.TheVariants as prefix
use Rattle.gx_grammar.specs.Limiting.{Below, Keeps, KeepsBefore}
use Rattle.gx_grammar.specs.Grammar.{level, left_level, expr}
use Rattle.gx_grammar.specs.Rules.{Reading, CanGo}
use Rattle.gx_grammar.specs.Machine.{is_not, op_of, is_close, wants, deep, so_far, run, reduce, after_step, step, finish, Mode, Want, Have, Go, Stop, Done, Step, within, on_name, on_text, on_not, on_word, prefix_of, on_prefix, on_op, on_close, on_end, ending, behind_operand, operand, operator_by}
use Rattle.gx_grammar.proofs.Tools.{by_le, by_not_le, by_true, by_false, pick, pick_le, within_more}
use Rattle.gx_grammar.proofs.Sound.{Stands, Held, Room, step_ok, StepOk}
use Rattle.gx_grammar.proofs.Viable.{begins}

held_more : (d e : Limits) (c : ℕ) (k : List Frame) (us : List Token) → Below d e → Held d c k us → Held e c k us
held_more d e c [] us l h = h
held_more d e c (Paren ∷ k) us l (vs, a, h, n, all) = (vs, a, held_more d e a k vs l h, n, all)
held_more d e c (Minus ∷ k) us l (vs, a, h, n, all) = (vs, a, held_more d e a k vs l h, n, all)
held_more d e c (Negation ∷ k) us l (vs, a, h, n, all, w) = (vs, a, held_more d e a k vs l h, n, all, w)
held_more d e c (Left o t ∷ k) us l (vs, a, s, h, n, under, fits, inside, tree, all) = (vs, a, s, held_more d e a k vs l h, n, under, fits, within_more d e (deep k) false s l inside, tree, all)

room_more : (d e : Limits) (k : List Frame) → Below d e → Room d k → Room e k
room_more d e [] l r = tt
room_more d e (Paren ∷ k) l r = omega arith
room_more d e (Minus ∷ k) l r = omega arith
room_more d e (Negation ∷ k) l r = omega arith
room_more d e (Left o t ∷ k) l r = omega arith

pub stands_more : (d e : Limits) (m : Mode) (us : List Token) → Below d e → Stands d m us → Stands e m us
stands_more d e (Want c k) us l (h, r, n) = (held_more d e c k us l h, room_more d e k l r, omega arith)
stands_more d e (Have c t k) us l (h, n) = (record { shape = h.shape; before = h.before; so_many = h.so_many; held = held_more d e h.so_many k h.before l h.held; count = h.count; fits = h.fits; here = h.here; inside = within_more d e _ _ h.shape l h.inside; clear = h.clear; tree = h.tree; all = h.all }, omega arith)

-- what a step is under higher limits
abbrev pub StepStays : Limits → Limits → Step → Step → Type 0
StepStays d e (Stop Syntax) b = b ≡ Stop Syntax
StepStays d e (Stop (TooMany l)) b = Keeps l d e → b ≡ Stop (TooMany l)
StepStays d e (Go n) b = b ≡ Go n
StepStays d e (Done t) b = b ≡ Done t

self_step : (d e : Limits) (s : Step) → StepStays d e s s
self_step d e (Stop Syntax) = refl
self_step d e (Stop (TooMany l)) = λ k. refl
self_step d e (Go n) = refl
self_step d e (Done t) = refl

-- a step that is equal to another
as_step : (d e : Limits) (s a b : Step) → a ≡ b → StepStays d e s b → StepStays d e s a
as_step d e s a b q w = subst (λ (x : Step). StepStays d e s x) (sym q) w

within_stays : (d e : Limits) (n c : ℕ) (m : Mode) → Below d e → StepStays d e (within d n c m) (within e n c m)
within_stays d e n c m l = pick_le (λ s. StepStays d e s (within e n c m)) n d.depth _ _
    (λ a. pick_le (λ s. StepStays d e s (within e n c m)) c d.operators _ _
    (λ b. by_le n e.depth _ _ (omega arith) ∙ by_le c e.operators _ _ (omega arith))
    (λ b k. let o : e.operators ≡ d.operators = k.1 in by_le n e.depth _ _ (omega arith) ∙ by_not_le c e.operators _ _ (omega arith)))
    (λ a k. let o : e.depth ≡ d.depth = k.0 in by_not_le n e.depth _ _ (omega arith))

name_stays : (d e : Limits) (c : ℕ) (k : List Frame) (name : List ℕ) → Below d e → StepStays d e (on_name d c k name) (on_name e c k name)
name_stays d e c k name l = pick_le (λ s. StepStays d e s (on_name e c k name)) (length name) d.name _ _
    (λ a. as_step d e _ _ _ (by_le (length name) e.name _ _ (omega arith)) (within_stays d e (deep k) (so_far c k) (Have (so_far c k) (Column name) k) l))
    (λ a k. by_not_le (length name) e.name _ _ (omega arith))

text_stays : (d e : Limits) (c : ℕ) (k : List Frame) (value : List ℕ) → Below d e → StepStays d e (on_text d c k value) (on_text e c k value)
text_stays d e c k value l = pick_le (λ s. StepStays d e s (on_text e c k value)) (length value) d.text _ _
    (λ a. as_step d e _ _ _ (by_le (length value) e.text _ _ (omega arith)) (within_stays d e (deep k) (so_far c k) (Have (so_far c k) (Text value) k) l))
    (λ a k. by_not_le (length value) e.text _ _ (omega arith))

not_stays : (d e : Limits) (c : ℕ) (k : List Frame) → Below d e → StepStays d e (on_not d c k) (on_not e c k)
not_stays d e c k l = pick_le (λ s. StepStays d e s (on_not e c k)) (wants k) 3 _ _
    (λ w. as_step d e _ _ _ (by_le (wants k) 3 _ _ w) (within_stays d e (deep k + 1) (c + 1) (Want (c + 1) (Negation ∷ k)) l))
    (λ w. by_not_le (wants k) 3 _ _ w)

word_stays : (d e : Limits) (c : ℕ) (k : List Frame) (w : Word) → Below d e → StepStays d e (on_word d c k w) (on_word e c k w)
word_stays d e c k w l = pick (λ s. StepStays d e s (on_word e c k w)) (is_not w) _ _
    (λ q. as_step d e _ _ _ (by_true (is_not w) _ _ q) (not_stays d e c k l))
    (λ q. by_false (is_not w) _ _ q)

prefix_stays : (d e : Limits) (c : ℕ) (k : List Frame) (o : Option Prefix) → Below d e → StepStays d e (on_prefix d c k o) (on_prefix e c k o)
prefix_stays d e c k None l = refl
prefix_stays d e c k (Some prefix.Minus) l = within_stays d e (deep k) (so_far c k) (Want (so_far c k) (Minus ∷ k)) l
prefix_stays d e c k (Some prefix.Open) l = within_stays d e (deep (Paren ∷ k)) (so_far c k) (Want (so_far c k) (Paren ∷ k)) l

operand_stays : (d e : Limits) (c : ℕ) (k : List Frame) (x : Token) → Below d e → StepStays d e (operand d c k x) (operand e c k x)
operand_stays d e c k (token.Number n) l = refl
operand_stays d e c k (token.Name n) l = name_stays d e c k n l
operand_stays d e c k (token.Text n) l = text_stays d e c k n l
operand_stays d e c k (token.Word w) l = word_stays d e c k w l
operand_stays d e c k (token.Symbol s) l = prefix_stays d e c k (prefix_of s) l
operand_stays d e c k token.Bad l = refl

op_stays : (d e : Limits) (c : ℕ) (o : Op) (r : Syn × List Frame) → Below d e → StepStays d e (on_op d c o r) (on_op e c o r)
op_stays d e c o r l = pick_le (λ s. StepStays d e s (on_op e c o r)) (wants r.1) (level o) _ _
    (λ w. pick_le (λ s. StepStays d e s (on_op e c o r)) (c + 1) d.operators _ _
    (λ b. by_le (wants r.1) (level o) _ _ w ∙ by_le (c + 1) e.operators _ _ (omega arith))
    (λ b k. let q : e.operators ≡ d.operators = k.1 in by_le (wants r.1) (level o) _ _ w ∙ by_not_le (c + 1) e.operators _ _ (omega arith)))
    (λ w. by_not_le (wants r.1) (level o) _ _ w)

operator_stays : (d e : Limits) (c : ℕ) (t : Syn) (k : List Frame) (x : Token) (o : Option Op) → Below d e → StepStays d e (operator_by d c t k x o) (operator_by e c t k x o)
operator_stays d e c t k x (Some o) l = op_stays d e c o (reduce (left_level o) t k) l
operator_stays d e c t k x None l = self_step d e (behind_operand c (reduce 1 t k) (is_close x))

step_stays : (d e : Limits) (m : Mode) (x : Token) → Below d e → StepStays d e (step d m x) (step e m x)
step_stays d e (Want c k) x l = operand_stays d e c k x l
step_stays d e (Have c t k) x l = operator_stays d e c t k x (op_of x) l

-- what is read, and Syntax, stay; so does what passes a limit that stays
abbrev pub Stays : Limits → Limits → Reading Syn → Reading Syn → Type 0
Stays d e (Ok r) b = b ≡ Ok r
Stays d e (Err (Syntax, rest)) b = b ≡ Err (Syntax, rest)
Stays d e (Err (TooMany l, rest)) b = Keeps l d e → b ≡ Err (TooMany l, rest)

after_stays : (d e : Limits) (x : Token) (xs : List Token) (s u : Step) → StepStays d e s u → ((n : Mode) → Stays d e (run d xs n) (run e xs n)) → Stays d e (after_step s (λ n. run d xs n) (x ∷ xs)) (after_step u (λ n. run e xs n) (x ∷ xs))
after_stays d e x xs (Stop Syntax) u q f = ap (λ (s : Step). after_step s (λ n. run e xs n) (x ∷ xs)) q
after_stays d e x xs (Stop (TooMany l)) u q f = λ k. ap (λ (s : Step). after_step s (λ n. run e xs n) (x ∷ xs)) (q k)
after_stays d e x xs (Go n) u q f = subst (λ (a : Step). Stays d e (run d xs n) (after_step a (λ n. run e xs n) (x ∷ xs))) (sym q) (f n)
after_stays d e x xs (Done t) u q f = ap (λ (s : Step). after_step s (λ n. run e xs n) (x ∷ xs)) q

end_stays : (d e : Limits) (s : Step) → Stays d e (after_step s (λ _. Err (Syntax, [])) []) (after_step s (λ _. Err (Syntax, [])) [])
end_stays d e (Stop Syntax) = refl
end_stays d e (Stop (TooMany l)) = λ k. refl
end_stays d e (Go n) = refl
end_stays d e (Done t) = refl

pub run_stays : (d e : Limits) (ts : List Token) (m : Mode) → Below d e → Stays d e (run d ts m) (run e ts m)
run_stays d e [] m l = end_stays d e (finish m)
run_stays d e (x ∷ xs) m l = after_stays d e x xs (step d m x) (step e m x) (step_stays d e m x l) (λ n. run_stays d e xs n l)

-- limits above these that are high enough at a place, those before one of them the same
abbrev deep_enough : Limits → ℕ → ℕ → Limits
deep_enough d n c = record d { depth = max d.depth n; operators = max d.operators c }

abbrev text_enough : Limits → ℕ → ℕ → ℕ → Limits
text_enough d t n c = record d { text = max d.text t; depth = max d.depth n; operators = max d.operators c }

abbrev name_enough : Limits → ℕ → ℕ → ℕ → Limits
name_enough d t n c = record d { name = max d.name t; depth = max d.depth n; operators = max d.operators c }

-- what passes a limit goes on under higher ones
abbrev pub GoesOn : Limits → Mode → Token → Step → Type 0
GoesOn d m x (Stop (TooMany l)) = (e : Limits) × (n : Mode) × Below d e × KeepsBefore l d e × (step e m x ≡ Go n)
GoesOn d m x (Stop Syntax) = Unit {0}
GoesOn d m x (Go n) = Unit {0}
GoesOn d m x (Done t) = Unit {0}

deep_below : (d : Limits) (n c : ℕ) → Below d (deep_enough d n c)
deep_below d n c = record { segments = omega arith; name = omega arith; text = omega arith; depth = omega arith; operators = omega arith }

text_below : (d : Limits) (t n c : ℕ) → Below d (text_enough d t n c)
text_below d t n c = record { segments = omega arith; name = omega arith; text = omega arith; depth = omega arith; operators = omega arith }

name_below : (d : Limits) (t n c : ℕ) → Below d (name_enough d t n c)
name_below d t n c = record { segments = omega arith; name = omega arith; text = omega arith; depth = omega arith; operators = omega arith }

inside : (d : Limits) (n c : ℕ) (m : Mode) → n ≤ d.depth → c ≤ d.operators → within d n c m ≡ Go m
inside d n c m l k = by_le n d.depth _ _ l ∙ by_le c d.operators _ _ k

deeper : (d : Limits) (n c : ℕ) (m k : Mode) (x : Token) → ((e : Limits) → Below d e → KeepsBefore limit.Depth d e → step e m x ≡ within e n c k) → GoesOn d m x (Stop (TooMany limit.Depth))
deeper d n c m k x q = (deep_enough d n c, k, deep_below d n c, (refl, refl, refl), q (deep_enough d n c) (deep_below d n c) (refl, refl, refl) ∙ inside (deep_enough d n c) n c k (omega arith) (omega arith))

within_goes : (d : Limits) (n c : ℕ) (m k : Mode) (x : Token) → ((e : Limits) → Below d e → KeepsBefore limit.Depth d e → step e m x ≡ within e n c k) → GoesOn d m x (within d n c k)
within_goes d n c m k x q = pick_le (λ s. GoesOn d m x s) n d.depth _ _ (λ a. pick_le (λ s. GoesOn d m x s) c d.operators _ _ (λ b. tt) (λ b. deeper d n c m k x q)) (λ a. deeper d n c m k x q)

name_goes : (d : Limits) (c : ℕ) (k : List Frame) (name : List ℕ) → GoesOn d (Want c k) (token.Name name) (on_name d c k name)
name_goes d c k name = pick_le (λ s. GoesOn d (Want c k) (token.Name name) s) (length name) d.name _ _
    (λ a. within_goes d (deep k) (so_far c k) (Want c k) (Have (so_far c k) (Column name) k) (token.Name name) (λ e l b. by_le (length name) e.name _ _ (omega arith)))
    (λ a. (name_enough d (length name) (deep k) (so_far c k), Have (so_far c k) (Column name) k, name_below d (length name) (deep k) (so_far c k), refl, by_le (length name) (max d.name (length name)) _ _ (omega arith) ∙ inside (name_enough d (length name) (deep k) (so_far c k)) (deep k) (so_far c k) (Have (so_far c k) (Column name) k) (omega arith) (omega arith)))

text_goes : (d : Limits) (c : ℕ) (k : List Frame) (value : List ℕ) → GoesOn d (Want c k) (token.Text value) (on_text d c k value)
text_goes d c k value = pick_le (λ s. GoesOn d (Want c k) (token.Text value) s) (length value) d.text _ _
    (λ a. within_goes d (deep k) (so_far c k) (Want c k) (Have (so_far c k) (Text value) k) (token.Text value) (λ e l b. by_le (length value) e.text _ _ (omega arith)))
    (λ a. (text_enough d (length value) (deep k) (so_far c k), Have (so_far c k) (Text value) k, text_below d (length value) (deep k) (so_far c k), (refl, refl), by_le (length value) (max d.text (length value)) _ _ (omega arith) ∙ inside (text_enough d (length value) (deep k) (so_far c k)) (deep k) (so_far c k) (Have (so_far c k) (Text value) k) (omega arith) (omega arith)))

not_goes : (d : Limits) (c : ℕ) (k : List Frame) (x : Token) → ((e : Limits) → step e (Want c k) x ≡ on_not e c k) → GoesOn d (Want c k) x (on_not d c k)
not_goes d c k x q = pick_le (λ s. GoesOn d (Want c k) x s) (wants k) 3 _ _
    (λ w. within_goes d (deep k + 1) (c + 1) (Want c k) (Want (c + 1) (Negation ∷ k)) x (λ e l b. q e ∙ by_le (wants k) 3 _ _ w))
    (λ w. tt)

word_goes : (d : Limits) (c : ℕ) (k : List Frame) (w : Word) → GoesOn d (Want c k) (token.Word w) (on_word d c k w)
word_goes d c k w = pick (λ s. GoesOn d (Want c k) (token.Word w) s) (is_not w) _ _ (λ q. not_goes d c k (token.Word w) (λ e. by_true (is_not w) _ _ q)) (λ q. tt)

prefix_goes : (d : Limits) (c : ℕ) (k : List Frame) (s : Symbol) (o : Option Prefix) → prefix_of s ≡ o → GoesOn d (Want c k) (token.Symbol s) (on_prefix d c k o)
prefix_goes d c k s None q = tt
prefix_goes d c k s (Some prefix.Minus) q = within_goes d (deep k) (so_far c k) (Want c k) (Want (so_far c k) (Minus ∷ k)) (token.Symbol s) (λ e l b. ap (on_prefix e c k) q)
prefix_goes d c k s (Some prefix.Open) q = within_goes d (deep (Paren ∷ k)) (so_far c k) (Want c k) (Want (so_far c k) (Paren ∷ k)) (token.Symbol s) (λ e l b. ap (on_prefix e c k) q)

operand_goes : (d : Limits) (c : ℕ) (k : List Frame) (x : Token) → GoesOn d (Want c k) x (operand d c k x)
operand_goes d c k (token.Number n) = tt
operand_goes d c k (token.Name n) = name_goes d c k n
operand_goes d c k (token.Text n) = text_goes d c k n
operand_goes d c k (token.Word w) = word_goes d c k w
operand_goes d c k (token.Symbol s) = prefix_goes d c k s (prefix_of s) refl
operand_goes d c k token.Bad = tt

op_goes : (d : Limits) (c : ℕ) (o : Op) (r : Syn × List Frame) (m : Mode) (x : Token) → ((e : Limits) → step e m x ≡ on_op e c o r) → GoesOn d m x (on_op d c o r)
op_goes d c o r m x q = pick_le (λ s. GoesOn d m x s) (wants r.1) (level o) _ _
    (λ w. pick_le (λ s. GoesOn d m x s) (c + 1) d.operators _ _ (λ b. tt)
    (λ b. (deep_enough d 0 (c + 1), Want (c + 1) (Left o r.0 ∷ r.1), deep_below d 0 (c + 1), (refl, refl, refl), q (deep_enough d 0 (c + 1)) ∙ by_le (wants r.1) (level o) _ _ w ∙ by_le (c + 1) (max d.operators (c + 1)) _ _ (omega arith))))
    (λ w. tt)

close_goes : (d : Limits) (m : Mode) (x : Token) (c : ℕ) (t : Syn) (k : List Frame) → GoesOn d m x (on_close c t k)
close_goes d m x c t [] = tt
close_goes d m x c t (Paren ∷ k) = tt
close_goes d m x c t (f ∷ k) = tt

end_goes : (d : Limits) (m : Mode) (x : Token) (t : Syn) (k : List Frame) → GoesOn d m x (on_end t k)
end_goes d m x t [] = tt
end_goes d m x t (f ∷ k) = tt

operator_goes : (d : Limits) (c : ℕ) (t : Syn) (k : List Frame) (x : Token) (o : Option Op) → op_of x ≡ o → GoesOn d (Have c t k) x (operator_by d c t k x o)
operator_goes d c t k x (Some o) q = op_goes d c o (reduce (left_level o) t k) (Have c t k) x (λ e. ap (operator_by e c t k x) q)
operator_goes d c t k x None q = pick (λ s. GoesOn d (Have c t k) x s) (is_close x) _ _ (λ z. close_goes d (Have c t k) x c (reduce 1 t k).0 (reduce 1 t k).1) (λ z. end_goes d (Have c t k) x (reduce 1 t k).0 (reduce 1 t k).1)

step_goes : (d : Limits) (m : Mode) (x : Token) → GoesOn d m x (step d m x)
step_goes d (Want c k) x = operand_goes d c k x
step_goes d (Have c t k) x = operator_goes d c t k x (op_of x) refl

-- the token that passes a limit goes on where that and those behind it are raised
abbrev pub Raised : Limits → Fault → List Token → List Token → Type 0
Raised d Syntax us rest = Unit {0}
Raised d (TooMany l) us [] = ⊥
Raised d (TooMany l) us (x ∷ xs) = (e : Limits) × Below d e × KeepsBefore l d e × CanGo (expr e) (us ++ x ∷ [])

abbrev pub Viable : Limits → List Token → List Token → Reading Syn → Type 0
Viable d us ts (Ok r) = Unit {0}
Viable d us ts (Err r) = (used : List Token) × (ts ≡ used ++ r.1) × CanGo (expr d) (us ++ used) × Raised d r.0 (us ++ used) r.1

begins_here : (d : Limits) (m : Mode) (us : List Token) → Stands d m us → CanGo (expr d) (us ++ [])
begins_here d m us i = subst (λ (ys : List Token). CanGo (expr d) ys) (sym (append-nil us)) (begins d m us i)

raised_here : (d : Limits) (m : Mode) (us xs : List Token) (x : Token) (l : LineLimit) → Stands d m us → step d m x ≡ Stop (TooMany l) → Raised d (TooMany l) us (x ∷ xs)
raised_here d m us xs x l i q =
    let (e, n, b, k, g) = subst (λ (s : Step). GoesOn d m x s) q (step_goes d m x) in
    let j = subst (λ (s : Step). StepOk e us x s) g (step_ok e m us x (stands_more d e m us b i)) in
    (e, b, k, begins e n (us ++ x ∷ []) j)

shift : (d : Limits) (us xs : List Token) (x : Token) (r : Reading Syn) → Viable d (us ++ x ∷ []) xs r → Viable d us (x ∷ xs) r
shift d us xs x (Ok r) w = tt
shift d us xs x (Err r) (used, e, w, z) = (x ∷ used, ap (λ (ys : List Token). x ∷ ys) e, subst (λ (ys : List Token). CanGo (expr d) ys) (append_assoc us (x ∷ []) used) w, subst (λ (ys : List Token). Raised d r.0 ys r.1) (append_assoc us (x ∷ []) used) z)

after_viable : (d : Limits) (us xs : List Token) (m : Mode) (x : Token) (s : Step) → step d m x ≡ s → Stands d m us → StepOk d us x s → ((n : Mode) → Stands d n (us ++ x ∷ []) → Viable d (us ++ x ∷ []) xs (run d xs n)) → Viable d us (x ∷ xs) (after_step s (λ n. run d xs n) (x ∷ xs))
after_viable d us xs m x (Stop Syntax) q i o f = ([], refl, begins_here d m us i, tt)
after_viable d us xs m x (Stop (TooMany l)) q i o f = ([], refl, begins_here d m us i, subst (λ (ys : List Token). Raised d (TooMany l) ys (x ∷ xs)) (sym (append-nil us)) (raised_here d m us xs x l i q))
after_viable d us xs m x (Go n) q i o f = shift d us xs x (run d xs n) (f n o)
after_viable d us xs m x (Done t) q i o f = tt

end_viable : (d : Limits) (us : List Token) (m : Mode) (r : Syn × List Frame) → Stands d m us → Viable d us [] (after_step (ending r) (λ _. Err (Syntax, [])) [])
end_viable d us m (t, []) i = tt
end_viable d us m (t, f ∷ k) i = ([], refl, begins_here d m us i, tt)

pub run_viable : (d : Limits) (ts : List Token) (m : Mode) (us : List Token) → Stands d m us → Viable d us ts (run d ts m)
run_viable d [] (Want c k) us i = ([], refl, begins_here d (Want c k) us i, tt)
run_viable d [] (Have c t k) us i = end_viable d us (Have c t k) (reduce 1 t k) i
run_viable d (x ∷ xs) m us i = after_viable d us xs m x (step d m x) refl i (step_ok d m us x i) (λ n j. run_viable d xs n (us ++ x ∷ []) j)
