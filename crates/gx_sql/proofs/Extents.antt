-- What a written expression is keeps the limits within which it was written: it needs no more parentheses than stand there.
use Rattle.std.proofs.Common.{◌≡◌, ◌∙◌, ℕ, ◌+◌, ◌≤◌, nat_le, max, Bool, true, false, if◌then◌else◌, List, Option, Some, None, pos, ◌-ℤ◌, refl, sym, ap, subst, arith}
use Rattle.gx_lex.specs.declared.token.Token.{Token}
use Rattle.gx_tree.specs.declared.schema.Column.{Column}
use Rattle.gx_tree.specs.declared.schema.Kind.{Kind}
use Rattle.gx_tree.specs.declared.schema.Kind.TheVariants as kind
use Rattle.gx_tree.specs.declared.value.Value.TheVariants as value
use Rattle.gx_tree.specs.declared.expr.ArithOp.{ArithOp}
use Rattle.gx_tree.specs.declared.expr.ArithOp.TheVariants as ariths
use Rattle.gx_tree.specs.declared.expr.Expr.{Expr}
use Rattle.gx_tree.specs.declared.expr.Expr.TheVariants as expr
use Rattle.gx_tree.specs.declared.expr.Expr.TheOpen.{Expr-F}
use Rattle.gx_tree.specs.declared.expr.Expr.TheFolds.{fold-roll-Expr}
use Rattle.gx_tree.specs.declared.cond.CmpOp.{CmpOp}
use Rattle.gx_tree.specs.declared.cond.Cond.{Cond as OneCond}
use Rattle.gx_tree.specs.declared.cond.Cond.TheVariants as cond
use Rattle.gx_tree.specs.declared.cond.Cond.TheOpen.{Cond-F}
use Rattle.gx_tree.specs.declared.cond.Cond.TheFolds.{fold-roll-Cond}
use Rattle.gx_grammar.specs.declared.syn.Op.{Op}
use Rattle.gx_grammar.specs.declared.syn.Op.TheVariants as op
use Rattle.gx_grammar.specs.declared.syn.Syn.{Syn}
use Rattle.gx_grammar.specs.declared.syn.Syn.TheVariants as syn
use Rattle.gx_grammar.specs.declared.syn.Syn.TheVariants.{rolls-Number, rolls-Text, rolls-Column, rolls-Neg, rolls-Not, rolls-Bin}
use Rattle.gx_grammar.specs.declared.syn.Syn.TheOpen.{Syn-F}
use Rattle.gx_grammar.specs.declared.syn.Syn.TheFolds.{fold-roll-Syn}
use Rattle.gx_grammar.specs.Grammar.{Shape, digits, minus_digits, text, column, parens, minus, negated, both, level, left_level, tree_of, Fits, Within, operators_of, expr as read}
use Rattle.gx_resolve.specs.declared.typed.Typed.{Typed}
use Rattle.gx_resolve.specs.declared.typed.Typed.TheVariants.{Value, Cond, Unknown, Mismatch}
use Rattle.gx_resolve.specs.Columns.{column_of}
use Rattle.gx_resolve.specs.Typing as of
use Rattle.gx_store.specs.Limits.{Extent, depth_at, leaf, negative, negated as not_extent, joined, arith_extent, value_length, expr_step, expr_extent, cond_step, cond_extent, IsBounded}
use Rattle.gx_sql.specs.Script.{the_limits}

-- NODES
expr_extent-lit : (v : _) → expr_extent (expr.Lit v) ≡ leaf (value_length v)
expr_extent-lit v = ap expr_extent (sym (expr.rolls-Lit v)) ∙ fold-roll-Expr Extent expr_step (Expr-F.Lit v)

expr_extent-col : (c : ℕ) → expr_extent (expr.Col c) ≡ leaf 0
expr_extent-col c = ap expr_extent (sym (expr.rolls-Col c)) ∙ fold-roll-Expr Extent expr_step (Expr-F.Col c)

expr_extent-neg : (e : Expr) → expr_extent (expr.Neg e) ≡ negative (expr_extent e)
expr_extent-neg e = ap expr_extent (sym (expr.rolls-Neg e)) ∙ fold-roll-Expr Extent expr_step (Expr-F.Neg e)

expr_extent-bin : (o : ArithOp) (a b : Expr) → expr_extent (expr.Bin o a b) ≡ arith_extent o (expr_extent a) (expr_extent b)
expr_extent-bin o a b = ap expr_extent (sym (expr.rolls-Bin o a b)) ∙ fold-roll-Expr Extent expr_step (Expr-F.Bin o a b)

cond_extent-cmp : (o : CmpOp) (a b : Expr) → cond_extent (cond.Cmp o a b) ≡ joined 4 5 5 (expr_extent a) (expr_extent b)
cond_extent-cmp o a b = ap cond_extent (sym (cond.rolls-Cmp o a b)) ∙ fold-roll-Cond Extent cond_step (Cond-F.Cmp o a b)

cond_extent-and : (a b : OneCond) → cond_extent (cond.And a b) ≡ joined 2 2 3 (cond_extent a) (cond_extent b)
cond_extent-and a b = ap cond_extent (sym (cond.rolls-And a b)) ∙ fold-roll-Cond Extent cond_step (Cond-F.And a b)

cond_extent-or : (a b : OneCond) → cond_extent (cond.Or a b) ≡ joined 1 1 2 (cond_extent a) (cond_extent b)
cond_extent-or a b = ap cond_extent (sym (cond.rolls-Or a b)) ∙ fold-roll-Cond Extent cond_step (Cond-F.Or a b)

cond_extent-not : (a : OneCond) → cond_extent (cond.Not a) ≡ not_extent (cond_extent a)
cond_extent-not a = ap cond_extent (sym (cond.rolls-Not a)) ∙ fold-roll-Cond Extent cond_step (Cond-F.Not a)

-- EXTENTS
-- in the place of an operand of a level, n around it, with at most so many operators
record Holds (p n o : ℕ) (x : Extent) : Type 0 where
  pub depth : n + depth_at p x ≤ 100
  pub operators : x.operators ≤ o
  pub text : x.text ≤ 1000

depth_up : (p : ℕ) (x : Extent) → x.depth ≤ depth_at p x
depth_up p x = pick (nat_le p x.level)
  where
    pick : (b : Bool) → x.depth ≤ (if b then x.depth else x.depth + 1)
    pick true = omega arith
    pick false = omega arith

depth_to : (p : ℕ) (x : Extent) → depth_at p x ≤ x.depth + 1
depth_to p x = pick (nat_le p x.level)
  where
    pick : (b : Bool) → (if b then x.depth else x.depth + 1) ≤ x.depth + 1
    pick true = omega arith
    pick false = omega arith

depth_is : (p : ℕ) (x : Extent) → p ≤ x.level → depth_at p x ≡ x.depth
depth_is p x l = grind arith

-- what stands at its own level needs no parentheses
holds_at : (p n o : ℕ) (x : Extent) → p ≤ x.level → n + x.depth ≤ 100 → x.operators ≤ o → x.text ≤ 1000 → Holds p n o x
holds_at p n o x l d q t = let same = depth_is p x l in record { depth = omega (arith, same, d); operators = q; text = t }

-- behind a minus sign nothing does
holds_bare : (p n o : ℕ) (x : Extent) → Holds p n o x → Holds 0 n o x
holds_bare p n o x h =
    let up = depth_up p x in
    let same = depth_is 0 x (omega arith) in
    let depth = h.depth in
    record { depth = omega (arith, up, same, depth); operators = h.operators; text = h.text }

-- in parentheses any level may stand
holds_closed : (p q n o : ℕ) (x : Extent) → Holds q (n + 1) o x → Holds p n o x
holds_closed p q n o x h =
    let up = depth_up q x in
    let to = depth_to p x in
    let depth = h.depth in
    record { depth = omega (arith, up, to, depth); operators = h.operators; text = h.text }

holds_leaf : (p n o t : ℕ) → p ≤ 7 → n ≤ 100 → t ≤ 1000 → Holds p n o (leaf t)
holds_leaf p n o t l d s = holds_at p n o (leaf t) l (omega (arith, d)) (omega arith) s

holds_neg : (p n o : ℕ) (x : Extent) → p ≤ 7 → Holds 0 (n + 1) o x → Holds p n (1 + o) (negative x)
holds_neg p n o x l h =
    let up = depth_up 0 x in
    let depth = h.depth in
    let few = h.operators in
    holds_at p n (1 + o) (negative x) l (omega (arith, up, depth)) (omega (arith, few)) h.text

holds_not : (p n o : ℕ) (x : Extent) → p ≤ 3 → Holds 3 (n + 1) o x → Holds p n (1 + o) (not_extent x)
holds_not p n o x l h =
    let depth = h.depth in
    let few = h.operators in
    holds_at p n (1 + o) (not_extent x) l (omega (arith, depth)) (omega (arith, few)) h.text

max_to : (a b c : ℕ) → a ≤ c → b ≤ c → max a b ≤ c
max_to a b c f g = grind arith

max_with : (n a b c : ℕ) → n + a ≤ c → n + b ≤ c → n + max a b ≤ c
max_with n a b c f g = grind arith

holds_joined : (p n l left right o q : ℕ) (x y : Extent) → p ≤ l → Holds left n o x → Holds right n q y → Holds p n (o + (1 + q)) (joined l left right x y)
holds_joined p n l left right o q x y f h k =
    let few = h.operators in
    let more = k.operators in
    holds_at p n (o + (1 + q)) (joined l left right x y) f (max_with n (depth_at left x) (depth_at right y) 100 h.depth k.depth) (omega (arith, few, more)) (max_to x.text y.text 1000 h.text k.text)

-- TYPED
abbrev Keeps : ℕ → ℕ → ℕ → Typed → Type 0
Keeps p n o (Value k e) = Holds p n o (expr_extent e)
Keeps p n o (Cond c) = Holds p n o (cond_extent c)
Keeps p n o Unknown = Unit {0}
Keeps p n o Mismatch = Unit {0}

kept_bare : (p n o : ℕ) (t : Typed) → Keeps p n o t → Keeps 0 n o t
kept_bare p n o (Value k e) h = holds_bare p n o (expr_extent e) h
kept_bare p n o (Cond c) h = holds_bare p n o (cond_extent c) h
kept_bare p n o Unknown h = tt
kept_bare p n o Mismatch h = tt

kept_closed : (p q n o : ℕ) (t : Typed) → Keeps q (n + 1) o t → Keeps p n o t
kept_closed p q n o (Value k e) h = holds_closed p q n o (expr_extent e) h
kept_closed p q n o (Cond c) h = holds_closed p q n o (cond_extent c) h
kept_closed p q n o Unknown h = tt
kept_closed p q n o Mismatch h = tt

kept_lit : (p n o : ℕ) (k : Kind) (v : _) → p ≤ 7 → n ≤ 100 → value_length v ≤ 1000 → Keeps p n o (Value k (expr.Lit v))
kept_lit p n o k v l d s = subst (Holds p n o) (sym (expr_extent-lit v)) (holds_leaf p n o (value_length v) l d s)

kept_negative : (p n o m : ℕ) → p ≤ 7 → n ≤ 100 → Keeps p n o (of.negative_typed m)
kept_negative p n o m l d = pick (nat_le m 9223372036854775808)
  where
    pick : (b : Bool) → Keeps p n o (if b then Value kind.Int (expr.Lit (value.Int (pos 0 -ℤ pos m))) else Mismatch)
    pick true = kept_lit p n o kind.Int (value.Int (pos 0 -ℤ pos m)) l d (omega arith)
    pick false = tt

kept_positive : (p n o m : ℕ) → p ≤ 7 → n ≤ 100 → Keeps p n o (of.positive_typed m)
kept_positive p n o m l d = pick (nat_le m 9223372036854775807)
  where
    pick : (b : Bool) → Keeps p n o (if b then Value kind.Int (expr.Lit (value.Int (pos m))) else Mismatch)
    pick true = kept_lit p n o kind.Int (value.Int (pos m)) l d (omega arith)
    pick false = tt

kept_number : (p n o : ℕ) (b : Bool) (m : Option ℕ) → p ≤ 7 → n ≤ 100 → Keeps p n o (of.number_typed b m)
kept_number p n o b None l d = tt
kept_number p n o true (Some m) l d = kept_negative p n o m l d
kept_number p n o false (Some m) l d = kept_positive p n o m l d

kept_column : (p n o : ℕ) (c : Option (ℕ × Kind)) → p ≤ 7 → n ≤ 100 → Keeps p n o (of.column_typed c)
kept_column p n o None l d = tt
kept_column p n o (Some c) l d = subst (Holds p n o) (sym (expr_extent-col c.0)) (holds_leaf p n o 0 l d (omega arith))

kept_neg : (p n o : ℕ) (t : Typed) → p ≤ 7 → Keeps 0 (n + 1) o t → Keeps p n (1 + o) (of.neg_typed t)
kept_neg p n o (Value kind.Int e) l h = subst (Holds p n (1 + o)) (sym (expr_extent-neg e)) (holds_neg p n o (expr_extent e) l h)
kept_neg p n o (Value kind.Text e) l h = tt
kept_neg p n o (Cond c) l h = tt
kept_neg p n o Unknown l h = tt
kept_neg p n o Mismatch l h = tt

kept_not : (p n o : ℕ) (t : Typed) → p ≤ 3 → Keeps 3 (n + 1) o t → Keeps p n (1 + o) (of.not_typed t)
kept_not p n o (Cond c) l h = subst (Holds p n (1 + o)) (sym (cond_extent-not c)) (holds_not p n o (cond_extent c) l h)
kept_not p n o (Value k e) l h = tt
kept_not p n o Unknown l h = tt
kept_not p n o Mismatch l h = tt

kept_beside : (p n o : ℕ) (t : Typed) → Keeps p n o (of.beside t)
kept_beside p n o (Value k e) = tt
kept_beside p n o (Cond c) = tt
kept_beside p n o Unknown = tt
kept_beside p n o Mismatch = tt

kept_wrong : (p n o : ℕ) (s t : Typed) → Keeps p n o (of.wrong s t)
kept_wrong p n o (Value k e) t = kept_beside p n o t
kept_wrong p n o (Cond c) t = kept_beside p n o t
kept_wrong p n o Unknown t = tt
kept_wrong p n o Mismatch t = kept_beside p n o t

kept_sum : (p n m q : ℕ) (o : ArithOp) (l left right : ℕ) (s t : Typed) → ((x y : Extent) → arith_extent o x y ≡ joined l left right x y) → p ≤ l
    → Keeps left n m s → Keeps right n q t → Keeps p n (m + (1 + q)) (of.arith_typed o s t)
kept_sum p n m q o l left right (Value kind.Int a) (Value kind.Int b) is f h k =
    subst (Holds p n (m + (1 + q))) (sym (expr_extent-bin o a b ∙ is (expr_extent a) (expr_extent b))) (holds_joined p n l left right m q (expr_extent a) (expr_extent b) f h k)
kept_sum p n m q o l left right s t is f h k = kept_wrong p n (m + (1 + q)) s t

kept_numbers : (p n m q : ℕ) (o : CmpOp) (a : Expr) (t : Typed) → p ≤ 4 → Holds 5 n m (expr_extent a) → Keeps 5 n q t → Keeps p n (m + (1 + q)) (of.number_compared o a t)
kept_numbers p n m q o a (Value kind.Int b) f h k =
    subst (Holds p n (m + (1 + q))) (sym (cond_extent-cmp o a b)) (holds_joined p n 4 5 5 m q (expr_extent a) (expr_extent b) f h k)
kept_numbers p n m q o a t f h k = kept_beside p n (m + (1 + q)) t

kept_texts : (p n m q : ℕ) (o : CmpOp) (a : Expr) (t : Typed) → p ≤ 4 → Holds 5 n m (expr_extent a) → Keeps 5 n q t → Keeps p n (m + (1 + q)) (of.text_compared o a t)
kept_texts p n m q o a (Value kind.Text b) f h k =
    subst (Holds p n (m + (1 + q))) (sym (cond_extent-cmp o a b)) (holds_joined p n 4 5 5 m q (expr_extent a) (expr_extent b) f h k)
kept_texts p n m q o a t f h k = kept_beside p n (m + (1 + q)) t

kept_cmp : (p n m q : ℕ) (o : CmpOp) (s t : Typed) → p ≤ 4 → Keeps 5 n m s → Keeps 5 n q t → Keeps p n (m + (1 + q)) (of.cmp_typed o s t)
kept_cmp p n m q o (Value kind.Int a) t f h k = kept_numbers p n m q o a t f h k
kept_cmp p n m q o (Value kind.Text a) t f h k = kept_texts p n m q o a t f h k
kept_cmp p n m q o s t f h k = kept_wrong p n (m + (1 + q)) s t

kept_and : (p n m q : ℕ) (s t : Typed) → p ≤ 2 → Keeps 2 n m s → Keeps 3 n q t → Keeps p n (m + (1 + q)) (of.and_typed s t)
kept_and p n m q (Cond a) (Cond b) f h k = subst (Holds p n (m + (1 + q))) (sym (cond_extent-and a b)) (holds_joined p n 2 2 3 m q (cond_extent a) (cond_extent b) f h k)
kept_and p n m q s t f h k = kept_wrong p n (m + (1 + q)) s t

kept_or : (p n m q : ℕ) (s t : Typed) → p ≤ 1 → Keeps 1 n m s → Keeps 2 n q t → Keeps p n (m + (1 + q)) (of.or_typed s t)
kept_or p n m q (Cond a) (Cond b) f h k = subst (Holds p n (m + (1 + q))) (sym (cond_extent-or a b)) (holds_joined p n 1 1 2 m q (cond_extent a) (cond_extent b) f h k)
kept_or p n m q s t f h k = kept_wrong p n (m + (1 + q)) s t

kept_bin : (p n m q : ℕ) (o : Op) (s t : Typed) → p ≤ level o → Keeps (left_level o) n m s → Keeps (level o + 1) n q t → Keeps p n (m + (1 + q)) (of.bin_typed o s t)
kept_bin p n m q op.Or s t f h k = kept_or p n m q s t f h k
kept_bin p n m q op.And s t f h k = kept_and p n m q s t f h k
kept_bin p n m q op.Equal s t f h k = kept_cmp p n m q _ s t f h k
kept_bin p n m q op.NotEqual s t f h k = kept_cmp p n m q _ s t f h k
kept_bin p n m q op.Less s t f h k = kept_cmp p n m q _ s t f h k
kept_bin p n m q op.LessEqual s t f h k = kept_cmp p n m q _ s t f h k
kept_bin p n m q op.Greater s t f h k = kept_cmp p n m q _ s t f h k
kept_bin p n m q op.GreaterEqual s t f h k = kept_cmp p n m q _ s t f h k
kept_bin p n m q op.Add s t f h k = kept_sum p n m q ariths.Add 5 5 6 s t (λ x y. refl) f h k
kept_bin p n m q op.Sub s t f h k = kept_sum p n m q ariths.Sub 5 5 6 s t (λ x y. refl) f h k
kept_bin p n m q op.Mul s t f h k = kept_sum p n m q ariths.Mul 6 6 7 s t (λ x y. refl) f h k
kept_bin p n m q op.Div s t f h k = kept_sum p n m q ariths.Div 6 6 7 s t (λ x y. refl) f h k
kept_bin p n m q op.Rem s t f h k = kept_sum p n m q ariths.Rem 6 6 7 s t (λ x y. refl) f h k

-- SHAPES
module _ (columns : List Column) where
  abbrev Meant : Shape → Typed
  Meant s = of.typed_of columns (tree_of s)

  meant-number : (b : Bool) (m : Option ℕ) → of.typed_of columns (syn.Number b m) ≡ of.number_typed b m
  meant-number b m = ap (of.typed_of columns) (sym (rolls-Number b m)) ∙ fold-roll-Syn Typed (of.typed_step columns) (Syn-F.Number b m)

  meant-text : (t : List ℕ) → Meant (text t) ≡ Value kind.Text (expr.Lit (value.Text t))
  meant-text t = ap (of.typed_of columns) (sym (rolls-Text t)) ∙ fold-roll-Syn Typed (of.typed_step columns) (Syn-F.Text t)

  meant-column : (c : List ℕ) → Meant (column c) ≡ of.column_typed (column_of c columns)
  meant-column c = ap (of.typed_of columns) (sym (rolls-Column c)) ∙ fold-roll-Syn Typed (of.typed_step columns) (Syn-F.Column c)

  meant-minus : (s : Shape) → Meant (minus s) ≡ of.neg_typed (Meant s)
  meant-minus s = ap (of.typed_of columns) (sym (rolls-Neg (tree_of s))) ∙ fold-roll-Syn Typed (of.typed_step columns) (Syn-F.Neg (tree_of s))

  meant-not : (s : Shape) → Meant (negated s) ≡ of.not_typed (Meant s)
  meant-not s = ap (of.typed_of columns) (sym (rolls-Not (tree_of s))) ∙ fold-roll-Syn Typed (of.typed_step columns) (Syn-F.Not (tree_of s))

  meant-both : (o : Op) (a b : Shape) → Meant (both o a b) ≡ of.bin_typed o (Meant a) (Meant b)
  meant-both o a b = ap (of.typed_of columns) (sym (rolls-Bin o (tree_of a) (tree_of b))) ∙ fold-roll-Syn Typed (of.typed_step columns) (Syn-F.Bin o (tree_of a) (tree_of b))

  -- in an operand's place, and directly behind a minus sign
  record Is (s : Shape) : Type 0 where
    pub operand : (p n : ℕ) → Fits p s → Within the_limits n false s → Keeps p n (operators_of s) (Meant s)
    pub behind : (n : ℕ) → Fits 7 s → Within the_limits n true s → Keeps 0 n (operators_of s) (Meant s)

  shape_is : (s : Shape) → Is s
  shape_is (digits m) = record {
    operand = λ p n f w. subst (Keeps p n 0) (sym (meant-number false m)) (kept_number p n 0 false m f w);
    behind = λ n f w. subst (Keeps 0 n 0) (sym (meant-number false m)) (kept_number 0 n 0 false m (omega arith) w);
  }
  shape_is (minus_digits m) = record {
    operand = λ p n f w. subst (Keeps p n 0) (sym (meant-number true m)) (kept_number p n 0 true m f w);
    behind = λ n f w. subst (Keeps 0 n 0) (sym (meant-number true m)) (kept_number 0 n 0 true m (omega arith) w);
  }
  shape_is (text t) = record {
    operand = λ p n f w. subst (Keeps p n 0) (sym (meant-text t)) (kept_lit p n 0 kind.Text (value.Text t) f w.1 w.0);
    behind = λ n f w. subst (Keeps 0 n 0) (sym (meant-text t)) (kept_lit 0 n 0 kind.Text (value.Text t) (omega arith) w.1 w.0);
  }
  shape_is (column c) = record {
    operand = λ p n f w. subst (Keeps p n 0) (sym (meant-column c)) (kept_column p n 0 (column_of c columns) f w.1);
    behind = λ n f w. subst (Keeps 0 n 0) (sym (meant-column c)) (kept_column 0 n 0 (column_of c columns) (omega arith) w.1);
  }
  shape_is (parens s) = let i = shape_is s in record {
    operand = λ p n f w. kept_closed p 1 n (operators_of s) (Meant s) (i.operand 1 (n + 1) f.1 w);
    behind = λ n f w. kept_bare 1 n (operators_of s) (Meant s) (i.operand 1 n f.1 w);
  }
  shape_is (minus s) = let i = shape_is s in record {
    operand = λ p n f w. subst (Keeps p n (1 + operators_of s)) (sym (meant-minus s)) (kept_neg p n (operators_of s) (Meant s) f.0 (i.behind (n + 1) f.1 w));
    behind = λ n f w. subst (Keeps 0 n (1 + operators_of s)) (sym (meant-minus s)) (kept_neg 0 n (operators_of s) (Meant s) (omega arith) (i.behind (n + 1) f.1 w));
  }
  shape_is (negated s) = let i = shape_is s in record {
    operand = λ p n f w. subst (Keeps p n (1 + operators_of s)) (sym (meant-not s)) (kept_not p n (operators_of s) (Meant s) f.0 (i.operand 3 (n + 1) f.1 w));
    behind = λ n f w. subst (Keeps 0 n (1 + operators_of s)) (sym (meant-not s)) (kept_not 0 n (operators_of s) (Meant s) (omega arith) (i.operand 3 (n + 1) f.1 w));
  }
  shape_is (both o a b) = let i = shape_is a in let j = shape_is b in record {
    operand = λ p n f w. subst (Keeps p n (operators_of a + (1 + operators_of b))) (sym (meant-both o a b))
        (kept_bin p n (operators_of a) (operators_of b) o (Meant a) (Meant b) f.0 (i.operand (left_level o) n f.1 w.0) (j.operand (level o + 1) n f.2 w.1));
    behind = λ n f w. subst (Keeps 0 n (operators_of a + (1 + operators_of b))) (sym (meant-both o a b))
        (kept_bin 0 n (operators_of a) (operators_of b) o (Meant a) (Meant b) (omega arith) (i.operand (left_level o) n f.1 w.0) (j.operand (level o + 1) n f.2 w.1));
  }

-- within the limits, whatever it is
abbrev pub IsKept : Typed → Type 0
IsKept (Value k e) = IsBounded (expr_extent e)
IsKept (Cond c) = IsBounded (cond_extent c)
IsKept Unknown = Unit {0}
IsKept Mismatch = Unit {0}

bounded : (o : ℕ) (x : Extent) → o ≤ 1000 → Holds 1 0 o x → IsBounded x
bounded o x few h =
    let up = depth_up 1 x in
    let depth = h.depth in
    let less = h.operators in
    record { depth = omega (arith, up, depth); operators = omega (arith, few, less); text = h.text }

kept : (o : ℕ) (t : Typed) → o ≤ 1000 → Keeps 1 0 o t → IsKept t
kept o (Value k e) few h = bounded o (expr_extent e) few h
kept o (Cond c) few h = bounded o (cond_extent c) few h
kept o Unknown few h = tt
kept o Mismatch few h = tt

-- what was read within the limits keeps them over whatever columns
abbrev pub IsSmall : Syn → Type 0
IsSmall t = (columns : List Column) → IsKept (of.typed_of columns t)

pub expr-small : (t : Syn) (ts : List Token) → read the_limits t ts → IsSmall t
expr-small t ts (s, f, w, o, e, u) columns =
    subst (λ (t : Syn). IsKept (of.typed_of columns t)) (sym u) (kept (operators_of s) (of.typed_of columns (tree_of s)) o ((shape_is columns s).operand 1 0 f w))
