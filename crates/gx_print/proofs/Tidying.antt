-- What is resolved is written again as it was read, but tidied.
use Rattle.std.proofs.Common.{◌≡◌, ℕ, zero, suc, ◌+◌, ◌≤◌, nat_eq, ℤ, pos, negsuc, ◌-ℤ◌, Bool, true, false, ◌&&◌, if◌then◌else◌, List, [], ◌∷◌, Option, Some, None, refl, sym, ◌∙◌, ap, subst, arith}
use Rattle.std.specs.Cmp.Lexicographic.{pointwise}
use Rattle.gx_tree.specs.declared.schema.Column.{Column}
use Rattle.gx_tree.specs.declared.schema.Kind.{Kind}
use Rattle.gx_tree.specs.declared.schema.Kind.TheVariants as kind
use Rattle.gx_tree.specs.declared.value.Value.TheVariants as value
use Rattle.gx_tree.specs.declared.expr.ArithOp.{ArithOp}
use Rattle.gx_tree.specs.declared.expr.ArithOp.TheVariants as ariths
use Rattle.gx_tree.specs.declared.expr.Expr.TheVariants as expr
use Rattle.gx_tree.specs.declared.cond.CmpOp.{CmpOp}
use Rattle.gx_tree.specs.declared.cond.CmpOp.TheVariants as cmps
use Rattle.gx_grammar.specs.declared.syn.Op.{Op}
use Rattle.gx_grammar.specs.declared.syn.Op.TheVariants as op
use Rattle.gx_grammar.specs.declared.syn.Syn.{Syn, roll-Syn}
use Rattle.gx_grammar.specs.declared.syn.Syn.TheVariants as syn
use Rattle.gx_grammar.specs.declared.syn.Syn.TheVariants.{rolls-Number, rolls-Text, rolls-Column, rolls-Neg, rolls-Not, rolls-Bin}
use Rattle.gx_grammar.specs.declared.syn.Syn.TheOpen.{Syn-F}
use Rattle.gx_grammar.specs.declared.syn.Syn.TheFolds.{fold-Syn, fold-roll-Syn, ind-Syn, map-Syn}
use Rattle.gx_resolve.specs.Columns.{column_from, column_of}
use Rattle.gx_resolve.specs.Typing.{number_typed, column_typed, neg_typed, not_typed, beside, wrong, arith_typed, cmp_typed, and_typed, or_typed, bin_typed, typed_step, typed_of}
use Rattle.gx_resolve.specs.declared.typed.Typed.{Typed}
use Rattle.gx_resolve.specs.declared.typed.Typed.TheVariants.{Value, Cond, Unknown, Mismatch}
use Rattle.gx_resolve.specs.Naming.{names_step, names_in}
use Rattle.gx_grammar.specs.Grammar.{Shape, parens, level, left_level}
use Rattle.gx_print.specs.Shapes.{IsName, IsClear}
use Rattle.gx_print.specs.Forms.{Form, enclosed_if, at_level, form_of}
use Rattle.gx_print.specs.Limited.{Each, SynClear}
use Rattle.gx_print.specs.Written.{column_name, arith_op, cmp_op, expr_syn, cond_syn}
use Rattle.gx_print.proofs.Tidied.{tidy_number, tidy_step, tidy}
use Rattle.gx_print.proofs.Levels.{pick_le}
use Rattle.gx_print.proofs.Nodes.{form_of-number, form_of-text, form_of-column, form_of-neg, form_of-not, form_of-bin, expr_syn-lit, expr_syn-col, expr_syn-neg, expr_syn-bin, cond_syn-cmp, cond_syn-and, cond_syn-or, cond_syn-not}

abbrev pub HasName : Column → Type 0
HasName c = IsName c.name

-- TEXTS AND COLUMNS
all_of : (a b : Bool) → (a && b) ≡ true → (a ≡ true) × (b ≡ true)
all_of true b e = (refl, e)
all_of false b e = absurd (cc)

same_byte : (a b : ℕ) → nat_eq a b ≡ true → a ≡ b
same_byte a b e = grind arith

pub same_text : (a b : List ℕ) → pointwise nat_eq a b ≡ true → a ≡ b
same_text [] [] e = refl
same_text [] (y ∷ ys) e = absurd (cc)
same_text (x ∷ xs) [] e = absurd (cc)
same_text (x ∷ xs) (y ∷ ys) e = let (p, q) = all_of (nat_eq x y) (pointwise nat_eq xs ys) e in ap (λ (z : ℕ). z ∷ xs) (same_byte x y p) ∙ ap (λ (zs : List ℕ). y ∷ zs) (same_text xs ys q)

-- a column that is found at a place, counted from another
abbrev FoundAt : List Column → ℕ → List ℕ → ℕ → Type 0
FoundAt columns from name place = (i : ℕ) × (place ≡ from + i) × (column_name columns i ≡ name)

found_later : (x : Column) (xs : List Column) (from place : ℕ) (name : List ℕ) → FoundAt xs (from + 1) name place → FoundAt (x ∷ xs) from name place
found_later x xs from place name (i, e, n) = (suc i, omega arith, n)

found_by : (x : Column) (xs : List Column) (from : ℕ) (name : List ℕ) (c : ℕ × Kind) (b : Bool) → pointwise nat_eq x.name name ≡ b → (if b then Some (from, x.kind) else column_from (from + 1) name xs) ≡ Some c → (column_from (from + 1) name xs ≡ Some c → FoundAt xs (from + 1) name c.0) → FoundAt (x ∷ xs) from name c.0
found_by x xs from name c true t e rest = let same : (from, x.kind) ≡ c = cc in let place : from ≡ c.0 = ap (λ (p : ℕ × Kind). p.0) same in (0, omega arith, same_text x.name name t)
found_by x xs from name c false t e rest = found_later x xs from c.0 name (rest e)

found_from : (columns : List Column) (from : ℕ) (name : List ℕ) (c : ℕ × Kind) → column_from from name columns ≡ Some c → FoundAt columns from name c.0
found_from [] from name c e = absurd (cc)
found_from (x ∷ xs) from name c e = found_by x xs from name c (pointwise nat_eq x.name name) refl e (found_from xs (from + 1) name c)

pub column_again : (columns : List Column) (name : List ℕ) (c : ℕ × Kind) → column_of name columns ≡ Some c → column_name columns c.0 ≡ name
column_again columns name c e =
    let (i, p, n) = found_from columns 0 name c e in
    let same : i ≡ c.0 = omega arith in
    subst (λ (place : ℕ). column_name columns place ≡ name) same n

-- a column that is found has a name of the language, where all have
clear_by : (x : Column) (xs : List Column) (from : ℕ) (name : List ℕ) (c : ℕ × Kind) (b : Bool) → IsName x.name → pointwise nat_eq x.name name ≡ b → (if b then Some (from, x.kind) else column_from (from + 1) name xs) ≡ Some c → (column_from (from + 1) name xs ≡ Some c → IsName name) → IsName name
clear_by x xs from name c true i t e rest = subst IsName (same_text x.name name t) i
clear_by x xs from name c false i t e rest = rest e

pub column_clear : (columns : List Column) (from : ℕ) (name : List ℕ) (c : ℕ × Kind) → Each HasName columns → column_from from name columns ≡ Some c → IsName name
column_clear [] from name c i e = absurd (cc)
column_clear (x ∷ xs) from name c i e = clear_by x xs from name c (pointwise nat_eq x.name name) i.0 refl e (column_clear xs (from + 1) name c i.1)

-- WRITING
-- over columns, what is resolved over those that are found, which have the same names
module _ (columns found : List Column) (named : (name : List ℕ) (c : ℕ × Kind) → column_of name found ≡ Some c → (column_name columns c.0 ≡ name) × IsName name) where
  -- what is resolved is written so, and its names and numbers are those of the language
  abbrev pub Writes : Typed → Syn → Type 0
  Writes (Value k e) u = (expr_syn columns e ≡ u) × SynClear u
  Writes (Cond c) u = (cond_syn columns c ≡ u) × SynClear u
  Writes _ u = Unit {0}

  minus_is : (n : ℕ) → pos 0 -ℤ pos (suc n) ≡ negsuc n
  minus_is n = grind arith

  number_clear : (b : Bool) (n : ℕ) → n ≤ 9223372036854775808 → SynClear (syn.Number b (Some n))
  number_clear true n l = subst (λ (f : Form). IsClear f.shape) (sym (form_of-number true (Some n))) (omega arith)
  number_clear false n l = subst (λ (f : Form). IsClear f.shape) (sym (form_of-number false (Some n))) (omega arith)

  number_writes : (b : Bool) (n : Option ℕ) → Writes (number_typed b n) (tidy_number b n)
  number_writes true None = tt
  number_writes false None = tt
  number_writes false (Some n) = pick_le (λ t. Writes t (syn.Number false (Some n))) n 9223372036854775807 (Value kind.Int (expr.Lit (value.Int (pos n)))) Mismatch (λ l. (expr_syn-lit columns (value.Int (pos n)), number_clear false n (omega arith))) (λ l. tt)
  number_writes true (Some zero) = (expr_syn-lit columns (value.Int (pos 0)), number_clear false 0 (omega arith))
  number_writes true (Some (suc n)) = pick_le (λ t. Writes t (syn.Number true (Some (suc n)))) (suc n) 9223372036854775808 (Value kind.Int (expr.Lit (value.Int (pos 0 -ℤ pos (suc n))))) Mismatch (λ l. (ap (λ (z : ℤ). expr_syn columns (expr.Lit (value.Int z))) (minus_is n) ∙ expr_syn-lit columns (value.Int (negsuc n)), number_clear true (suc n) l)) (λ l. tt)

  column_writes : (name : List ℕ) (o : Option (ℕ × Kind)) → column_of name found ≡ o → Writes (column_typed o) (syn.Column name)
  column_writes name None e = tt
  column_writes name (Some c) e = let (p, q) = named name c e in (expr_syn-col columns c.0 ∙ ap syn.Column p, subst (λ (f : Form). IsClear f.shape) (sym (form_of-column name)) q)

  enclosed_clear : (b : Bool) (s : Shape) → IsClear s → IsClear (enclosed_if b s)
  enclosed_clear true s c = c
  enclosed_clear false s c = c

  level_clear : (p : ℕ) (f : Form) → IsClear f.shape → IsClear (at_level p f)
  level_clear p f c = pick_le (λ s. IsClear s) p f.level f.shape (parens f.shape) (λ l. c) (λ l. c)

  neg_clear : (u : Syn) → SynClear u → SynClear (syn.Neg u)
  neg_clear u c = subst (λ (f : Form). IsClear f.shape) (sym (form_of-neg u)) (let f : Form = form_of u in enclosed_clear f.closed f.shape c)

  not_clear : (u : Syn) → SynClear u → SynClear (syn.Not u)
  not_clear u c = subst (λ (f : Form). IsClear f.shape) (sym (form_of-not u)) (level_clear 3 (form_of u) c)

  bin_clear : (o : Op) (u v : Syn) → SynClear u → SynClear v → SynClear (syn.Bin o u v)
  bin_clear o u v c d = subst (λ (f : Form). IsClear f.shape) (sym (form_of-bin o u v)) (level_clear (left_level o) (form_of u) c, level_clear (level o + 1) (form_of v) d)

  neg_writes : (t : Typed) (u : Syn) → Writes t u → Writes (neg_typed t) (syn.Neg u)
  neg_writes (Value kind.Int e) u w = (expr_syn-neg columns e ∙ ap syn.Neg w.0, neg_clear u w.1)
  neg_writes (Value kind.Text e) u w = tt
  neg_writes (Cond c) u w = tt
  neg_writes Unknown u w = tt
  neg_writes Mismatch u w = tt

  not_writes : (t : Typed) (u : Syn) → Writes t u → Writes (not_typed t) (syn.Not u)
  not_writes (Cond c) u w = (cond_syn-not columns c ∙ ap syn.Not w.0, not_clear u w.1)
  not_writes (Value kind.Int e) u w = tt
  not_writes (Value kind.Text e) u w = tt
  not_writes Unknown u w = tt
  not_writes Mismatch u w = tt

  beside_writes : (t : Typed) (u : Syn) → Writes (beside t) u
  beside_writes (Value k e) u = tt
  beside_writes (Cond c) u = tt
  beside_writes Unknown u = tt
  beside_writes Mismatch u = tt

  wrong_writes : (s t : Typed) (u : Syn) → Writes (wrong s t) u
  wrong_writes (Value k e) t u = beside_writes t u
  wrong_writes (Cond c) t u = beside_writes t u
  wrong_writes Unknown t u = tt
  wrong_writes Mismatch t u = beside_writes t u

  pair : (o : Op) (x y u v : Syn) → x ≡ u → y ≡ v → syn.Bin o x y ≡ syn.Bin o u v
  pair o x y u v p q = ap (λ (z : Syn). syn.Bin o z y) p ∙ ap (λ (z : Syn). syn.Bin o u z) q

  arith_writes : (o : ArithOp) (s t : Typed) (u v : Syn) → Writes s u → Writes t v → Writes (arith_typed o s t) (syn.Bin (arith_op o) u v)
  arith_writes o (Value kind.Int a) (Value kind.Int b) u v p q = (expr_syn-bin columns o a b ∙ pair (arith_op o) _ _ u v p.0 q.0, bin_clear (arith_op o) u v p.1 q.1)
  arith_writes o (Value kind.Int a) (Value kind.Text b) u v p q = tt
  arith_writes o (Value kind.Int a) (Cond b) u v p q = tt
  arith_writes o (Value kind.Int a) Unknown u v p q = tt
  arith_writes o (Value kind.Int a) Mismatch u v p q = tt
  arith_writes o (Value kind.Text a) t u v p q = wrong_writes (Value kind.Text a) t (syn.Bin (arith_op o) u v)
  arith_writes o (Cond a) t u v p q = wrong_writes (Cond a) t (syn.Bin (arith_op o) u v)
  arith_writes o Unknown t u v p q = tt
  arith_writes o Mismatch t u v p q = wrong_writes Mismatch t (syn.Bin (arith_op o) u v)

  cmp_writes : (o : CmpOp) (s t : Typed) (u v : Syn) → Writes s u → Writes t v → Writes (cmp_typed o s t) (syn.Bin (cmp_op o) u v)
  cmp_writes o (Value kind.Int a) (Value kind.Int b) u v p q = (cond_syn-cmp columns o a b ∙ pair (cmp_op o) _ _ u v p.0 q.0, bin_clear (cmp_op o) u v p.1 q.1)
  cmp_writes o (Value kind.Text a) (Value kind.Text b) u v p q = (cond_syn-cmp columns o a b ∙ pair (cmp_op o) _ _ u v p.0 q.0, bin_clear (cmp_op o) u v p.1 q.1)
  cmp_writes o (Value kind.Int a) (Value kind.Text b) u v p q = tt
  cmp_writes o (Value kind.Int a) (Cond b) u v p q = tt
  cmp_writes o (Value kind.Int a) Unknown u v p q = tt
  cmp_writes o (Value kind.Int a) Mismatch u v p q = tt
  cmp_writes o (Value kind.Text a) (Value kind.Int b) u v p q = tt
  cmp_writes o (Value kind.Text a) (Cond b) u v p q = tt
  cmp_writes o (Value kind.Text a) Unknown u v p q = tt
  cmp_writes o (Value kind.Text a) Mismatch u v p q = tt
  cmp_writes o (Cond a) t u v p q = wrong_writes (Cond a) t (syn.Bin (cmp_op o) u v)
  cmp_writes o Unknown t u v p q = tt
  cmp_writes o Mismatch t u v p q = wrong_writes Mismatch t (syn.Bin (cmp_op o) u v)

  and_writes : (s t : Typed) (u v : Syn) → Writes s u → Writes t v → Writes (and_typed s t) (syn.Bin op.And u v)
  and_writes (Cond a) (Cond b) u v p q = (cond_syn-and columns a b ∙ pair op.And _ _ u v p.0 q.0, bin_clear op.And u v p.1 q.1)
  and_writes (Cond a) (Value k b) u v p q = tt
  and_writes (Cond a) Unknown u v p q = tt
  and_writes (Cond a) Mismatch u v p q = tt
  and_writes (Value k a) t u v p q = wrong_writes (Value k a) t (syn.Bin op.And u v)
  and_writes Unknown t u v p q = tt
  and_writes Mismatch t u v p q = wrong_writes Mismatch t (syn.Bin op.And u v)

  or_writes : (s t : Typed) (u v : Syn) → Writes s u → Writes t v → Writes (or_typed s t) (syn.Bin op.Or u v)
  or_writes (Cond a) (Cond b) u v p q = (cond_syn-or columns a b ∙ pair op.Or _ _ u v p.0 q.0, bin_clear op.Or u v p.1 q.1)
  or_writes (Cond a) (Value k b) u v p q = tt
  or_writes (Cond a) Unknown u v p q = tt
  or_writes (Cond a) Mismatch u v p q = tt
  or_writes (Value k a) t u v p q = wrong_writes (Value k a) t (syn.Bin op.Or u v)
  or_writes Unknown t u v p q = tt
  or_writes Mismatch t u v p q = wrong_writes Mismatch t (syn.Bin op.Or u v)

  bin_writes : (o : Op) (s t : Typed) (u v : Syn) → Writes s u → Writes t v → Writes (bin_typed o s t) (syn.Bin o u v)
  bin_writes op.Or s t u v p q = or_writes s t u v p q
  bin_writes op.And s t u v p q = and_writes s t u v p q
  bin_writes op.Equal s t u v p q = cmp_writes cmps.Eq s t u v p q
  bin_writes op.NotEqual s t u v p q = cmp_writes cmps.Ne s t u v p q
  bin_writes op.Less s t u v p q = cmp_writes cmps.Lt s t u v p q
  bin_writes op.LessEqual s t u v p q = cmp_writes cmps.Le s t u v p q
  bin_writes op.Greater s t u v p q = cmp_writes cmps.Gt s t u v p q
  bin_writes op.GreaterEqual s t u v p q = cmp_writes cmps.Ge s t u v p q
  bin_writes op.Add s t u v p q = arith_writes ariths.Add s t u v p q
  bin_writes op.Sub s t u v p q = arith_writes ariths.Sub s t u v p q
  bin_writes op.Mul s t u v p q = arith_writes ariths.Mul s t u v p q
  bin_writes op.Div s t u v p q = arith_writes ariths.Div s t u v p q
  bin_writes op.Rem s t u v p q = arith_writes ariths.Rem s t u v p q

  abbrev IsWritten : Syn → Type 0
  IsWritten t = Writes (typed_of found t) (tidy t)

  rolled : (x : Syn-F Syn) → Writes (typed_step found (map-Syn Syn Typed (typed_of found) x)) (tidy_step (map-Syn Syn Syn tidy x)) → IsWritten (roll-Syn x)
  rolled x w = subst (λ (t : Typed). Writes t (tidy (roll-Syn x))) (sym (fold-roll-Syn Typed (typed_step found) x)) (subst (λ (u : Syn). Writes (typed_step found (map-Syn Syn Typed (typed_of found) x)) u) (sym (fold-roll-Syn Syn tidy_step x)) w)

  node : (y : Syn-F ((t : Syn) × IsWritten t)) → IsWritten (roll-Syn (map-Syn ((t : Syn) × IsWritten t) Syn (λ e. e.0) y))
  node (Syn-F.Number b n) = rolled (Syn-F.Number b n) (number_writes b n)
  node (Syn-F.Text t) = rolled (Syn-F.Text t) (expr_syn-lit columns (value.Text t), subst (λ (f : Form). IsClear f.shape) (sym (form_of-text t)) tt)
  node (Syn-F.Column c) = rolled (Syn-F.Column c) (column_writes c (column_of c found) refl)
  node (Syn-F.Neg e) = rolled (Syn-F.Neg e.0) (neg_writes (typed_of found e.0) (tidy e.0) e.1)
  node (Syn-F.Not e) = rolled (Syn-F.Not e.0) (not_writes (typed_of found e.0) (tidy e.0) e.1)
  node (Syn-F.Bin o e f) = rolled (Syn-F.Bin o e.0 f.0) (bin_writes o (typed_of found e.0) (typed_of found f.0) (tidy e.0) (tidy f.0) e.1 f.1)

  pub written_tidy : (t : Syn) → Writes (typed_of found t) (tidy t)
  written_tidy = ind-Syn IsWritten (λ x y is. subst (λ (z : Syn-F Syn). IsWritten (roll-Syn z)) is (node y))

-- READING AGAIN
module _ {A : Type 0} (f : Syn-F A → A) (number : (b : Bool) (n : Option ℕ) → fold-Syn A f (tidy_number b n) ≡ f (Syn-F.Number b n)) where
  abbrev fold : Syn → A
  fold t = fold-Syn A f t

  abbrev Same : Syn → Type 0
  Same t = fold (tidy t) ≡ fold t

  again : (x : Syn-F Syn) → fold (tidy_step (map-Syn Syn Syn tidy x)) ≡ f (map-Syn Syn A fold x) → Same (roll-Syn x)
  again x e = ap fold (fold-roll-Syn Syn tidy_step x) ∙ e ∙ sym (fold-roll-Syn A f x)

  node_again : (y : Syn-F ((t : Syn) × Same t)) → Same (roll-Syn (map-Syn ((t : Syn) × Same t) Syn (λ e. e.0) y))
  node_again (Syn-F.Number b n) = again (Syn-F.Number b n) (number b n)
  node_again (Syn-F.Text t) = again (Syn-F.Text t) (ap fold (sym (rolls-Text t)) ∙ fold-roll-Syn A f (Syn-F.Text t))
  node_again (Syn-F.Column c) = again (Syn-F.Column c) (ap fold (sym (rolls-Column c)) ∙ fold-roll-Syn A f (Syn-F.Column c))
  node_again (Syn-F.Neg e) = again (Syn-F.Neg e.0) (ap fold (sym (rolls-Neg (tidy e.0))) ∙ fold-roll-Syn A f (Syn-F.Neg (tidy e.0)) ∙ ap (λ (a : A). f (Syn-F.Neg a)) e.1)
  node_again (Syn-F.Not e) = again (Syn-F.Not e.0) (ap fold (sym (rolls-Not (tidy e.0))) ∙ fold-roll-Syn A f (Syn-F.Not (tidy e.0)) ∙ ap (λ (a : A). f (Syn-F.Not a)) e.1)
  node_again (Syn-F.Bin o e g) = again (Syn-F.Bin o e.0 g.0) (ap fold (sym (rolls-Bin o (tidy e.0) (tidy g.0))) ∙ fold-roll-Syn A f (Syn-F.Bin o (tidy e.0) (tidy g.0)) ∙ ap (λ (a : A). f (Syn-F.Bin o a (fold (tidy g.0)))) e.1 ∙ ap (λ (a : A). f (Syn-F.Bin o (fold e.0) a)) g.1)

  -- a fold that takes a zero's sign for nothing is the same of what is tidied
  pub fold_tidy : (t : Syn) → fold (tidy t) ≡ fold t
  fold_tidy = ind-Syn Same (λ x y is. subst (λ (z : Syn-F Syn). Same (roll-Syn z)) is (node_again y))

number_again : {A : Type 0} (f : Syn-F A → A) → f (Syn-F.Number false (Some zero)) ≡ f (Syn-F.Number true (Some zero)) → (b : Bool) (n : Option ℕ) → fold-Syn A f (tidy_number b n) ≡ f (Syn-F.Number b n)
number_again {A = A} f e true (Some zero) = ap (fold-Syn A f) (sym (rolls-Number false (Some zero))) ∙ fold-roll-Syn A f (Syn-F.Number false (Some zero)) ∙ e
number_again {A = A} f e true (Some (suc n)) = ap (fold-Syn A f) (sym (rolls-Number true (Some (suc n)))) ∙ fold-roll-Syn A f (Syn-F.Number true (Some (suc n)))
number_again {A = A} f e true None = ap (fold-Syn A f) (sym (rolls-Number true None)) ∙ fold-roll-Syn A f (Syn-F.Number true None)
number_again {A = A} f e false n = ap (fold-Syn A f) (sym (rolls-Number false n)) ∙ fold-roll-Syn A f (Syn-F.Number false n)

pub typed_again : (columns : List Column) (t : Syn) → typed_of columns (tidy t) ≡ typed_of columns t
typed_again columns = fold_tidy (typed_step columns) (number_again (typed_step columns) refl)

pub names_again : (t : Syn) → names_in (tidy t) ≡ names_in t
names_again = fold_tidy names_step (number_again names_step refl)
