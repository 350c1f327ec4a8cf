-- What is typed over columns has its kinds over them.
use Rattle.std.proofs.Common.{ℤ, pos, ◌-ℤ◌, ℕ, zero, suc, ◌≡◌, ◌∙◌, ◌+◌, sym, ap, refl, subst, arith, List, [], ◌∷◌, Option, Some, None, Bool, true, false, if◌then◌else◌, nat_eq, nat_le, slice_get}
use Rattle.std.specs.Cmp.Lexicographic.{pointwise}
use Rattle.gx_tree.specs.declared.schema.Column.{Column}
use Rattle.gx_tree.specs.declared.schema.Kind.{Kind}
use Rattle.gx_tree.specs.declared.schema.Kind.TheVariants as kind
use Rattle.gx_tree.specs.declared.value.Value.TheVariants as value
use Rattle.gx_tree.specs.declared.expr.ArithOp.{ArithOp}
use Rattle.gx_tree.specs.declared.expr.Expr.{Expr}
use Rattle.gx_tree.specs.declared.expr.Expr.TheVariants as expr
use Rattle.gx_tree.specs.declared.cond.CmpOp.{CmpOp}
use Rattle.gx_grammar.specs.declared.syn.Op.{Op}
use Rattle.gx_grammar.specs.declared.syn.Op.TheVariants as op
use Rattle.gx_grammar.specs.declared.syn.Syn.{Syn, map-Syn}
use Rattle.gx_grammar.specs.declared.syn.Syn.TheOpen.{Syn-F}
use Rattle.gx_grammar.specs.declared.syn.Syn.TheViews.{roll-Syn}
use Rattle.gx_grammar.specs.declared.syn.Syn.TheFolds.{fold-roll-Syn, ind-Syn}
use Rattle.gx_meaning.specs.Kinds.{kind_of, is_typed}
use Rattle.gx_meaning.proofs.Nodes.{kind_of-lit, kind_of-col, kind_of-neg, kind_of-bin, is_typed-cmp, is_typed-and, is_typed-or, is_typed-not}
use Rattle.gx_resolve.specs.Columns.{column_from, column_of}
use Rattle.gx_resolve.specs.Typing as of
use Rattle.gx_resolve.specs.declared.typed.Typed.{Typed}
use Rattle.gx_resolve.specs.declared.typed.Typed.TheVariants.{Value, Cond, Unknown, Mismatch}
use Rattle.gx_meaning.specs.Statements.{column_kinds, HasColumn}

-- the column that is found stands at its place, with its kind and its name
pub record Stands (columns : List Column) (place : ℕ) (name : List ℕ) (kind : Kind) : Type 0 where
  pub column : Column
  pub at : slice_get columns place ≡ Some column
  pub has : column.kind ≡ kind
  pub named : pointwise nat_eq column.name name ≡ true

abbrev FoundAt : List Column → ℕ → List ℕ → ℕ × Kind → Type 0
FoundAt columns from name c = (i : ℕ) × (c.0 ≡ from + i) × Stands columns i name c.1

later : (x : Column) (xs : List Column) (from : ℕ) (name : List ℕ) (c : ℕ × Kind) → FoundAt xs (from + 1) name c → FoundAt (x ∷ xs) from name c
later x xs from name c f = (suc f.0, omega (arith, f.1), record { column = f.2.column; at = f.2.at; has = f.2.has; named = f.2.named })

found_from : (columns : List Column) (from : ℕ) (name : List ℕ) (c : ℕ × Kind) → column_from from name columns ≡ Some c → FoundAt columns from name c
found_from [] from name c h = cc
found_from (x ∷ xs) from name c h = by_test (pointwise nat_eq x.name name) refl h (found_from xs (from + 1) name c) where
  by_test : (b : Bool) → pointwise nat_eq x.name name ≡ b → (if b then Some (from, x.kind) else column_from (from + 1) name xs) ≡ Some c → (column_from (from + 1) name xs ≡ Some c → FoundAt xs (from + 1) name c) → FoundAt (x ∷ xs) from name c
  by_test true t e rest = let same : (from, x.kind) ≡ c = cc in (0, omega (arith, ap (λ p. p.0) same), record { column = x; at = refl; has = ap (λ p. p.1) same; named = t })
  by_test false t e rest = later x xs from name c (rest e)

pub stands : (columns : List Column) (name : List ℕ) (c : ℕ × Kind) → column_of name columns ≡ Some c → Stands columns c.0 name c.1
stands columns name c h =
    let f = found_from columns 0 name c h in
    let same : f.0 ≡ c.0 = omega (arith, f.1) in
    subst (λ place. Stands columns place name c.1) same f.2

get_kinds : (columns : List Column) (place : ℕ) (c : Column) → slice_get columns place ≡ Some c → slice_get (column_kinds columns) place ≡ Some c.kind
get_kinds [] place c h = cc
get_kinds (x ∷ xs) zero c h = let same : x ≡ c = cc in ap (λ d. Some d.kind) same
get_kinds (x ∷ xs) (suc place) c h = get_kinds xs place c h

pub has_column : (columns : List Column) (name : List ℕ) (c : ℕ × Kind) → column_of name columns ≡ Some c → HasColumn columns c.0 c.1
has_column columns name c h = let s = stands columns name c h in get_kinds columns c.0 s.column s.at ∙ ap (λ k. Some k) s.has

-- what is typed fits the columns
abbrev pub Fits : List Column → Typed → Type 0
Fits columns (Value k e) = kind_of (column_kinds columns) e ≡ Some k
Fits columns (Cond c) = is_typed (column_kinds columns) c ≡ true
Fits columns Unknown = Unit {0}
Fits columns Mismatch = Unit {0}

module _ (columns : List Column) where
  abbrev kinds : List Kind
  kinds = column_kinds columns

  fits-literal : (b : Bool) (z : ℤ) → Fits columns (if b then Value kind.Int (expr.Lit (value.Int z)) else Mismatch)
  fits-literal true z = kind_of-lit kinds (value.Int z)
  fits-literal false z = tt

  fits-number : (negative : Bool) (size : Option ℕ) → Fits columns (of.number_typed negative size)
  fits-number negative None = tt
  fits-number true (Some n) = fits-literal (nat_le n 9223372036854775808) (pos 0 -ℤ pos n)
  fits-number false (Some n) = fits-literal (nat_le n 9223372036854775807) (pos n)

  fits-found : (name : List ℕ) (found : Option (ℕ × Kind)) → column_of name columns ≡ found → Fits columns (of.column_typed found)
  fits-found name None h = tt
  fits-found name (Some c) h = kind_of-col kinds c.0 ∙ has_column columns name c h

  fits-neg : (t : Typed) → Fits columns t → Fits columns (of.neg_typed t)
  fits-neg (Value kind.Int e) h = kind_of-neg kinds e ∙ rw h refl
  fits-neg (Value kind.Text e) h = tt
  fits-neg (Cond c) h = tt
  fits-neg Unknown h = tt
  fits-neg Mismatch h = tt

  fits-not : (t : Typed) → Fits columns t → Fits columns (of.not_typed t)
  fits-not (Value k e) h = tt
  fits-not (Cond c) h = is_typed-not kinds c ∙ h
  fits-not Unknown h = tt
  fits-not Mismatch h = tt

  fits-beside : (t : Typed) → Fits columns (of.beside t)
  fits-beside (Value k e) = tt
  fits-beside (Cond c) = tt
  fits-beside Unknown = tt
  fits-beside Mismatch = tt

  fits-wrong : (s t : Typed) → Fits columns (of.wrong s t)
  fits-wrong (Value k e) t = fits-beside t
  fits-wrong (Cond c) t = fits-beside t
  fits-wrong Unknown t = tt
  fits-wrong Mismatch t = fits-beside t

  fits-arith : (o : ArithOp) (s t : Typed) → Fits columns s → Fits columns t → Fits columns (of.arith_typed o s t)
  fits-arith o (Value kind.Int a) (Value kind.Int b) p q = kind_of-bin kinds o a b ∙ rw (p, q) refl
  fits-arith o s t p q = fits-wrong s t

  fits-number_compared : (o : CmpOp) (a : Expr) (t : Typed) → kind_of kinds a ≡ Some kind.Int → Fits columns t → Fits columns (of.number_compared o a t)
  fits-number_compared o a (Value kind.Int b) p q = is_typed-cmp kinds o a b ∙ rw (p, q) refl
  fits-number_compared o a t p q = fits-beside t

  fits-text_compared : (o : CmpOp) (a : Expr) (t : Typed) → kind_of kinds a ≡ Some kind.Text → Fits columns t → Fits columns (of.text_compared o a t)
  fits-text_compared o a (Value kind.Text b) p q = is_typed-cmp kinds o a b ∙ rw (p, q) refl
  fits-text_compared o a t p q = fits-beside t

  fits-cmp : (o : CmpOp) (s t : Typed) → Fits columns s → Fits columns t → Fits columns (of.cmp_typed o s t)
  fits-cmp o (Value kind.Int a) t p q = fits-number_compared o a t p q
  fits-cmp o (Value kind.Text a) t p q = fits-text_compared o a t p q
  fits-cmp o s t p q = fits-wrong s t

  fits-and : (s t : Typed) → Fits columns s → Fits columns t → Fits columns (of.and_typed s t)
  fits-and (Cond a) (Cond b) p q = is_typed-and kinds a b ∙ rw (p, q) refl
  fits-and s t p q = fits-wrong s t

  fits-or : (s t : Typed) → Fits columns s → Fits columns t → Fits columns (of.or_typed s t)
  fits-or (Cond a) (Cond b) p q = is_typed-or kinds a b ∙ rw (p, q) refl
  fits-or s t p q = fits-wrong s t

  fits-bin : (o : Op) (s t : Typed) → Fits columns s → Fits columns t → Fits columns (of.bin_typed o s t)
  fits-bin op.Or s t p q = fits-or s t p q
  fits-bin op.And s t p q = fits-and s t p q
  fits-bin op.Equal s t p q = fits-cmp _ s t p q
  fits-bin op.NotEqual s t p q = fits-cmp _ s t p q
  fits-bin op.Less s t p q = fits-cmp _ s t p q
  fits-bin op.LessEqual s t p q = fits-cmp _ s t p q
  fits-bin op.Greater s t p q = fits-cmp _ s t p q
  fits-bin op.GreaterEqual s t p q = fits-cmp _ s t p q
  fits-bin op.Add s t p q = fits-arith _ s t p q
  fits-bin op.Sub s t p q = fits-arith _ s t p q
  fits-bin op.Mul s t p q = fits-arith _ s t p q
  fits-bin op.Div s t p q = fits-arith _ s t p q
  fits-bin op.Rem s t p q = fits-arith _ s t p q

  typed_at : (x : Syn-F Syn) → of.typed_of columns (roll-Syn x) ≡ of.typed_step columns (map-Syn Syn Typed (of.typed_of columns) x)
  typed_at x = fold-roll-Syn Typed (of.typed_step columns) x

  abbrev FitsSyn : Syn → Type 0
  FitsSyn syn = Fits columns (of.typed_of columns syn)

  rolled : (x : Syn-F Syn) → Fits columns (of.typed_step columns (map-Syn Syn Typed (of.typed_of columns) x)) → FitsSyn (roll-Syn x)
  rolled x h = subst (Fits columns) (sym (typed_at x)) h

  pub typed_fits : (syn : Syn) → Fits columns (of.typed_of columns syn)
  typed_fits = ind-Syn FitsSyn (λ x y is. (elim y as (λ u. map-Syn _ Syn (λ e. e.0) u ≡ x → FitsSyn (roll-Syn x)) [
    | Syn-F.Number negative size ↦ λ at. subst (λ z. FitsSyn (roll-Syn z)) at (rolled (Syn-F.Number negative size) (fits-number negative size))
    | Syn-F.Text text ↦ λ at. subst (λ z. FitsSyn (roll-Syn z)) at (rolled (Syn-F.Text text) (kind_of-lit kinds (value.Text text)))
    | Syn-F.Column name ↦ λ at. subst (λ z. FitsSyn (roll-Syn z)) at (rolled (Syn-F.Column name) (fits-found name (column_of name columns) refl))
    | Syn-F.Neg inner ↦ λ at. subst (λ z. FitsSyn (roll-Syn z)) at (rolled (Syn-F.Neg inner.0) (fits-neg (of.typed_of columns inner.0) inner.1))
    | Syn-F.Not inner ↦ λ at. subst (λ z. FitsSyn (roll-Syn z)) at (rolled (Syn-F.Not inner.0) (fits-not (of.typed_of columns inner.0) inner.1))
    | Syn-F.Bin o l r ↦ λ at. subst (λ z. FitsSyn (roll-Syn z)) at (rolled (Syn-F.Bin o l.0 r.0) (fits-bin o (of.typed_of columns l.0) (of.typed_of columns r.0) l.1 r.1))
  ]) is)
