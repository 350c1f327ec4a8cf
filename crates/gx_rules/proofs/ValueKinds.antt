-- A value is of its expression's kind.
use Rattle.std.proofs.Common.{◌≡◌, ◌<◌, ℕ, zero, suc, ℤ, neg_ℤ, Bool, true, false, if◌then◌else◌, eqb, List, [], ◌∷◌, length, slice_get, Option, Some, None, Result, Ok, Err, sym, ap, ◌∙◌, subst, arith}
use Rattle.std.specs.Prelude.{◌+ℤ◌, ◌-ℤ◌, ◌*ℤ◌, int_div, int_rem, unsigned_abs}
use Rattle.gx_tree.specs.declared.expr.ArithOp.{ArithOp}
use Rattle.gx_tree.specs.declared.expr.ArithOp.TheVariants.{Add, Sub, Mul, Div, Rem}
use Rattle.gx_tree.specs.declared.expr.Expr.{Expr, roll-Expr, Neg, Bin, Lit, Col}
use Rattle.gx_tree.specs.declared.expr.Expr.TheFolds.{ind-Expr}
use Rattle.gx_tree.specs.declared.expr.Expr.TheOpen.{Expr-F}
use Rattle.gx_tree.specs.declared.expr.Expr.TheVariants.{rolls-Neg, rolls-Bin, rolls-Lit, rolls-Col}
use Rattle.gx_tree.specs.declared.schema.Kind.{Kind}
use Rattle.gx_tree.specs.declared.schema.Kind.TheVariants as kind
use Rattle.gx_tree.specs.declared.value.Value.{Value}
use Rattle.gx_tree.specs.declared.value.Value.TheVariants.{Int}
use Rattle.gx_meaning.specs.Expressions.{and_then, arithmetic, column_of, in_range, is_in_range, number_in, value_of}
use Rattle.gx_meaning.specs.Kinds.{kind_of, kinds_of, number_kind, value_kind}
use Rattle.gx_meaning.specs.declared.fault.ArithFault.{ArithFault}
use Rattle.gx_meaning.specs.declared.fault.ArithFault.TheVariants.{Overflow, DivisionByZero}
use Rattle.gx_meaning.proofs.Nodes.{kind_of-bin, kind_of-col, kind_of-lit, kind_of-neg, value_of-bin, value_of-col, value_of-lit, value_of-neg}

same_ok : (a b : Value) → (let r : Result Value ArithFault = Ok a in r) ≡ Ok b → a ≡ b
same_ok a b e = cc

same_kinds : (j k : Kind) → Some j ≡ Some k → j ≡ k
same_kinds j k e = cc

-- NUMBERS
number-int : (j k : Option Kind) (m : Kind) → number_kind j k ≡ Some m → m ≡ kind.Int
number-int (Some kind.Int) (Some kind.Int) m e = cc
number-int (Some kind.Int) (Some kind.Text) m e = absurd (cc)
number-int (Some kind.Int) None m e = absurd (cc)
number-int (Some kind.Text) k m e = absurd (cc)
number-int None k m e = absurd (cc)

in_range-int : (z : ℤ) (v : Value) → in_range z ≡ Ok v → value_kind v ≡ kind.Int
in_range-int z v e = either (is_in_range z) e
  where
    either : (b : Bool) → (if b then Ok (Int z) else Err Overflow) ≡ Ok v → value_kind v ≡ kind.Int
    either true f = ap value_kind (sym (same_ok (Int z) v f))
    either false f = absurd (cc)

arithmetic-int : (op : ArithOp) (a b : ℤ) (v : Value) → arithmetic op a b ≡ Ok v → value_kind v ≡ kind.Int
arithmetic-int Add a b v e = in_range-int (a +ℤ b) v e
arithmetic-int Sub a b v e = in_range-int (a -ℤ b) v e
arithmetic-int Mul a b v e = in_range-int (a *ℤ b) v e
arithmetic-int Div a b v e = either (eqb (unsigned_abs b) 0) e
  where
    either : (t : Bool) → (if t then Err DivisionByZero else in_range (int_div a b)) ≡ Ok v → value_kind v ≡ kind.Int
    either true f = absurd (cc)
    either false f = in_range-int (int_div a b) v f
arithmetic-int Rem a b v e = either (eqb (unsigned_abs b) 0) e
  where
    either : (t : Bool) → (if t then Err DivisionByZero else Ok (Int (int_rem a b))) ≡ Ok v → value_kind v ≡ kind.Int
    either true f = absurd (cc)
    either false f = ap value_kind (sym (same_ok (Int (int_rem a b)) v f))

after-int : (r : Result Value ArithFault) (next : Value → Result Value ArithFault) → ((a v : Value) → next a ≡ Ok v → value_kind v ≡ kind.Int) → (v : Value) → and_then r next ≡ Ok v → value_kind v ≡ kind.Int
after-int (Ok a) next int v e = int a v e
after-int (Err fault) next int v e = absurd (cc)

-- COLUMNS
pub inside-column : (row : List Value) (column : ℕ) (k : Kind) → slice_get (kinds_of row) column ≡ Some k → column < length row
inside-column [] column k e = absurd (cc)
inside-column (v ∷ row) zero k e = omega arith
inside-column (v ∷ row) (suc column) k e = let inner : column < length row = inside-column row column k e in omega (arith, inner)

kind-column : (row : List Value) (column : ℕ) (k : Kind) → slice_get (kinds_of row) column ≡ Some k → value_kind (column_of row column) ≡ k
kind-column [] column k e = absurd (cc)
kind-column (v ∷ row) zero k e = same_kinds (value_kind v) k e
kind-column (v ∷ row) (suc column) k e = kind-column row column k e

-- ALL EXPRESSIONS
abbrev HasKind : List Value → Expr → Type 0
HasKind row e = (v : Value) (k : Kind) → value_of row e ≡ Ok v → kind_of (kinds_of row) e ≡ Some k → value_kind v ≡ k

has : (row : List Value) (e : Expr) (r : Result Value ArithFault) (o : Option Kind) → value_of row e ≡ r → kind_of (kinds_of row) e ≡ o → ((v : Value) (k : Kind) → r ≡ Ok v → o ≡ Some k → value_kind v ≡ k) → HasKind row e
has row e r o p q f = λ v k a b. f v k (sym p ∙ a) (sym q ∙ b)

has-node : (row : List Value) (x : Expr-F Expr) → HasKind row (roll-Expr x)
has-node row (Expr-F.Lit value) =
    subst (HasKind row) (sym (rolls-Lit value))
    (has row (Lit value) (Ok value) (Some (value_kind value)) (value_of-lit row value) (kind_of-lit (kinds_of row) value) (λ v k a b. ap value_kind (sym (same_ok value v a)) ∙ same_kinds (value_kind value) k b))
has-node row (Expr-F.Col column) =
    subst (HasKind row) (sym (rolls-Col column))
    (has row (Col column) (Ok (column_of row column)) (slice_get (kinds_of row) column) (value_of-col row column) (kind_of-col (kinds_of row) column)
    (λ v k a b. ap value_kind (sym (same_ok (column_of row column) v a)) ∙ kind-column row column k b))
has-node row (Expr-F.Neg e) =
    subst (HasKind row) (sym (rolls-Neg e))
    (has row (Neg e) (and_then (value_of row e) (λ a. in_range (neg_ℤ (number_in a)))) (number_kind (kind_of (kinds_of row) e) (kind_of (kinds_of row) e)) (value_of-neg row e) (kind_of-neg (kinds_of row) e)
    (λ v k a b. after-int (value_of row e) (λ x. in_range (neg_ℤ (number_in x))) (λ x w f. in_range-int (neg_ℤ (number_in x)) w f) v a ∙ sym (number-int (kind_of (kinds_of row) e) (kind_of (kinds_of row) e) k b)))
has-node row (Expr-F.Bin op l r) =
    subst (HasKind row) (sym (rolls-Bin op l r))
    (has row (Bin op l r) (and_then (value_of row l) (λ a. and_then (value_of row r) (λ b. arithmetic op (number_in a) (number_in b)))) (number_kind (kind_of (kinds_of row) l) (kind_of (kinds_of row) r)) (value_of-bin row op l r) (kind_of-bin (kinds_of row) op l r)
    (λ v k a b.
    after-int (value_of row l) (λ x. and_then (value_of row r) (λ y. arithmetic op (number_in x) (number_in y)))
    (λ x w f. after-int (value_of row r) (λ y. arithmetic op (number_in x) (number_in y)) (λ y u h. arithmetic-int op (number_in x) (number_in y) u h) w f) v a
    ∙ sym (number-int (kind_of (kinds_of row) l) (kind_of (kinds_of row) r) k b)))

pub kind-value : (row : List Value) (e : Expr) → HasKind row e
kind-value row = ind-Expr (HasKind row) (λ x y is. has-node row x)
