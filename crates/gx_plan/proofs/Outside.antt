-- Outside its target a condition is false.
use Rattle.std.proofs.Common.{ℕ, zero, suc, ◌≡◌, ◌≢◌, ◌∙◌, ◌<◌, sym, ap, refl, subst, List, [], ◌∷◌, length, Ok, Some, None, Option, Result, Bool, true, false, cond, slice_get, ◌==◌, arith}
use Rattle.std.specs.Prelude.{IfSome, is_some}
use Rattle.std.proofs.lemmas.Bool.{and_parts}
use Rattle.std.specs.Ordering.{is_eq}
use Rattle.std.specs.declared.cmp.Ordering.{Ordering}
use Rattle.std.specs.declared.cmp.Ordering.TheVariants.{Less, Equal, Greater}
use Rattle.std.proofs.lemmas.Bool.Decides.{nat_tests}
use Rattle.gx_tree.proofs.Values.{same_value}
use Rattle.gx_tree.specs.Value.{value_order}
use Rattle.gx_tree.specs.declared.value.Value.{Value}
use Rattle.gx_tree.specs.declared.value.Value.TheVariants.{Int, Text}
use Rattle.gx_tree.specs.declared.schema.Dist.{Dist}
use Rattle.gx_tree.specs.declared.schema.Dist.TheVariants.{By, Randomly}
use Rattle.gx_tree.specs.declared.expr.Expr.{Expr, Lit, Col}
use Rattle.gx_tree.specs.declared.cond.CmpOp.{CmpOp}
use Rattle.gx_tree.specs.declared.cond.CmpOp.TheVariants as op
use Rattle.gx_tree.specs.declared.cond.Cond.{Cond, map-Cond}
use Rattle.gx_tree.specs.declared.cond.Cond.TheOpen.{Cond-F}
use Rattle.gx_tree.specs.declared.cond.Cond.TheViews.{roll-Cond}
use Rattle.gx_tree.specs.declared.cond.Cond.TheFolds.{fold-roll-Cond, ind-Cond}
use Rattle.gx_meaning.specs.Expressions.{truth_of, truth_step, and_then, value_of, order_of, column_of}
use Rattle.gx_tree.specs.declared.schema.Kind.{Kind}
use Rattle.gx_tree.specs.declared.schema.Kind.TheVariants as kind
use Rattle.gx_meaning.specs.Kinds.{IsTyped, are_comparable, is_typed, kind_of, kinds_of, typed_step}
use Rattle.gx_meaning.specs.declared.fault.ArithFault.{ArithFault}
use Rattle.gx_meaning.proofs.Nodes.{kind_of-col, value_of-lit, value_of-col}
use Rattle.gx_meaning.specs.Target.{IsFalseOutside, key_of, key_step, key_target, literal_of, target_of}
use Rattle.gx_meaning.specs.Place.{key_place}

not_equal : (order : Ordering) → order ≢ Equal → is_eq order ≡ false
not_equal Less h = refl
not_equal Equal h = absurd (h refl)
not_equal Greater h = refl

-- two values that differ don't compare as equal, on either side
differs : (a b : Value) → a ≢ b → is_eq (value_order a b) ≡ false
differs a b h = not_equal (value_order a b) (λ e. h (same_value a b e))

named : (column key : ℕ) (v value : Value) → cond (column == key) (Some v) None ≡ Some value → (column ≡ key) × (v ≡ value)
named column key v value h = grind (arith, nat_tests)

-- where the column has another value than the one that the condition wants, the condition is false
abbrev Denies : List Value → ℕ → Cond → Type 0
Denies row key c = (value : Value) → key_of key c ≡ Some value → column_of row key ≢ value → truth_of row c ≡ Ok false

-- the truth of an equality of these two sides
abbrev Equals : List Value → Expr → Expr → Result Bool ArithFault
Equals row l r = and_then (order_of row l r) (λ order. Ok (is_eq order))

equals : (row : List Value) (l r : Expr) (a b : Value) → value_of row l ≡ Ok a → value_of row r ≡ Ok b → a ≢ b → Equals row l r ≡ Ok false
equals row l r a b p q h =
    subst (λ u. and_then (and_then u (λ x. and_then (value_of row r) (λ y. Ok (value_order x y)))) (λ order. Ok (is_eq order)) ≡ Ok false) (sym p)
    (subst (λ u. and_then (and_then u (λ y. Ok (value_order a y))) (λ order. Ok (is_eq order)) ≡ Ok false) (sym q) (ap Ok (differs a b h)))

denies_equal : (row : List Value) (key : ℕ) (l r : Expr) (value : Value) → literal_of key l r ≡ Some value → column_of row key ≢ value → Equals row l r ≡ Ok false
denies_equal row key (Col column) (Lit v) value h ne =
    let same : (column ≡ key) × (v ≡ value) = named column key v value h in
    equals row (Col column) (Lit v) (column_of row column) v (value_of-col row column) (value_of-lit row v) (λ e. ne (cc))
denies_equal row key (Lit v) (Col column) value h ne =
    let same : (column ≡ key) × (v ≡ value) = named column key v value h in
    equals row (Lit v) (Col column) v (column_of row column) (value_of-lit row v) (value_of-col row column) (λ e. ne (cc))
denies_equal row key _ _ value h ne = cc

denies_step : (row : List Value) (key : ℕ) (o : CmpOp) (l r : Expr) (value : Value) → key_step key (Cond-F.Cmp o l r) ≡ Some value → column_of row key ≢ value → truth_step row (Cond-F.Cmp o l r) ≡ Ok false
denies_step row key op.Eq l r value h ne = denies_equal row key l r value h ne
denies_step row key _ l r value h ne = cc

key_at : (key : ℕ) (x : Cond-F Cond) → key_of key (roll-Cond x) ≡ key_step key (map-Cond Cond (Option Value) (key_of key) x)
key_at key x = fold-roll-Cond (Option Value) (key_step key) x

truth_at : (row : List Value) (x : Cond-F Cond) → truth_of row (roll-Cond x) ≡ truth_step row (map-Cond Cond (Result Bool ArithFault) (truth_of row) x)
truth_at row x = fold-roll-Cond (Result Bool ArithFault) (truth_step row) x

denies : (row : List Value) (key : ℕ) (c : Cond) → Denies row key c
denies row key = ind-Cond (Denies row key) (λ x y is. (elim y as (λ u. map-Cond _ Cond (λ e. e.0) u ≡ x → Denies row key (roll-Cond x)) [
  | Cond-F.Cmp o l r ↦ λ at. subst (λ z. Denies row key (roll-Cond z)) at (λ value h ne.
      truth_at row (Cond-F.Cmp o l r) ∙ denies_step row key o l r value (sym (key_at key (Cond-F.Cmp o l r)) ∙ h) ne)
  | Cond-F.And l r ↦ λ at. subst (λ z. Denies row key (roll-Cond z)) at (λ value h ne.
      truth_at row (Cond-F.And l.0 r.0) ∙ ap (λ u. and_then u (λ a. cond a (truth_of row r.0) (Ok false))) (l.1 value (sym (key_at key (Cond-F.And l.0 r.0)) ∙ h) ne))
  | Cond-F.Or l r ↦ λ at. subst (λ z. Denies row key (roll-Cond z)) at (λ value h ne. cc (key_at key (Cond-F.Or l.0 r.0), h))
  | Cond-F.Not inner ↦ λ at. subst (λ z. Denies row key (roll-Cond z)) at (λ value h ne. cc (key_at key (Cond-F.Not inner.0), h))
]) is)

get-column : (row : List Value) (column : ℕ) → column < length row → slice_get row column ≡ Some (column_of row column)
get-column [] column h = absurd (omega (arith, h))
get-column (v ∷ row) zero h = refl
get-column (v ∷ row) (suc column) h = get-column row column (omega arith)

-- WITH ANOTHER VALUE
abbrev Names : List Value → ℕ → Cond → Type 0
Names row key c = (value : Value) → key_of key c ≡ Some value → is_typed (kinds_of row) c ≡ true → key < length row

within : (row : List Value) (key : ℕ) → is_some (slice_get (kinds_of row) key) ≡ true → key < length row
within [] key e = absurd (cc)
within (v ∷ row) zero e = omega arith
within (v ∷ row) (suc key) e = let rest : key < length row = within row key e in omega (arith, rest)

comparable_left : (k l : Option Kind) → are_comparable k l ≡ true → is_some k ≡ true
comparable_left None l e = absurd (cc)
comparable_left (Some k) l e = refl

comparable_right : (k l : Option Kind) → are_comparable k l ≡ true → is_some l ≡ true
comparable_right (Some kind.Int) None e = absurd (cc)
comparable_right (Some kind.Text) None e = absurd (cc)
comparable_right None None e = absurd (cc)
comparable_right k (Some l) e = refl

names_equal : (row : List Value) (key : ℕ) (l r : Expr) (value : Value) → literal_of key l r ≡ Some value → are_comparable (kind_of (kinds_of row) l) (kind_of (kinds_of row) r) ≡ true → key < length row
names_equal row key (Col column) (Lit v) value h e =
    let same : (column ≡ key) × (v ≡ value) = named column key v value h in
    subst (λ k. k < length row) same.0 (within row column (ap is_some (sym (kind_of-col (kinds_of row) column)) ∙ comparable_left (kind_of (kinds_of row) (Col column)) (kind_of (kinds_of row) (Lit v)) e))
names_equal row key (Lit v) (Col column) value h e =
    let same : (column ≡ key) × (v ≡ value) = named column key v value h in
    subst (λ k. k < length row) same.0 (within row column (ap is_some (sym (kind_of-col (kinds_of row) column)) ∙ comparable_right (kind_of (kinds_of row) (Lit v)) (kind_of (kinds_of row) (Col column)) e))
names_equal row key _ _ value h e = cc

names_step : (row : List Value) (key : ℕ) (o : CmpOp) (l r : Expr) (value : Value) → key_step key (Cond-F.Cmp o l r) ≡ Some value → typed_step (kinds_of row) (Cond-F.Cmp o l r) ≡ true → key < length row
names_step row key op.Eq l r value h e = names_equal row key l r value h e
names_step row key _ l r value h e = cc

typed_at : (kinds : List Kind) (x : Cond-F Cond) → is_typed kinds (roll-Cond x) ≡ typed_step kinds (map-Cond Cond Bool (is_typed kinds) x)
typed_at kinds x = fold-roll-Cond Bool (typed_step kinds) x

-- a typed condition names a column that the row has
names : (row : List Value) (key : ℕ) (c : Cond) → Names row key c
names row key = ind-Cond (Names row key) (λ x y is. (elim y as (λ u. map-Cond _ Cond (λ e. e.0) u ≡ x → Names row key (roll-Cond x)) [
  | Cond-F.Cmp o l r ↦ λ at. subst (λ z. Names row key (roll-Cond z)) at (λ value h e.
      names_step row key o l r value (sym (key_at key (Cond-F.Cmp o l r)) ∙ h) (sym (typed_at (kinds_of row) (Cond-F.Cmp o l r)) ∙ e))
  | Cond-F.And l r ↦ λ at. subst (λ z. Names row key (roll-Cond z)) at (λ value h e.
      l.1 value (sym (key_at key (Cond-F.And l.0 r.0)) ∙ h) (and_parts (is_typed (kinds_of row) l.0) (is_typed (kinds_of row) r.0) (sym (typed_at (kinds_of row) (Cond-F.And l.0 r.0)) ∙ e)).0)
  | Cond-F.Or l r ↦ λ at. subst (λ z. Names row key (roll-Cond z)) at (λ value h e. cc (key_at key (Cond-F.Or l.0 r.0), h))
  | Cond-F.Not inner ↦ λ at. subst (λ z. Names row key (roll-Cond z)) at (λ value h e. cc (key_at key (Cond-F.Not inner.0), h))
]) is)

-- on a row with another value in the column the condition is false
pub denied : (column : ℕ) (c : Cond) (key : Option Value) → key_of column c ≡ key → IfSome key (λ value. (row : List Value) → IsTyped (kinds_of row) c → slice_get row column ≢ Some value → truth_of row c ≡ Ok false)
denied column c None is = tt
denied column c (Some value) is = λ row typed other.
    denies row column c value is (λ e. other (get-column row column (names row column c value is typed) ∙ ap Some e))

outside_key : (n column : ℕ) (c : Cond) (key : Option Value) → key_of column c ≡ key → IsFalseOutside n (By column) (Some c) (key_target n key)
outside_key n column c None is row rid within out = absurd out
outside_key n column c (Some value) is row rid within out =
    denies row column c value is (λ e. out (ap (key_place n) (get-column row column within ∙ ap Some e)))

-- outside its target a condition is false
pub target_of-outside : (n : ℕ) (dist : Dist) (cond : Option Cond) → IsFalseOutside n dist cond (target_of n dist cond)
target_of-outside n (By column) (Some c) = outside_key n column c (key_of column c) refl
target_of-outside n (By column) None = λ place h. h
target_of-outside n Randomly (Some c) = λ row rid within out. absurd out
target_of-outside n Randomly None = λ place h. h
