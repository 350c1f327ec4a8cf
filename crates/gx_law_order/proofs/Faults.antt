-- The first constant of an INSERT that faults.
use Rattle.std.proofs.Common.{◌≡◌, ◌<◌, ◌≤◌, ℕ, zero, suc, ◌+◌, false, List, [], ◌∷◌, Some, None, Result, Ok, Err, refl, subst, ap, ◌∙◌, arith}
use Rattle.std.specs.Prelude.{◌-◌, slice_get}
use Rattle.gx_lemmas.proofs.Numbers.{lt-none, same-plus-none}
use Rattle.gx_ids.specs.declared.ids.Cid.{Cid}
use Rattle.gx_ids.specs.declared.ids.Gxid.{Gxid}
use Rattle.gx_tree.specs.declared.expr.Expr.{Expr}
use Rattle.gx_tree.specs.declared.row.KeyedRow.{KeyedRow}
use Rattle.gx_tree.specs.declared.value.Value.{Value}
use Rattle.gx_meaning.specs.Expressions.{and_then}
use Rattle.gx_meaning.specs.declared.fault.ArithFault.{ArithFault}
use Rattle.gx_meaning.specs.Constants.{each_from, keyed, rows_of, tuple_row, values_of}
use Rattle.gx_store.specs.declared.mark.Mark.{Mark}
use Rattle.gx_store.specs.Faults.{FaultsInConstants}
use Rattle.gx_store.specs.Marks.{is_sent}
use Rattle.gx_rules.specs.AtCoordinator.{faulting_from}

record Finds (o : ℕ) (tuples : List (List Expr)) (fault : ArithFault) : Type 0 where
  place : ℕ
  is : faulting_from o tuples ≡ o + place
  tuple : List Expr
  among : slice_get tuples place ≡ Some tuple
  faults : values_of tuple ≡ Err fault
  first : (k : ℕ) (earlier : List Expr) → k < place → slice_get tuples k ≡ Some earlier → (values : List Value) × (values_of earlier ≡ Ok values)

same-fault : {A : Type 0} (x y : ArithFault) → (let a : Result A ArithFault = Err x in a) ≡ Err y → x ≡ y
same-fault x y e = cc

finds : (g : Gxid) (c : Cid) (o : ℕ) (tuples : List (List Expr)) (fault : ArithFault) → each_from (tuple_row g c) o tuples ≡ Err fault → Finds o tuples fault
finds g c o [] fault e = absurd (differ e)
  where
    differ : (let a : Result (List KeyedRow) ArithFault = Ok [] in a) ≡ Err fault → ⊥
    differ e = cc
finds g c o (t ∷ ts) fault e = by_value (values_of t) refl e (λ f h. finds g c (o + 1) ts f h)
  where
    further : (a p : ℕ) → a + 1 + p ≡ a + suc p
    further a p = omega arith

    here : (x : ArithFault) → values_of t ≡ Err x → faulting_from o (t ∷ ts) ≡ o
    here x v = rw v refl

    later : (vs : List Value) → values_of t ≡ Ok vs → faulting_from o (t ∷ ts) ≡ faulting_from (o + 1) ts
    later vs v = rw v refl

    less : (k p : ℕ) → suc k < suc p → k < p
    less k p l = omega arith

    some-same : (a b : List Expr) → Some a ≡ Some b → a ≡ b
    some-same a b h = cc

    first-of : (vs : List Value) → values_of t ≡ Ok vs → (f : Finds (o + 1) ts fault) → (k : ℕ) (earlier : List Expr) → k < suc f.place → slice_get (t ∷ ts) k ≡ Some earlier → (values : List Value) × (values_of earlier ≡ Ok values)
    first-of vs v f zero earlier l h = (vs, subst (λ x. values_of x ≡ Ok vs) (some-same t earlier h) v)
    first-of vs v f (suc k) earlier l h = f.first k earlier (less k f.place l) h

    more : (vs : List Value) → values_of t ≡ Ok vs → Finds (o + 1) ts fault → Finds o (t ∷ ts) fault
    more vs v f = record { place = suc f.place; is = later vs v ∙ f.is ∙ further o f.place; tuple = f.tuple; among = f.among; faults = f.faults; first = first-of vs v f }

    by_rest : (r : Result (List KeyedRow) ArithFault) → (row : KeyedRow) → and_then r (λ ys. Ok (row ∷ ys)) ≡ Err fault → r ≡ Err fault
    by_rest (Ok ys) row h = absurd (differ h)
      where
        differ : (let a : Result (List KeyedRow) ArithFault = Ok (row ∷ ys) in a) ≡ Err fault → ⊥
        differ h = cc
    by_rest (Err f) row h = ap (λ x. let a : Result (List KeyedRow) ArithFault = Err x in a) (same-fault f fault h)

    by_value : (v : Result (List Value) ArithFault) → values_of t ≡ v → and_then (and_then v (λ row. Ok (keyed g c o row))) (λ y. and_then (each_from (tuple_row g c) (o + 1) ts) (λ ys. Ok (y ∷ ys))) ≡ Err fault → ((f : ArithFault) → each_from (tuple_row g c) (o + 1) ts ≡ Err f → Finds (o + 1) ts f) → Finds o (t ∷ ts) fault
    by_value (Err x) v h rest =
        record { place = 0; is = here x v ∙ same-plus-none o; tuple = t; among = refl; faults = v ∙ ap (λ q. let a : Result (List Value) ArithFault = Err q in a) (same-fault x fault h); first = λ k earlier l m. absurd (lt-none k l) }
    by_value (Ok vs) v h rest = more vs v (rest fault (by_rest (each_from (tuple_row g c) (o + 1) ts) (keyed g c o vs) h))

pub constants-fault : (marks : List Mark) (g : Gxid) (c : Cid) (tuples : List (List Expr)) (fault : ArithFault) → is_sent marks g c ≡ false → rows_of g c tuples ≡ Err fault → FaultsInConstants marks g c tuples (record { gxid = g; cid = c; ordinal = faulting_from 1 tuples }) None fault
constants-fault marks g c tuples fault unsent e = of (finds g c 1 tuples fault e)
  where
    counted : (a p : ℕ) → a ≡ 1 + p → 1 ≤ a
    counted a p h = omega arith

    back : (a p : ℕ) → a ≡ 1 + p → a - 1 ≡ p
    back a p h = omega arith

    of : Finds 1 tuples fault → FaultsInConstants marks g c tuples (record { gxid = g; cid = c; ordinal = faulting_from 1 tuples }) None fault
    of f =
        record {
          own = (refl, refl);
          counted = counted _ f.place f.is;
          tuple = f.tuple;
          among = ap (slice_get tuples) (back _ f.place f.is) ∙ f.among;
          faults = f.faults;
          first = λ k earlier l h. f.first k earlier (subst (λ i. k < i) (back _ f.place f.is) l) h;
          meant = refl;
          unsent = unsent;
        }
