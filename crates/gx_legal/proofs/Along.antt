-- Rows that are computed one item after another.
use Rattle.std.proofs.Common.{◌≡◌, ◌<◌, ◌+◌, ◌∙◌, ℕ, List, [], ◌∷◌, ◌++◌, Result, Ok, Err, length, drop, get_or, ap, append_assoc, refl, sym}
use Rattle.std.proofs.lemmas.List.{drop_more}
use Rattle.std.specs.Prelude.{slice_set}
use Rattle.gx_meaning.specs.declared.fault.ArithFault.{ArithFault}
use Rattle.gx_meaning.specs.Constants.{constant, each_from, values_of}
use Rattle.gx_meaning.specs.Expressions.{and_then, value_of}
use Rattle.gx_store.specs.Writes.{set_from}
use Rattle.gx_tree.specs.declared.expr.Expr.{Expr}
use Rattle.gx_tree.specs.declared.stmt.Assign.{Assign}
use Rattle.gx_tree.specs.declared.value.Value.{Value}
use Rattle.gx_legal.specs.Numbers.{onto}

pub at-item : {A : Type 0} (xs : List A) (k : ℕ) (x : A) → k < length xs → x ≡ get_or xs k x → drop k xs ≡ x ∷ drop (k + 1) xs
at-item xs k x inside is = drop_more xs k x inside ∙ ap (λ y. y ∷ drop (k + 1) xs) (sym is)

onto-more : {A : Type 0} (done : List A) (y : A) (r : Result (List A) ArithFault) → onto (done ++ y ∷ []) r ≡ onto done (and_then r (λ ys. Ok (y ∷ ys)))
onto-more done y (Ok more) = ap Ok (append_assoc done (y ∷ []) more)
onto-more done y (Err fault) = refl

-- CONSTANTS
module _ (done : List Value) (k : ℕ) (tuple : List Expr) (x : Expr) where
  abbrev rest : Result (List Value) ArithFault
  rest = each_from constant (k + 1) (drop (k + 1) tuple)

  next : (r : Result Value ArithFault) → k < length tuple → x ≡ get_or tuple k x → onto done (each_from constant k (drop k tuple)) ≡ values_of tuple
      → value_of [] x ≡ r → onto done (and_then r (λ y. and_then rest (λ ys. Ok (y ∷ ys)))) ≡ values_of tuple
  next r inside is whole e =
      sym (ap (λ l. onto done (each_from constant k l)) (at-item tuple k x inside is) ∙ ap (λ (s : Result Value ArithFault). onto done (and_then s (λ y. and_then rest (λ ys. Ok (y ∷ ys))))) e) ∙ whole

  pub constant-faults : (fault : ArithFault) → k < length tuple → x ≡ get_or tuple k x → onto done (each_from constant k (drop k tuple)) ≡ values_of tuple
      → value_of [] x ≡ Err fault → values_of tuple ≡ Err fault
  constant-faults fault inside is whole e = sym (next (Err fault) inside is whole e)

  pub constant-joins : (y : Value) → k < length tuple → x ≡ get_or tuple k x → onto done (each_from constant k (drop k tuple)) ≡ values_of tuple
      → value_of [] x ≡ Ok y → onto (done ++ y ∷ []) rest ≡ values_of tuple
  constant-joins y inside is whole e = onto-more done y rest ∙ next (Ok y) inside is whole e

-- A SET LIST
module _ (old new : List Value) (k : ℕ) (assigns : List Assign) (a : Assign) (whole : Result (List Value) ArithFault) where
  setting : (r : Result Value ArithFault) → k < length assigns → a ≡ get_or assigns k a → set_from old new (drop k assigns) ≡ whole
      → value_of old a.expr ≡ r → and_then r (λ value. set_from old (slice_set new a.col value) (drop (k + 1) assigns)) ≡ whole
  setting r inside is set e =
      sym (ap (set_from old new) (at-item assigns k a inside is) ∙ ap (λ (s : Result Value ArithFault). and_then s (λ value. set_from old (slice_set new a.col value) (drop (k + 1) assigns))) e) ∙ set

  pub assign-faults : (fault : ArithFault) → k < length assigns → a ≡ get_or assigns k a → set_from old new (drop k assigns) ≡ whole → value_of old a.expr ≡ Err fault → whole ≡ Err fault
  assign-faults fault inside is set e = sym (setting (Err fault) inside is set e)

  pub assign-sets : (y : Value) → k < length assigns → a ≡ get_or assigns k a → set_from old new (drop k assigns) ≡ whole → value_of old a.expr ≡ Ok y
      → set_from old (slice_set new a.col y) (drop (k + 1) assigns) ≡ whole
  assign-sets y inside is set e = setting (Ok y) inside is set e
