-- Loops over a list of parts: what was answered so far, and what is left.
use Rattle.std.proofs.Common.{ℕ, suc, ◌≡◌, ◌≢◌, ◌∙◌, ◌+◌, ◌<◌, ◌≤◌, sym, ap, refl, arith, List, [], ◌∷◌, ◌++◌, length, drop, get_or, append_assoc, append-nil, drop-cons, add-one, Ok, Err}
use Rattle.std.proofs.lemmas.List.{drop_all}
use Rattle.gx_tree.specs.declared.expr.Expr.{Expr}
use Rattle.gx_tree.specs.declared.schema.Column.{Column}
use Rattle.gx_grammar.specs.declared.syn.Syn.{Syn}
use Rattle.gx_resolve.specs.declared.fault.NameFault.{NameFault}
use Rattle.gx_resolve.specs.declared.fault.NameFault.TheVariants.{TypeMismatch}
use Rattle.gx_resolve.specs.declared.fault.ResolveError.{ResolveError}
use Rattle.gx_resolve.specs.declared.fault.ResolveError.TheVariants.{Fault, OutOfMemory}
use Rattle.gx_resolve.specs.Results.{Answer, ◌>>=◌, each, Says}
use Rattle.gx_tree.specs.declared.query.Item.{Item}
use Rattle.gx_tree.specs.declared.query.Item.TheVariants as item
use Rattle.gx_tree.specs.declared.schema.Kind.{Kind}
use Rattle.gx_tree.specs.declared.schema.Kind.TheVariants as kind
use Rattle.gx_resolve.specs.Typing.{typed_of}
use Rattle.gx_resolve.specs.declared.typed.Typed.{Typed}
use Rattle.gx_resolve.specs.declared.typed.Typed.TheVariants as typed
use Rattle.gx_resolve.specs.Selecting.{columns_from}
use Rattle.gx_resolve.specs.Kinding.{value_as, constant_as, values_as}

-- an answer behind what there is
abbrev pub onto : {A : Type 0} → List A → Answer (List A) → Answer (List A)
onto ys answer = answer >>= λ zs. Ok (ys ++ zs)

pub onto-nil : {A : Type 0} (answer : Answer (List A)) → onto [] answer ≡ answer
onto-nil (Ok zs) = refl
onto-nil (Err e) = refl

onto-cons : {A : Type 0} (ys : List A) (y : A) (answer : Answer (List A)) → onto ys (answer >>= λ zs. Ok (y ∷ zs)) ≡ onto (ys ++ y ∷ []) answer
onto-cons ys y (Ok zs) = ap (λ l. Ok l) (sym (append_assoc ys (y ∷ []) zs))
onto-cons ys y (Err e) = refl

module _ {A B : Type 0} (f : A → Answer B) where
  cons-ok : (x : A) (xs : List A) (ys : List B) (y : B) → f x ≡ Ok y → onto ys (each f (x ∷ xs)) ≡ onto (ys ++ y ∷ []) (each f xs)
  cons-ok x xs ys y h = rw h (onto-cons ys y (each f xs))

  cons-err : (x : A) (xs : List A) (ys : List B) (e : NameFault) → f x ≡ Err e → onto ys (each f (x ∷ xs)) ≡ Err e
  cons-err x xs ys e h = rw h refl

  pub each_more : (xs : List A) (i : ℕ) (d : A) (ys : List B) (y : B) → i < length xs → f (get_or xs i d) ≡ Ok y → onto ys (each f (drop i xs)) ≡ onto (ys ++ y ∷ []) (each f (drop (i + 1) xs))
  each_more xs i d ys y lt h = rw (add-one, drop-cons xs i d) (cons-ok (get_or xs i d) (drop (suc i) xs) ys y h)

  each_fault : (xs : List A) (i : ℕ) (d : A) (ys : List B) (e : NameFault) → i < length xs → f (get_or xs i d) ≡ Err e → onto ys (each f (drop i xs)) ≡ Err e
  each_fault xs i d ys e lt h = rw (drop-cons xs i d) (cons-err (get_or xs i d) (drop (suc i) xs) ys e h)

  pub each_stop : (error : ResolveError) (xs : List A) (i : ℕ) (d : A) (ys : List B) → onto ys (each f (drop i xs)) ≡ each f xs → i < length xs → Says {X = B} (Err error) (f (get_or xs i d)) → Says {X = List B} (Err error) (each f xs)
  each_stop (Fault fault) xs i d ys inv lt h = sym inv ∙ each_fault xs i d ys fault lt h
  each_stop OutOfMemory xs i d ys inv lt h = tt

  pub each_end : (xs : List A) (i : ℕ) (ys : List B) → onto ys (each f (drop i xs)) ≡ each f xs → length xs ≤ i → each f xs ≡ Ok ys
  each_end xs i ys inv le = sym inv ∙ (rw (drop_all i xs le) (ap (λ l. Ok l) (append-nil ys)))

-- all columns
from_cons : (items : List Item) (i : ℕ) (c : Column) (cs : List Column) → items ++ columns_from i (c ∷ cs) ≡ (items ++ item.Col i ∷ []) ++ columns_from (i + 1) cs
from_cons items i c cs = sym (append_assoc items (item.Col i ∷ []) (columns_from (i + 1) cs))

next_column : (cs : List Column) (i : ℕ) (c : Column) (items : List Item) → i < length cs → items ++ columns_from i (drop i cs) ≡ (items ++ item.Col i ∷ []) ++ columns_from (i + 1) (drop (i + 1) cs)
next_column cs i c items lt = ap (λ l. items ++ columns_from i l) (drop-cons cs i c lt) ∙ from_cons items i (get_or cs i c) (drop (suc i) cs) ∙ rw add-one refl

pub columns_more : (cs : List Column) (i : ℕ) (items : List Item) → i < length cs → items ++ columns_from i (drop i cs) ≡ (items ++ item.Col i ∷ []) ++ columns_from (i + 1) (drop (i + 1) cs)
columns_more [] i items lt = absurd (omega (arith, lt))
columns_more (c ∷ cs) i items lt = next_column (c ∷ cs) i c items lt

-- a tuple's values
more_values : (c : Column) (cs : List Column) (v : Syn) (vs : List Syn) (ys : List Expr) (y : Expr) → constant_as c.kind v ≡ Ok y → onto ys (values_as (c ∷ cs) (v ∷ vs)) ≡ onto (ys ++ y ∷ []) (values_as cs vs)
more_values c cs v vs ys y h = rw h (onto-cons ys y (values_as cs vs))

no_value : (c : Column) (cs : List Column) (v : Syn) (vs : List Syn) (ys : List Expr) (e : NameFault) → constant_as c.kind v ≡ Err e → onto ys (values_as (c ∷ cs) (v ∷ vs)) ≡ Err e
no_value c cs v vs ys e h = rw h refl

pub values_more : (cs : List Column) (vs : List Syn) (i : ℕ) (c : Column) (v : Syn) (ys : List Expr) (y : Expr) → i < length cs → i < length vs → constant_as (get_or cs i c).kind (get_or vs i v) ≡ Ok y
    → onto ys (values_as (drop i cs) (drop i vs)) ≡ onto (ys ++ y ∷ []) (values_as (drop (i + 1) cs) (drop (i + 1) vs))
values_more cs vs i c v ys y lt below h = rw (add-one, drop-cons cs i c, drop-cons vs i v) (more_values (get_or cs i c) (drop (suc i) cs) (get_or vs i v) (drop (suc i) vs) ys y h)

values_fault : (cs : List Column) (vs : List Syn) (i : ℕ) (c : Column) (v : Syn) (ys : List Expr) (e : NameFault) → i < length cs → i < length vs → constant_as (get_or cs i c).kind (get_or vs i v) ≡ Err e
    → onto ys (values_as (drop i cs) (drop i vs)) ≡ Err e
values_fault cs vs i c v ys e lt below h = rw (drop-cons cs i c, drop-cons vs i v) (no_value (get_or cs i c) (drop (suc i) cs) (get_or vs i v) (drop (suc i) vs) ys e h)

pub values_stop : (error : ResolveError) (cs : List Column) (vs : List Syn) (i : ℕ) (c : Column) (v : Syn) (ys : List Expr) → onto ys (values_as (drop i cs) (drop i vs)) ≡ values_as cs vs → i < length cs → i < length vs
    → Says {X = Expr} (Err error) (constant_as (get_or cs i c).kind (get_or vs i v)) → Says {X = List Expr} (Err error) (values_as cs vs)
values_stop (Fault fault) cs vs i c v ys inv lt below h = sym inv ∙ values_fault cs vs i c v ys fault lt below h
values_stop OutOfMemory cs vs i c v ys inv lt below h = tt

pub values_end : (cs : List Column) (vs : List Syn) (i : ℕ) (ys : List Expr) → onto ys (values_as (drop i cs) (drop i vs)) ≡ values_as cs vs → length cs ≤ i → length vs ≤ i → values_as cs vs ≡ Ok ys
values_end cs vs i ys inv le under = sym inv ∙ (rw (drop_all i cs le, drop_all i vs under) (ap (λ l. Ok l) (append-nil ys)))

value_fault : (k : Kind) (t : Typed) (e : NameFault) → value_as k t ≡ Err e → e ≡ TypeMismatch
value_fault kind.Int (typed.Value kind.Int expr) e h = cc
value_fault kind.Int (typed.Value kind.Text expr) e h = cc
value_fault kind.Text (typed.Value kind.Int expr) e h = cc
value_fault kind.Text (typed.Value kind.Text expr) e h = cc
value_fault kind.Int (typed.Cond cond) e h = cc
value_fault kind.Text (typed.Cond cond) e h = cc
value_fault kind.Int typed.Unknown e h = cc
value_fault kind.Text typed.Unknown e h = cc
value_fault kind.Int typed.Mismatch e h = cc
value_fault kind.Text typed.Mismatch e h = cc

then_fault : (first : Answer Expr) (rest : Answer (List Expr)) → ((e : NameFault) → first ≡ Err e → e ≡ TypeMismatch) → rest ≡ Err TypeMismatch → (first >>= λ y. rest >>= λ ys. Ok (y ∷ ys)) ≡ Err TypeMismatch
then_fault (Ok y) rest only h = rw h refl
then_fault (Err e) rest only h = ap (λ f. Err f) (only e refl)

pub values_apart : (cs : List Column) (vs : List Syn) → length cs ≢ length vs → values_as cs vs ≡ Err TypeMismatch
values_apart [] [] apart = absurd (apart refl)
values_apart [] (v ∷ vs) apart = refl
values_apart (c ∷ cs) [] apart = refl
values_apart (c ∷ cs) (v ∷ vs) apart = then_fault (constant_as c.kind v) (values_as cs vs) (value_fault c.kind (typed_of [] v)) (values_apart cs vs (λ e. apart (ap suc e)))

pub ruleset counts = (values_apart)
