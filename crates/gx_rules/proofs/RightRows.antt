-- A row of its table's kinds stays so where a SET list that is right for the table is written over it.
use Rattle.std.proofs.Common.{◌≡◌, ℕ, zero, suc, Bool, true, ◌&&◌, List, [], ◌∷◌, slice_get, Option, Some, None, Result, Ok, Err, refl, ap, ◌∙◌, subst}
use Rattle.std.proofs.lemmas.Bool.{and_parts}
use Rattle.std.specs.Prelude.{slice_set}
use Rattle.std.specs.List.{list_all}
use Rattle.gx_tree.specs.declared.schema.Kind.{Kind}
use Rattle.gx_tree.specs.declared.schema.Kind.TheVariants.{Int, Text}
use Rattle.gx_tree.specs.declared.stmt.Assign.{Assign}
use Rattle.gx_tree.specs.declared.value.Value.{Value}
use Rattle.gx_meaning.specs.Expressions.{and_then, value_of}
use Rattle.gx_meaning.specs.Kinds.{kind_of, kinds_of, value_kind}
use Rattle.gx_meaning.specs.declared.fault.ArithFault.{ArithFault}
use Rattle.gx_store.specs.Writes.{set_from}
use Rattle.gx_rules.specs.Fits.{is_right_assign, is_right_kind, is_right_row, is_same_kind}
use Rattle.gx_rules.proofs.ValueKinds.{kind-value}

-- KINDS
pub same_kind : (k l : Kind) → is_same_kind k l ≡ true → l ≡ k
same_kind Int Int e = refl
same_kind Text Text e = refl
same_kind Int Text e = absurd (cc)
same_kind Text Int e = absurd (cc)

pub kinds_are : (kinds : List Kind) (row : List Value) → is_right_row kinds row ≡ true → kinds_of row ≡ kinds
kinds_are [] [] e = refl
kinds_are [] (v ∷ vs) e = absurd (cc)
kinds_are (k ∷ ks) [] e = absurd (cc)
kinds_are (k ∷ ks) (v ∷ vs) e =
    let parts = and_parts (is_same_kind k (value_kind v)) (is_right_row ks vs) e in
    ap (λ (l : Kind). l ∷ kinds_of vs) (same_kind k (value_kind v) parts.0) ∙ ap (λ (ls : List Kind). k ∷ ls) (kinds_are ks vs parts.1)

-- A SET LIST
same_row : (a b : List Value) → (let r : Result (List Value) ArithFault = Ok a in r) ≡ Ok b → a ≡ b
same_row a b e = cc

-- an assignment that is right: its column's kind is its expression's
pub record IsRightOn (kinds : List Kind) (a : Assign) : Type 0 where
  pub kind : Kind
  pub column : slice_get kinds a.col ≡ Some kind
  pub value : kind_of kinds a.expr ≡ Some kind

pub right-on : (kinds : List Kind) (a : Assign) → is_right_assign kinds a ≡ true → IsRightOn kinds a
right-on kinds a e = by_kinds (slice_get kinds a.col) refl (kind_of kinds a.expr) refl e
  where
    by_kinds : (o : Option Kind) → slice_get kinds a.col ≡ o → (x : Option Kind) → kind_of kinds a.expr ≡ x → is_right_kind o x ≡ true → IsRightOn kinds a
    by_kinds None p x q f = absurd (cc)
    by_kinds (Some k) p None q f = absurd (cc)
    by_kinds (Some k) p (Some l) q f = record { kind = k; column = p; value = q ∙ ap (λ (m : Kind). Some m) (same_kind k l f) }

same_kind-itself : (k : Kind) → is_same_kind k k ≡ true
same_kind-itself Int = refl
same_kind-itself Text = refl

right-placed : (kinds : List Kind) (row : List Value) (column : ℕ) (value : Value) (k : Kind) → is_right_row kinds row ≡ true → slice_get kinds column ≡ Some k → is_same_kind k (value_kind value) ≡ true → is_right_row kinds (slice_set row column value) ≡ true
right-placed [] [] column value k right at e = right
right-placed [] (v ∷ vs) column value k right at e = absurd (cc)
right-placed (l ∷ ls) [] column value k right at e = absurd (cc)
right-placed (l ∷ ls) (v ∷ vs) zero value k right at e =
    let parts = and_parts (is_same_kind l (value_kind v)) (is_right_row ls vs) right in
    ap (λ (m : Kind). is_same_kind m (value_kind value) && is_right_row ls vs) (same l k at) ∙ ap (λ (b : Bool). b && is_right_row ls vs) e ∙ parts.1
  where
    same : (l k : Kind) → Some l ≡ Some k → l ≡ k
    same l k f = cc
right-placed (l ∷ ls) (v ∷ vs) (suc column) value k right at e =
    let parts = and_parts (is_same_kind l (value_kind v)) (is_right_row ls vs) right in
    ap (λ (b : Bool). b && is_right_row ls (slice_set vs column value)) parts.0 ∙ right-placed ls vs column value k parts.1 at e

module _ (kinds : List Kind) (old : List Value) (is : kinds_of old ≡ kinds) where
  pub right-set : (assigns : List Assign) (new made : List Value) → is_right_row kinds new ≡ true → list_all (is_right_assign kinds) assigns ≡ true → set_from old new assigns ≡ Ok made → is_right_row kinds made ≡ true
  right-set [] new made right e set = subst (λ (row : List Value). is_right_row kinds row ≡ true) (same_row new made set) right
  right-set (a ∷ rest) new made right e set =
      let parts = and_parts (is_right_assign kinds a) (list_all (is_right_assign kinds) rest) e in
      let on = right-on kinds a parts.0 in
      by_value on (value_of old a.expr) refl (λ value placed. right-set rest (slice_set new a.col value) made placed parts.1) set
    where
      by_value : IsRightOn kinds a → (r : Result Value ArithFault) → value_of old a.expr ≡ r
          → ((value : Value) → is_right_row kinds (slice_set new a.col value) ≡ true → set_from old (slice_set new a.col value) rest ≡ Ok made → is_right_row kinds made ≡ true)
          → and_then r (λ value. set_from old (slice_set new a.col value) rest) ≡ Ok made → is_right_row kinds made ≡ true
      by_value on (Err fault) p more f = absurd (cc)
      by_value on (Ok value) p more f =
          let of_kind = kind-value old a.expr value on.kind p (ap (λ (ks : List Kind). kind_of ks a.expr) is ∙ on.value) in
          more value (right-placed kinds new a.col value on.kind right on.column (ap (is_same_kind on.kind) of_kind ∙ same_kind-itself on.kind)) f
