-- What a command that changes rows makes of a row of its table's kinds.
use Rattle.std.proofs.Common.{◌≡◌, true, IsSome, List, [], ◌∷◌, slice_get, Option, Some, None, Result, Ok, Err, refl, sym, ap, ◌∙◌, subst}
use Rattle.std.specs.Prelude.{IsTrue}
use Rattle.std.specs.List.{AllByRecursion, list_all}
use Rattle.gx_ids.specs.declared.ids.Cid.{Cid}
use Rattle.gx_ids.specs.declared.ids.Gxid.{Gxid}
use Rattle.gx_ids.specs.declared.ids.Table.{Table}
use Rattle.gx_tree.specs.declared.cond.Cond.{Cond}
use Rattle.gx_tree.specs.declared.row.KeyedRow.{KeyedRow}
use Rattle.gx_tree.specs.declared.schema.Kind.{Kind}
use Rattle.gx_tree.specs.declared.schema.Schema.{Schema}
use Rattle.gx_tree.specs.declared.stmt.Assign.{Assign}
use Rattle.gx_tree.specs.declared.value.Value.{Value}
use Rattle.gx_meaning.specs.Expressions.{and_then}
use Rattle.gx_meaning.specs.Kinds.{IsTyped, kind_of, kinds_of}
use Rattle.gx_meaning.specs.declared.fault.ArithFault.{ArithFault}
use Rattle.gx_node.specs.Right.{IsRightFor}
use Rattle.gx_store.specs.Writes.{set_row}
use Rattle.gx_rules.specs.Changes.{new_image}
use Rattle.gx_rules.specs.Fits.{is_right_assign, is_right_cond, is_right_on, is_right_row, kinds_in}
use Rattle.gx_slices.specs.Agrees.{is_right_image}
use Rattle.gx_slices.specs.Changing.{IsRightImage, IsTypedFor, slice_in}
use Rattle.gx_slices.specs.Inserts.{IsRight}
use Rattle.gx_slices.specs.Picked.{AreTypedOn}
use Rattle.gx_slices.specs.Setting.{AreSettable, IsSettable}
use Rattle.gx_slices.proofs.Lists.{and_parts}
use Rattle.gx_slices.proofs.Rightness.{some_script, typed_by}
use Rattle.gx_rules.proofs.RightRows.{kinds_are, right-on, right-set}
use Rattle.gx_rules.proofs.ValueKinds.{inside-column}

-- A SET LIST
module _ (kinds : List Kind) (old : List Value) (is : kinds_of old ≡ kinds) where
  settable : (assigns : List Assign) → list_all (is_right_assign kinds) assigns ≡ true → AreSettable old assigns
  settable [] e = tt
  settable (a ∷ rest) e =
      let parts = and_parts (is_right_assign kinds a) (list_all (is_right_assign kinds) rest) e in
      let on = right-on kinds a parts.0 in (
        record {
          column = inside-column old a.col on.kind (ap (λ (ks : List Kind). slice_get ks a.col) is ∙ on.column);
          kind = subst IsSome (sym (ap (λ (ks : List Kind). kind_of ks a.expr) is ∙ on.value)) refl;
        },
        settable rest parts.1,
      )

-- THE COMMAND
-- its table has a schema; the SET list, where there is one, and the condition are right for it
record IsRightChange (tables : List Schema) (table : Table) (set : Option (List Assign)) (cond : Option Cond) : Type 0 where
  pub schema : Schema
  pub at : slice_get tables table.0 ≡ Some schema
  pub assigns : (list : List Assign) → set ≡ Some list → list_all (is_right_assign (kinds_in schema)) list ≡ true
  pub condition : is_right_cond (kinds_in schema) cond ≡ true

module _ (tables : List Schema) (g : Gxid) (c : Cid) (table : Table) where
  same_list : (a b : List Assign) → Some a ≡ Some b → a ≡ b
  same_list a b e = cc

  right-change : (set : Option (List Assign)) (cond : Option Cond) → IsRightFor tables g c (slice_in table set cond) true → IsRightChange tables table set cond
  right-change None cond right = either (slice_get tables table.0) refl (right (some_script tables) refl)
    where
      either : (o : Option Schema) → slice_get tables table.0 ≡ o → true ≡ is_right_on g c o (slice_in table None cond) → IsRightChange tables table None cond
      either None at e = absurd (cc)
      either (Some schema) at e = record { schema = schema; at = at; assigns = λ list f. absurd (cc); condition = sym e }
  right-change (Some assigns) cond right = either (slice_get tables table.0) refl (right (some_script tables) refl)
    where
      either : (o : Option Schema) → slice_get tables table.0 ≡ o → true ≡ is_right_on g c o (slice_in table (Some assigns) cond) → IsRightChange tables table (Some assigns) cond
      either None at e = absurd (cc)
      either (Some schema) at e =
          let parts = and_parts (list_all (is_right_assign (kinds_in schema)) assigns) (is_right_cond (kinds_in schema) cond) (sym e) in
          record {
            schema = schema;
            at = at;
            assigns = λ list f. subst (λ (l : List Assign). list_all (is_right_assign (kinds_in schema)) l ≡ true) (same_list assigns list f) parts.0;
            condition = parts.1;
          }

  module _ (set : Option (List Assign)) (cond : Option Cond) (right : IsRightFor tables g c (slice_in table set cond) true) where
    -- on the rows that are shown
    pub typed-shown : (rows : List KeyedRow) → AllByRecursion (IsRight tables table) rows → AreTypedOn cond rows
    typed-shown rows all = let is = right-change set cond right in typed_by tables table is.schema is.at cond is.condition rows all

    module _ (old : List Value) (image : IsRightImage tables table (Some old)) where
      row_right : (is : IsRightChange tables table set cond) → is_right_row (kinds_in is.schema) old ≡ true
      row_right is = subst (λ (o : Option Schema). IsTrue (is_right_image o (Some old))) is.at image

      row_kinds : (is : IsRightChange tables table set cond) → kinds_of old ≡ kinds_in is.schema
      row_kinds is = kinds_are (kinds_in is.schema) old (row_right is)

      -- on one row
      pub typed-row : IsTypedFor cond old
      typed-row = let is = right-change set cond right in either is cond is.condition
        where
          either : (is : IsRightChange tables table set cond) → (o : Option Cond) → is_right_cond (kinds_in is.schema) o ≡ true → IsTypedFor o old
          either is None e = tt
          either is (Some it) e = subst (λ (ks : List Kind). IsTyped ks it) (sym (row_kinds is)) e

      pub settable-row : IsSettable old set
      settable-row = let is = right-change set cond right in either is set is.assigns
        where
          either : (is : IsRightChange tables table set cond) → (o : Option (List Assign)) → ((list : List Assign) → o ≡ Some list → list_all (is_right_assign (kinds_in is.schema)) list ≡ true) → IsSettable old o
          either is None e = tt
          either is (Some assigns) e = settable (kinds_in is.schema) old (row_kinds is) assigns (e assigns refl)

      -- what it makes of the row is of the kinds again
      pub right-made : (made : Option (List Value)) → new_image set old ≡ Ok made → IsRightImage tables table made
      right-made made e = let is = right-change set cond right in subst (λ (o : Option Schema). IsTrue (is_right_image o made)) (sym is.at) (either is set is.assigns e)
        where
          same_image : (a b : Option (List Value)) → (let r : Result (Option (List Value)) ArithFault = Ok a in r) ≡ Ok b → a ≡ b
          same_image a b f = cc

          by_row : (is : IsRightChange tables table set cond) (assigns : List Assign) → list_all (is_right_assign (kinds_in is.schema)) assigns ≡ true → (r : Result (List Value) ArithFault) → set_row assigns old ≡ r → and_then r (λ new. Ok (Some new)) ≡ Ok made → IsTrue (is_right_image (Some is.schema) made)
          by_row is assigns all (Err fault) p f = absurd (cc)
          by_row is assigns all (Ok new) p f = subst (λ (o : Option (List Value)). IsTrue (is_right_image (Some is.schema) o)) (same_image (Some new) made f) (right-set (kinds_in is.schema) old (row_kinds is) assigns old new (row_right is) all p)

          either : (is : IsRightChange tables table set cond) → (o : Option (List Assign)) → ((list : List Assign) → o ≡ Some list → list_all (is_right_assign (kinds_in is.schema)) list ≡ true) → new_image o old ≡ Ok made → IsTrue (is_right_image (Some is.schema) made)
          either is None all f = subst (λ (o : Option (List Value)). IsTrue (is_right_image (Some is.schema) o)) (same_image None made f) refl
          either is (Some assigns) all f = by_row is assigns (all assigns refl) (set_row assigns old) refl f
