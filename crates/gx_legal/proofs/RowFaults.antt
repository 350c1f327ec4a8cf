-- The tests of faults decide the definitions.
use Rattle.std.proofs.Common.{◌≡◌, ◌∙◌, inl, inr, ℕ, zero, suc, ◌==◌, ◌-◌, ◌<◌, true, not, take, List, [], ◌∷◌, slice_get, Option, Some, None, Result, Ok, Err, refl, sym, ap, subst, arith}
use Rattle.std.proofs.lemmas.Bool.{and_from, not-true, not_from_false}
use Rattle.gx_ids.specs.declared.ids.Gxid.{Gxid}
use Rattle.gx_ids.specs.declared.ids.Cid.{Cid}
use Rattle.gx_ids.specs.declared.ids.Table.{Table}
use Rattle.gx_ids.specs.declared.rid.Rid.{Rid}
use Rattle.gx_lemmas.proofs.Numbers.{eqb-of}
use Rattle.gx_lemmas.proofs.Tests.{and-first, and-second}
use Rattle.gx_tree.specs.declared.cond.Cond.{Cond}
use Rattle.gx_tree.specs.declared.expr.Expr.{Expr}
use Rattle.gx_tree.specs.declared.stmt.Assign.{Assign}
use Rattle.gx_tree.specs.declared.stmt.Level.{Level}
use Rattle.gx_tree.specs.declared.stmt.Stmt.{Stmt}
use Rattle.gx_tree.specs.declared.stmt.Stmt.TheVariants.{Select, Insert, Update, Delete}
use Rattle.gx_tree.specs.declared.value.Value.{Value}
use Rattle.gx_meaning.specs.Constants.{values_of}
use Rattle.gx_meaning.specs.declared.fault.ArithFault.{ArithFault}
use Rattle.gx_meaning.specs.declared.fault.ArithFault.TheVariants.{Overflow, DivisionByZero}
use Rattle.gx_store.specs.declared.mark.Mark.{Mark}
use Rattle.gx_store.specs.Commands.{condition_on}
use Rattle.gx_store.specs.Faults.{FaultsInConstants, FaultsInSet, FaultsOnCurrent, FaultsOnSeen, IsFaultOf}
use Rattle.gx_store.specs.Marks.{is_same_gxid, is_sent}
use Rattle.gx_store.specs.Writes.{Written, set_row}
use Rattle.gx_legal.specs.Changed.{is_changed, is_gone, is_read_committed}
use Rattle.gx_legal.specs.Faulted.{are_whole, is_constant_fault, is_current_fault, is_fault, is_image_fault, is_same_fault, is_seen_fault, is_set_fault, is_stmt_fault, is_tuple_fault, is_whole, is_write_fault}
use Rattle.gx_legal.specs.Images.{is_same_image}
use Rattle.gx_legal.specs.Inserted.{is_own}
use Rattle.gx_legal.specs.Selected.{free_write, image_at, is_chosen_at}
use Rattle.gx_legal.specs.Viewed.{view_rows}
use Rattle.gx_legal.proofs.Changes.{changed-is, is-changed}
use Rattle.gx_legal.proofs.Decided.{no_more}
use Rattle.gx_legal.proofs.Equal.{images-decided}
use Rattle.gx_legal.proofs.Lateness.{at-least, is-at-least}
use Rattle.gx_legal.proofs.Selections.{chosen-of, free-of, selected-by, selected-chosen, selected-free}
use Rattle.gx_legal.proofs.Skipping.{read-committed-is}
use Rattle.gx_legal.proofs.Snapshots.{any-snapshot, cid-same, gxid-same, or-either, or-first, or-second, snapshot-any}
use Rattle.gx_legal.proofs.Views.{view-is}

-- ONE FAULT
fault-same : (a b : ArithFault) → is_same_fault a b ≡ true → a ≡ b
fault-same Overflow Overflow e = refl
fault-same DivisionByZero DivisionByZero e = refl
fault-same Overflow DivisionByZero e = no_more _ e
fault-same DivisionByZero Overflow e = no_more _ e

same-fault : (a : ArithFault) → is_same_fault a a ≡ true
same-fault Overflow = refl
same-fault DivisionByZero = refl

fault-is : {A : Type 0} (o : Result A ArithFault) (fault : ArithFault) → is_fault o fault ≡ true → o ≡ Err fault
fault-is (Ok value) fault e = no_more _ e
fault-is (Err given) fault e = ap Err (fault-same given fault e)

is-fault : {A : Type 0} (o : Result A ArithFault) (fault : ArithFault) → o ≡ Err fault → is_fault o fault ≡ true
is-fault o fault e = ap (λ r. is_fault r fault) e ∙ same-fault fault

record ImageFault (cond : Option Cond) (meant : Option (List Value)) (fault : ArithFault) (image : Option (List Value)) : Type 0 where
  row : List Value
  there : image ≡ Some row
  meant_row : meant ≡ Some row
  faults : condition_on cond row ≡ Err fault

module _ (cond : Option Cond) (meant : Option (List Value)) (fault : ArithFault) where
  image-fault : (image : Option (List Value)) → is_image_fault cond meant fault image ≡ true → ImageFault cond meant fault image
  image-fault None e = no_more _ e
  image-fault (Some row) e = record {
    row = row;
    there = refl;
    meant_row = (images-decided meant (Some row)).0 (and-first (is_same_image meant (Some row)) _ e);
    faults = fault-is (condition_on cond row) fault (and-second (is_same_image meant (Some row)) _ e);
  }

  fault-image : (image : Option (List Value)) (row : List Value) → image ≡ Some row → meant ≡ Some row → condition_on cond row ≡ Err fault → is_image_fault cond meant fault image ≡ true
  fault-image image row there same faults =
      ap (is_image_fault cond meant fault) there ∙ and_from (is_same_image meant (Some row)) _ ((images-decided meant (Some row)).1 same) (is-fault (condition_on cond row) fault faults)

module _ (marks : List Mark) (level : Level) (g : Gxid) (c : Cid) (table : Table) (cond : Option Cond) (rid : Rid) (meant : Option (List Value)) (fault : ArithFault) where
  -- ON WHAT IS SEEN
  seen-is : is_seen_fault marks level g c table cond rid meant fault ≡ true → FaultsOnSeen marks level g c table cond rid meant fault
  seen-is e =
      let by = any-snapshot marks level g c (λ place. is_image_fault cond meant fault (image_at marks g c table rid place)) e in
      let f = image-fault cond meant fault (image_at marks g c table rid by.0) by.2 in
      let view = view-is marks (take by.0 marks) (Some (g, c)) table in
      record {
        rows = view_rows marks (take by.0 marks) (Some (g, c)) table;
        sees = record { place = by.0; taken = by.1; view = view };
        row = f.row;
        shown = view.images rid ∙ f.there;
        meant = f.meant_row;
        faults = f.faults;
      }

  is-seen : FaultsOnSeen marks level g c table cond rid meant fault → is_seen_fault marks level g c table cond rid meant fault ≡ true
  is-seen f =
      snapshot-any marks level g c (λ place. is_image_fault cond meant fault (image_at marks g c table rid place)) f.sees.place f.sees.taken
      (fault-image cond meant fault (image_at marks g c table rid f.sees.place) f.row (sym (f.sees.view.images rid) ∙ f.shown) f.meant f.faults)

  -- ON THE CURRENT IMAGE
  write-fault : (o : Option Written) → is_write_fault cond meant fault o ≡ true → (w : Written) × (o ≡ Some w) × (is_image_fault cond meant fault w.image ≡ true)
  write-fault None e = no_more _ e
  write-fault (Some w) e = (w, refl, e)

  current-is : is_current_fault marks level g c table cond rid meant fault ≡ true → FaultsOnCurrent marks level g c table cond rid meant fault
  current-is e =
      let rest = and-second (is_read_committed level) _ e in
      let w = write-fault (free_write marks g rid) (and-first (is_write_fault cond meant fault (free_write marks g rid)) _ rest) in
      let by = any-snapshot marks level g c (is_chosen_at marks g c table cond rid) (and-second (is_write_fault cond meant fault (free_write marks g rid)) _ rest) in
      let f = image-fault cond meant fault w.0.image w.2 in
      record {
        isolation = read-committed-is level (and-first (is_read_committed level) _ e);
        selected = selected-by marks level g c table cond rid by.0 by.1 (chosen-of marks level g c table cond rid by.0 by.2) w.0 (free-of marks level g c table cond rid w.0 w.1);
        old = f.row;
        image_before = f.there;
        meant = f.meant_row;
        faults = f.faults;
      }

  is-current : FaultsOnCurrent marks level g c table cond rid meant fault → is_current_fault marks level g c table cond rid meant fault ≡ true
  is-current f =
      let s = f.selected in
      let written = ap (is_write_fault cond meant fault) (selected-free marks level g c table cond rid s) ∙ fault-image cond meant fault s.write.image f.old f.image_before f.meant f.faults in
      and_from (is_read_committed level) _ (ap is_read_committed f.isolation)
      (and_from (is_write_fault cond meant fault (free_write marks g rid)) _ written
      (snapshot-any marks level g c (is_chosen_at marks g c table cond rid) s.place s.taken (selected-chosen marks level g c table cond rid s)))

  -- IN THE SET LIST
  set-is : (assigns : List Assign) → is_changed marks level g c table cond rid (is_set_fault assigns meant fault) ≡ true → FaultsInSet marks level g c table assigns cond rid meant fault
  set-is assigns e =
      let m = changed-is marks level g c table cond rid (is_set_fault assigns meant fault) e in
      record {
        selected = m.selected;
        old = m.old;
        image_before = m.image_before;
        current = m.current;
        meant = (images-decided meant (Some m.old)).0 (and-first (is_same_image meant (Some m.old)) _ m.tested);
        faults = fault-is (set_row assigns m.old) fault (and-second (is_same_image meant (Some m.old)) _ m.tested);
      }

  is-set : (assigns : List Assign) → FaultsInSet marks level g c table assigns cond rid meant fault → is_changed marks level g c table cond rid (is_set_fault assigns meant fault) ≡ true
  is-set assigns f =
      is-changed marks level g c table cond rid (is_set_fault assigns meant fault)
      (record {
        selected = f.selected;
        old = f.old;
        image_before = f.image_before;
        current = f.current;
        tested = and_from (is_same_image meant (Some f.old)) _ ((images-decided meant (Some f.old)).1 f.meant) (is-fault (set_row assigns f.old) fault f.faults);
      })

-- IN THE CONSTANTS
abbrev Values : List Expr → Type 0
Values tuple = (values : List Value) × (values_of tuple ≡ Ok values)

whole-is : (o : Result (List Value) ArithFault) → is_whole o ≡ true → (values : List Value) × (o ≡ Ok values)
whole-is (Ok values) e = (values, refl)
whole-is (Err fault) e = no_more _ e

all-before : (n : ℕ) (tuples : List (List Expr)) → are_whole (take n tuples) ≡ true → (k : ℕ) (tuple : List Expr) → k < n → slice_get tuples k ≡ Some tuple → Values tuple
all-before n [] e k tuple lower at = absurd (none k tuple at)
  where
    none : (k : ℕ) (tuple : List Expr) → slice_get [] k ≡ Some tuple → ⊥
    none k tuple at = cc
all-before zero (t ∷ ts) e k tuple lower at = absurd (omega (arith, lower))
all-before (suc n) (t ∷ ts) e zero tuple lower at =
    subst Values (first t tuple at) (whole-is (values_of t) (and-first (is_whole (values_of t)) _ e))
  where
    first : (t tuple : List Expr) → Some t ≡ Some tuple → t ≡ tuple
    first t tuple at = cc
all-before (suc n) (t ∷ ts) e (suc k) tuple lower at = all-before n ts (and-second (is_whole (values_of t)) _ e) k tuple (omega (arith, lower)) at

before-all : (n : ℕ) (tuples : List (List Expr)) → ((k : ℕ) (tuple : List Expr) → k < n → slice_get tuples k ≡ Some tuple → Values tuple) → are_whole (take n tuples) ≡ true
before-all zero tuples all = nothing tuples
  where
    nothing : (tuples : List (List Expr)) → are_whole (take 0 tuples) ≡ true
    nothing [] = refl
    nothing (t ∷ ts) = refl
before-all (suc n) [] all = refl
before-all (suc n) (t ∷ ts) all =
    and_from (is_whole (values_of t)) _ (ap is_whole (all 0 t (omega arith) refl).1) (before-all n ts (λ k tuple lower at. all (suc k) tuple (omega (arith, lower)) at))

module _ (g : Gxid) (c : Cid) (tuples : List (List Expr)) (rid : Rid) (meant : Option (List Value)) (fault : ArithFault) where
  tuple-is : (o : Option (List Expr)) → is_tuple_fault fault o ≡ true → (tuple : List Expr) × (o ≡ Some tuple) × (values_of tuple ≡ Err fault)
  tuple-is None e = no_more _ e
  tuple-is (Some tuple) e = (tuple, refl, fault-is (values_of tuple) fault e)

  none-is : (image : Option (List Value)) → is_gone image [] ≡ true → image ≡ None
  none-is None e = refl
  none-is (Some row) e = no_more _ e

  constant-is : (marks : List Mark) → is_constant_fault marks g c tuples rid meant fault ≡ true → FaultsInConstants marks g c tuples rid meant fault
  constant-is marks e =
      let own = and-first (is_own g c rid) _ e in
      let rest = and-second (is_own g c rid) _ e in
      let more = and-second (is_same_gxid rid.gxid g) _ own in
      let unsent = and-second (is_gone meant []) _ rest in
      let last = and-second (not (is_sent marks g c)) _ unsent in
      let tuple = tuple-is (slice_get tuples (rid.ordinal - 1)) (and-first (is_tuple_fault fault (slice_get tuples (rid.ordinal - 1))) _ last) in
      record {
        own = (gxid-same rid.gxid g (and-first (is_same_gxid rid.gxid g) _ own), cid-same rid.cid c (and-first (rid.cid.0 == c.0) _ more));
        counted = at-least 1 rid.ordinal (and-second (rid.cid.0 == c.0) _ more);
        tuple = tuple.0;
        among = tuple.1;
        faults = tuple.2;
        first = all-before (rid.ordinal - 1) tuples (and-second (is_tuple_fault fault (slice_get tuples (rid.ordinal - 1))) _ last);
        meant = none-is meant (and-first (is_gone meant []) _ rest);
        unsent = not-true _ (and-first (not (is_sent marks g c)) _ unsent);
      }

  is-constant : (marks : List Mark) → FaultsInConstants marks g c tuples rid meant fault → is_constant_fault marks g c tuples rid meant fault ≡ true
  is-constant marks f =
      let own = and_from (is_same_gxid rid.gxid g) _ (eqb-of rid.gxid.0 g.0 (ap (λ (x : Gxid). x.0) f.own.0))
      (and_from (rid.cid.0 == c.0) _ (eqb-of rid.cid.0 c.0 (ap (λ (x : Cid). x.0) f.own.1)) (is-at-least 1 rid.ordinal f.counted)) in
      let tuple = ap (is_tuple_fault fault) f.among ∙ is-fault (values_of f.tuple) fault f.faults in
      and_from (is_own g c rid) _ own
      (and_from (is_gone meant []) _ (ap (λ i. is_gone i []) f.meant)
      (and_from (not (is_sent marks g c)) _ (not_from_false _ f.unsent) (and_from (is_tuple_fault fault (slice_get tuples (rid.ordinal - 1))) _ tuple (before-all (rid.ordinal - 1) tuples f.first))))

module _ (marks : List Mark) (level : Level) (g : Gxid) (c : Cid) where
  pub stmt-fault : (stmt : Stmt) (rid : Rid) (meant : Option (List Value)) (fault : ArithFault) → is_stmt_fault marks level g c stmt rid meant fault ≡ true → IsFaultOf marks level g c stmt rid meant fault
  stmt-fault (Select query) rid meant fault e = seen-is marks level g c query.table query.cond rid meant fault e
  stmt-fault (Insert table tuples) rid meant fault e = constant-is g c tuples rid meant fault marks e
  stmt-fault (Update table assigns cond) rid meant fault e =
      or-either (is_seen_fault marks level g c table cond rid meant fault) _ _ e
      (λ h. inl (seen-is marks level g c table cond rid meant fault h))
      (λ h. inr (or-either (is_current_fault marks level g c table cond rid meant fault) _ _ h
      (λ i. inl (current-is marks level g c table cond rid meant fault i))
      (λ i. inr (set-is marks level g c table cond rid meant fault assigns i))))
  stmt-fault (Delete table cond) rid meant fault e =
      or-either (is_seen_fault marks level g c table cond rid meant fault) _ _ e
      (λ h. inl (seen-is marks level g c table cond rid meant fault h))
      (λ h. inr (current-is marks level g c table cond rid meant fault h))
  stmt-fault _ rid meant fault e = no_more _ e

  pub fault-stmt : (stmt : Stmt) (rid : Rid) (meant : Option (List Value)) (fault : ArithFault) → IsFaultOf marks level g c stmt rid meant fault → is_stmt_fault marks level g c stmt rid meant fault ≡ true
  fault-stmt (Select query) rid meant fault f = is-seen marks level g c query.table query.cond rid meant fault f
  fault-stmt (Insert table tuples) rid meant fault f = is-constant g c tuples rid meant fault marks f
  fault-stmt (Update table assigns cond) rid meant fault (inl f) = or-first (is_seen_fault marks level g c table cond rid meant fault) _ (is-seen marks level g c table cond rid meant fault f)
  fault-stmt (Update table assigns cond) rid meant fault (inr (inl f)) =
      or-second (is_seen_fault marks level g c table cond rid meant fault) _
      (or-first (is_current_fault marks level g c table cond rid meant fault) _ (is-current marks level g c table cond rid meant fault f))
  fault-stmt (Update table assigns cond) rid meant fault (inr (inr f)) =
      or-second (is_seen_fault marks level g c table cond rid meant fault) _
      (or-second (is_current_fault marks level g c table cond rid meant fault) _ (is-set marks level g c table cond rid meant fault assigns f))
  fault-stmt (Delete table cond) rid meant fault (inl f) = or-first (is_seen_fault marks level g c table cond rid meant fault) _ (is-seen marks level g c table cond rid meant fault f)
  fault-stmt (Delete table cond) rid meant fault (inr f) = or-second (is_seen_fault marks level g c table cond rid meant fault) _ (is-current marks level g c table cond rid meant fault f)
  fault-stmt _ rid meant fault e = absurd e
