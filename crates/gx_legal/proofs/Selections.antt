-- The tests of selected rows decide the definitions.
use Rattle.std.proofs.Common.{◌≡◌, ◌∙◌, ℕ, Bool, true, false, if◌then◌else◌, List, take, Option, Some, None, Result, Ok, Err, refl, sym, ap}
use Rattle.gx_ids.specs.declared.ids.Gxid.{Gxid}
use Rattle.gx_ids.specs.declared.ids.Cid.{Cid}
use Rattle.gx_ids.specs.declared.ids.Table.{Table}
use Rattle.gx_ids.specs.declared.rid.Rid.{Rid}
use Rattle.gx_tree.specs.declared.cond.Cond.{Cond}
use Rattle.gx_tree.specs.declared.stmt.Level.{Level}
use Rattle.gx_tree.specs.declared.value.Value.{Value}
use Rattle.gx_meaning.specs.declared.fault.ArithFault.{ArithFault}
use Rattle.gx_store.specs.declared.mark.Mark.{Mark}
use Rattle.gx_store.specs.Commands.{IsSnapshotAt, condition_on}
use Rattle.gx_store.specs.Writes.{IsSelectedAndFree, Written, current, is_free_for}
use Rattle.gx_legal.specs.Selected.{free_write, if_free, image_at, is_chosen, is_chosen_at, is_met, is_missed}
use Rattle.gx_legal.specs.Viewed.{view_rows}
use Rattle.gx_legal.proofs.Views.{view-is}
use Rattle.gx_legal.proofs.Decided.{no_more}

pub met-is : (o : Result Bool ArithFault) → is_met o ≡ true → o ≡ Ok true
met-is (Ok truth) e = ap Ok e
met-is (Err fault) e = no_more _ e

pub is-met : (o : Result Bool ArithFault) → o ≡ Ok true → is_met o ≡ true
is-met o e = ap is_met e

pub missed-is : (o : Result Bool ArithFault) → is_missed o ≡ true → o ≡ Ok false
missed-is (Ok true) e = no_more _ e
missed-is (Ok false) e = refl
missed-is (Err fault) e = no_more _ e

pub is-missed : (o : Result Bool ArithFault) → o ≡ Ok false → is_missed o ≡ true
is-missed o e = ap is_missed e

pub record Chosen (cond : Option Cond) (image : Option (List Value)) : Type 0 where
  pub row : List Value
  pub there : image ≡ Some row
  pub met : condition_on cond row ≡ Ok true

chosen-row : (cond : Option Cond) (image : Option (List Value)) → is_chosen cond image ≡ true → Chosen cond image
chosen-row cond None e = no_more _ e
chosen-row cond (Some row) e = record { row = row; there = refl; met = met-is (condition_on cond row) e }

row-chosen : (cond : Option Cond) (image : Option (List Value)) (row : List Value) → image ≡ Some row → condition_on cond row ≡ Ok true → is_chosen cond image ≡ true
row-chosen cond image row there met = ap (is_chosen cond) there ∙ is-met (condition_on cond row) met

pub record Free (marks : List Mark) (g : Gxid) (o : Option Written) (w : Written) : Type 0 where
  pub current : o ≡ Some w
  pub free : is_free_for marks g w ≡ true

some-same : {A : Type 0} (a b : A) → Some a ≡ Some b → a ≡ b
some-same a b e = cc

free-parts : (marks : List Mark) (g : Gxid) (o : Option Written) (w : Written) → if_free marks g o ≡ Some w → Free marks g o w
free-parts marks g None w e = absurd (cc)
free-parts marks g (Some v) w e = either (is_free_for marks g v) refl e
  where
    either : (b : Bool) → is_free_for marks g v ≡ b → (if b then Some v else None) ≡ Some w → Free marks g (Some v) w
    either true f h = record { current = h; free = ap (is_free_for marks g) (sym (some-same v w h)) ∙ f }
    either false f h = absurd (cc)

parts-free : (marks : List Mark) (g : Gxid) (o : Option Written) (w : Written) → o ≡ Some w → is_free_for marks g w ≡ true → if_free marks g o ≡ Some w
parts-free marks g o w e f = ap (if_free marks g) e ∙ ap (λ (b : Bool). if b then Some w else None) f

module _ (marks : List Mark) (level : Level) (g : Gxid) (c : Cid) (table : Table) (cond : Option Cond) (rid : Rid) where
  -- what is known of a selected row by the snapshot at a place
  abbrev pub selected-by : (p : ℕ) → IsSnapshotAt marks level g c p → Chosen cond (image_at marks g c table rid p) → (w : Written) → Free marks g (current marks rid) w → IsSelectedAndFree marks level g c table cond rid
  selected-by p taken chosen w free = record {
    place = p;
    taken = taken;
    rows = view_rows marks (take p marks) (Some (g, c)) table;
    view = view-is marks (take p marks) (Some (g, c)) table;
    row = chosen.row;
    shown = (view-is marks (take p marks) (Some (g, c)) table).images rid ∙ chosen.there;
    chosen = chosen.met;
    write = w;
    current = free.current;
    free = free.free;
  }

  pub chosen-of : (p : ℕ) → is_chosen_at marks g c table cond rid p ≡ true → Chosen cond (image_at marks g c table rid p)
  chosen-of p e = chosen-row cond (image_at marks g c table rid p) e

  pub free-of : (w : Written) → free_write marks g rid ≡ Some w → Free marks g (current marks rid) w
  free-of w e = free-parts marks g (current marks rid) w e

  pub selected-chosen : (s : IsSelectedAndFree marks level g c table cond rid) → is_chosen_at marks g c table cond rid s.place ≡ true
  selected-chosen s = row-chosen cond (image_at marks g c table rid s.place) s.row (sym (s.view.images rid) ∙ s.shown) s.chosen

  pub selected-free : (s : IsSelectedAndFree marks level g c table cond rid) → free_write marks g rid ≡ Some s.write
  selected-free s = parts-free marks g (current marks rid) s.write s.current s.free
