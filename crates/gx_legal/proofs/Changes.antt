-- The tests of writes decide the definitions: UPDATE and DELETE.
use Rattle.std.proofs.Common.{◌≡◌, ◌∙◌, ℕ, ◌==◌, ◌&&◌, Bool, true, take, List, Option, Some, None, Result, Ok, Err, refl, ap}
use Rattle.std.proofs.lemmas.Bool.{and_from}
use Rattle.gx_ids.specs.declared.ids.Gxid.{Gxid}
use Rattle.gx_ids.specs.declared.ids.Cid.{Cid}
use Rattle.gx_ids.specs.declared.ids.Table.{Table}
use Rattle.gx_ids.specs.declared.rid.Rid.{Rid}
use Rattle.gx_lemmas.proofs.Numbers.{eqb-of, same-of}
use Rattle.gx_lemmas.proofs.Tests.{and-first, and-second}
use Rattle.gx_tree.specs.declared.cond.Cond.{Cond}
use Rattle.gx_tree.specs.declared.stmt.Assign.{Assign}
use Rattle.gx_tree.specs.declared.stmt.Level.{Level}
use Rattle.gx_tree.specs.declared.stmt.Level.TheVariants.{ReadCommitted, RepeatableRead}
use Rattle.gx_tree.specs.declared.value.Value.{Value}
use Rattle.gx_meaning.specs.declared.fault.ArithFault.{ArithFault}
use Rattle.gx_store.specs.declared.mark.Mark.{Mark}
use Rattle.gx_store.specs.Commands.{condition_on}
use Rattle.gx_store.specs.Marks.{is_same_gxid}
use Rattle.gx_store.specs.Writes.{IsCurrentFor, IsDeleted, IsSelectedAndFree, IsUpdated, Written, set_row, shown_write}
use Rattle.gx_legal.specs.Changed.{is_changed, is_changed_image, is_changed_write, is_gone, is_set, is_set_to}
use Rattle.gx_legal.specs.Selected.{free_write, is_chosen_at, is_current_at, is_same_write, is_write}
use Rattle.gx_legal.proofs.Decided.{no_more}
use Rattle.gx_legal.proofs.Equal.{images-decided}
use Rattle.gx_legal.proofs.Snapshots.{any-snapshot, cid-same, gxid-same, snapshot-any}
use Rattle.gx_legal.proofs.Selections.{chosen-of, free-of, is-met, met-is, selected-by, selected-chosen, selected-free}

-- ONE WRITE
abbrev write : ℕ → Gxid → Cid → Option (List Value) → Written
write place g c image = record { place = place; gxid = g; cid = c; image = image }

same-write : (v w : Written) → is_same_write v w ≡ true → v ≡ w
same-write v w e =
    let rest = and-second (v.place == w.place) _ e in
    let more = and-second (is_same_gxid v.gxid w.gxid) _ rest in
    let place : v.place ≡ w.place = same-of v.place w.place (and-first (v.place == w.place) _ e) in
    let gxid : v.gxid ≡ w.gxid = gxid-same v.gxid w.gxid (and-first (is_same_gxid v.gxid w.gxid) _ rest) in
    let cid : v.cid ≡ w.cid = cid-same v.cid w.cid (and-first (v.cid.0 == w.cid.0) _ more) in
    let image : v.image ≡ w.image = (images-decided v.image w.image).0 (and-second (v.cid.0 == w.cid.0) _ more) in
    ap (λ x. write x v.gxid v.cid v.image) place
    ∙ ap (λ x. write w.place x v.cid v.image) gxid
    ∙ ap (λ x. write w.place w.gxid x v.image) cid
    ∙ ap (λ x. write w.place w.gxid w.cid x) image

write-same : (w : Written) → is_same_write w w ≡ true
write-same w =
    and_from (w.place == w.place) _ (eqb-of w.place w.place refl)
    (and_from (is_same_gxid w.gxid w.gxid) _ (eqb-of w.gxid.0 w.gxid.0 refl) (and_from (w.cid.0 == w.cid.0) _ (eqb-of w.cid.0 w.cid.0 refl) ((images-decided w.image w.image).1 refl)))

write-is : (o : Option Written) (w : Written) → is_write o w ≡ true → o ≡ Some w
write-is None w e = no_more _ e
write-is (Some v) w e = ap Some (same-write v w e)

is-write : (o : Option Written) (w : Written) → o ≡ Some w → is_write o w ≡ true
is-write o w e = ap (λ x. is_write x w) e ∙ write-same w

module _ (marks : List Mark) (g : Gxid) (c : Cid) (cond : Option Cond) (rid : Rid) (w : Written) (old : List Value) (place : ℕ) where
  current-is : (level : Level) → is_current_at marks level g c cond rid w old place ≡ true → IsCurrentFor marks level g c cond rid place w old
  current-is ReadCommitted e = met-is (condition_on cond old) e
  current-is RepeatableRead e = write-is (shown_write marks (take place marks) g c rid) w e

  is-current : (level : Level) → IsCurrentFor marks level g c cond rid place w old → is_current_at marks level g c cond rid w old place ≡ true
  is-current ReadCommitted e = is-met (condition_on cond old) e
  is-current RepeatableRead e = is-write (shown_write marks (take place marks) g c rid) w e

-- ROWS THAT MAY BE CHANGED
module _ (marks : List Mark) (level : Level) (g : Gxid) (c : Cid) (table : Table) (cond : Option Cond) (rid : Rid) where
  -- the row may be changed from this image, of which the test holds
  pub record MayChange (test : List Value → Bool) : Type 0 where
    pub selected : IsSelectedAndFree marks level g c table cond rid
    pub old : List Value
    pub image_before : selected.write.image ≡ Some old
    pub current : IsCurrentFor marks level g c cond rid selected.place selected.write old
    pub tested : test old ≡ true

  module _ (test : List Value → Bool) where
    by-image : (w : Written) → free_write marks g rid ≡ Some w → (image : Option (List Value)) → w.image ≡ image → is_changed_image marks level g c table cond rid test w image ≡ true → MayChange test
    by-image w free None is e = no_more _ e
    by-image w free (Some old) is e =
        let by = any-snapshot marks level g c (λ place. is_chosen_at marks g c table cond rid place && is_current_at marks level g c cond rid w old place) (and-second (test old) _ e) in
        let chosen = and-first (is_chosen_at marks g c table cond rid by.0) _ by.2 in
        record {
          selected = selected-by marks level g c table cond rid by.0 by.1 (chosen-of marks level g c table cond rid by.0 chosen) w (free-of marks level g c table cond rid w free);
          old = old;
          image_before = is;
          current = current-is marks g c cond rid w old by.0 level (and-second (is_chosen_at marks g c table cond rid by.0) _ by.2);
          tested = and-first (test old) _ e;
        }

    by-write : (o : Option Written) → free_write marks g rid ≡ o → is_changed_write marks level g c table cond rid test o ≡ true → MayChange test
    by-write None is e = no_more _ e
    by-write (Some w) is e = by-image w is w.image refl e

    pub changed-is : is_changed marks level g c table cond rid test ≡ true → MayChange test
    changed-is e = by-write (free_write marks g rid) refl e

    pub is-changed : MayChange test → is_changed marks level g c table cond rid test ≡ true
    is-changed m =
        let s = m.selected in
        let current = is-current marks g c cond rid s.write m.old s.place level m.current in
        let at = and_from (is_chosen_at marks g c table cond rid s.place) _ (selected-chosen marks level g c table cond rid s) current in
        ap (is_changed_write marks level g c table cond rid test) (selected-free marks level g c table cond rid s)
        ∙ ap (is_changed_image marks level g c table cond rid test s.write) m.image_before
        ∙ and_from (test m.old) _ m.tested (snapshot-any marks level g c (λ place. is_chosen_at marks g c table cond rid place && is_current_at marks level g c cond rid s.write m.old place) s.place s.taken at)

  -- UPDATE
  set-is : (set : Result (List Value) ArithFault) (image : Option (List Value)) → is_set_to set image ≡ true → (new : List Value) × (set ≡ Ok new) × (image ≡ Some new)
  set-is (Ok new) image e = (new, refl, (images-decided image (Some new)).0 e)
  set-is (Err fault) image e = no_more _ e

  is-set : (set : Result (List Value) ArithFault) (image : Option (List Value)) (new : List Value) → set ≡ Ok new → image ≡ Some new → is_set_to set image ≡ true
  is-set set image new e f = ap (λ s. is_set_to s image) e ∙ (images-decided image (Some new)).1 f

  pub updated-is : (assigns : List Assign) (image : Option (List Value)) → is_changed marks level g c table cond rid (is_set assigns image) ≡ true → IsUpdated marks level g c table assigns cond rid image
  updated-is assigns image e =
      let m = changed-is (is_set assigns image) e in
      let set = set-is (set_row assigns m.old) image m.tested in
      record { selected = m.selected; old = m.old; new = set.0; image_before = m.image_before; current = m.current; set = set.1; written = set.2 }

  pub is-updated : (assigns : List Assign) (image : Option (List Value)) → IsUpdated marks level g c table assigns cond rid image → is_changed marks level g c table cond rid (is_set assigns image) ≡ true
  is-updated assigns image u =
      is-changed (is_set assigns image)
      (record { selected = u.selected; old = u.old; image_before = u.image_before; current = u.current; tested = is-set (set_row assigns u.old) image u.new u.set u.written })

  -- DELETE
  gone-is : (image : Option (List Value)) (old : List Value) → is_gone image old ≡ true → image ≡ None
  gone-is None old e = refl
  gone-is (Some row) old e = no_more _ e

  pub deleted-is : (image : Option (List Value)) → is_changed marks level g c table cond rid (is_gone image) ≡ true → IsDeleted marks level g c table cond rid image
  deleted-is image e =
      let m = changed-is (is_gone image) e in
      record { selected = m.selected; old = m.old; image_before = m.image_before; current = m.current; written = gone-is image m.old m.tested }

  pub is-deleted : (image : Option (List Value)) → IsDeleted marks level g c table cond rid image → is_changed marks level g c table cond rid (is_gone image) ≡ true
  is-deleted image d =
      is-changed (is_gone image)
      (record { selected = d.selected; old = d.old; image_before = d.image_before; current = d.current; tested = ap (λ i. is_gone i d.old) d.written })
