-- The test of a skip decides the definition.
use Rattle.std.proofs.Common.{◌≡◌, ◌∙◌, ◌⊎◌, inl, inr, ◌&&◌, true, false, not, List, Option, Some, None, Ok, refl, ap}
use Rattle.std.proofs.lemmas.Bool.{and_from, not-true, not_from_false}
use Rattle.gx_ids.specs.declared.ids.Gxid.{Gxid}
use Rattle.gx_ids.specs.declared.ids.Cid.{Cid}
use Rattle.gx_ids.specs.declared.ids.Table.{Table}
use Rattle.gx_ids.specs.declared.rid.Rid.{Rid}
use Rattle.gx_lemmas.proofs.Tests.{and-first, and-second}
use Rattle.gx_tree.specs.declared.cond.Cond.{Cond}
use Rattle.gx_tree.specs.declared.stmt.Level.{Level}
use Rattle.gx_tree.specs.declared.stmt.Level.TheVariants.{ReadCommitted, RepeatableRead}
use Rattle.gx_tree.specs.declared.stmt.Stmt.{Stmt}
use Rattle.gx_tree.specs.declared.stmt.Stmt.TheVariants.{Update, Delete}
use Rattle.gx_tree.specs.declared.value.Value.{Value}
use Rattle.gx_store.specs.declared.mark.Mark.{Mark}
use Rattle.gx_store.specs.Commands.{condition_on}
use Rattle.gx_store.specs.Marks.{is_processed}
use Rattle.gx_store.specs.Writes.{IsSkipOf, IsSkipped, Written}
use Rattle.gx_legal.specs.Changed.{is_left, is_left_write, is_read_committed, is_skip, is_skipped}
use Rattle.gx_legal.specs.Selected.{free_write, is_chosen_at}
use Rattle.gx_legal.proofs.Snapshots.{any-snapshot, snapshot-any}
use Rattle.gx_legal.proofs.Selections.{chosen-of, free-of, is-missed, missed-is, selected-by, selected-chosen, selected-free}
use Rattle.gx_legal.proofs.Decided.{no_more}

pub read-committed-is : (level : Level) → is_read_committed level ≡ true → level ≡ ReadCommitted
read-committed-is ReadCommitted e = refl
read-committed-is RepeatableRead e = no_more _ e

abbrev Left : Option Cond → Option (List Value) → Type 0
Left cond image = (image ≡ None) ⊎ ((old : List Value) × (image ≡ Some old) × (condition_on cond old ≡ Ok false))

left-is : (cond : Option Cond) (image : Option (List Value)) → is_left cond image ≡ true → Left cond image
left-is cond None e = inl refl
left-is cond (Some old) e = inr (old, refl, missed-is (condition_on cond old) e)

is-left : (cond : Option Cond) (image : Option (List Value)) → Left cond image → is_left cond image ≡ true
is-left cond image (inl gone) = ap (is_left cond) gone
is-left cond image (inr (old, there, missed)) = ap (is_left cond) there ∙ is-missed (condition_on cond old) missed

record LeftWrite (cond : Option Cond) (o : Option Written) : Type 0 where
  write : Written
  there : o ≡ Some write
  left : is_left cond write.image ≡ true

left-write : (cond : Option Cond) (o : Option Written) → is_left_write cond o ≡ true → LeftWrite cond o
left-write cond None e = no_more _ e
left-write cond (Some w) e = record { write = w; there = refl; left = e }

module _ (marks : List Mark) (level : Level) (g : Gxid) (c : Cid) (table : Table) (cond : Option Cond) (rid : Rid) where
  skipped-is : is_skipped marks level g c table cond rid ≡ true → IsSkipped marks level g c table cond rid
  skipped-is e =
      let isolation = and-first (is_read_committed level) _ e in
      let rest = and-second (is_read_committed level) _ e in
      let left = left-write cond (free_write marks g rid) (and-first (is_left_write cond (free_write marks g rid)) _ rest) in
      let by = any-snapshot marks level g c (is_chosen_at marks g c table cond rid) (and-second (is_left_write cond (free_write marks g rid)) _ rest) in
      record {
        isolation = read-committed-is level isolation;
        selected = selected-by marks level g c table cond rid by.0 by.1 (chosen-of marks level g c table cond rid by.0 by.2) left.write (free-of marks level g c table cond rid left.write left.there);
        left = left-is cond left.write.image left.left;
      }

  is-skipped : IsSkipped marks level g c table cond rid → is_skipped marks level g c table cond rid ≡ true
  is-skipped s =
      let free = selected-free marks level g c table cond rid s.selected in
      let left : is_left_write cond (free_write marks g rid) ≡ true = ap (is_left_write cond) free ∙ is-left cond s.selected.write.image s.left in
      let chosen = snapshot-any marks level g c (is_chosen_at marks g c table cond rid) s.selected.place s.selected.taken (selected-chosen marks level g c table cond rid s.selected) in
      and_from (is_read_committed level) _ (ap is_read_committed s.isolation) (and_from (is_left_write cond (free_write marks g rid)) _ left chosen)

  first-skip : (not (is_processed marks g c rid) && is_skipped marks level g c table cond rid) ≡ true → (is_processed marks g c rid ≡ false) × IsSkipped marks level g c table cond rid
  first-skip e = (not-true _ (and-first (not (is_processed marks g c rid)) _ e), skipped-is (and-second (not (is_processed marks g c rid)) _ e))

  skip-first : (is_processed marks g c rid ≡ false) × IsSkipped marks level g c table cond rid → (not (is_processed marks g c rid) && is_skipped marks level g c table cond rid) ≡ true
  skip-first (once, skipped) = and_from (not (is_processed marks g c rid)) _ (not_from_false _ once) (is-skipped skipped)

pub skip-is : (marks : List Mark) (level : Level) (g : Gxid) (c : Cid) (stmt : Stmt) (rid : Rid) → is_skip marks level g c stmt rid ≡ true → IsSkipOf marks level g c stmt rid
skip-is marks level g c (Update table assigns cond) rid e = first-skip marks level g c table cond rid e
skip-is marks level g c (Delete table cond) rid e = first-skip marks level g c table cond rid e
skip-is marks level g c _ rid e = no_more _ e

pub is-skip : (marks : List Mark) (level : Level) (g : Gxid) (c : Cid) (stmt : Stmt) (rid : Rid) → IsSkipOf marks level g c stmt rid → is_skip marks level g c stmt rid ≡ true
is-skip marks level g c (Update table assigns cond) rid e = skip-first marks level g c table cond rid e
is-skip marks level g c (Delete table cond) rid e = skip-first marks level g c table cond rid e
is-skip marks level g c _ rid e = absurd e
