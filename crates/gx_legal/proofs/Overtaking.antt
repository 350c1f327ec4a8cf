-- The test of an overtaken row decides the definition.
use Rattle.std.proofs.Common.{◌≡◌, ◌∙◌, true, List, Option, Some, None, refl, ap}
use Rattle.std.proofs.lemmas.Bool.{and_from, not-true, not_from_false}
use Rattle.gx_ids.specs.declared.ids.Gxid.{Gxid}
use Rattle.gx_ids.specs.declared.ids.Cid.{Cid}
use Rattle.gx_ids.specs.declared.ids.Table.{Table}
use Rattle.gx_ids.specs.declared.rid.Rid.{Rid}
use Rattle.gx_lemmas.proofs.Numbers.{eqb-of}
use Rattle.gx_lemmas.proofs.Tests.{and-first, and-second}
use Rattle.gx_tree.specs.declared.cond.Cond.{Cond}
use Rattle.gx_tree.specs.declared.stmt.Level.{Level}
use Rattle.gx_store.specs.declared.mark.Mark.{Mark}
use Rattle.gx_store.specs.Marks.{is_committed, is_same_gxid}
use Rattle.gx_store.specs.Refusals.{IsOvertakenRow}
use Rattle.gx_store.specs.Writes.{Written}
use Rattle.gx_legal.specs.Changed.{is_overtaken, is_overtaken_by}
use Rattle.gx_legal.specs.Selected.{free_write, is_chosen_at, is_unseen_at}
use Rattle.gx_legal.proofs.Snapshots.{any-snapshot, gxid-same, snapshot-any}
use Rattle.gx_legal.proofs.Selections.{chosen-of, free-of, selected-by, selected-chosen, selected-free}
use Rattle.gx_legal.proofs.Decided.{no_more}

module _ (marks : List Mark) (level : Level) (g : Gxid) (c : Cid) (table : Table) (cond : Option Cond) (rid : Rid) (h : Gxid) where
  by-write : (o : Option Written) → free_write marks g rid ≡ o → is_overtaken_by marks level g c table cond rid h o ≡ true → IsOvertakenRow marks level g c table cond rid h
  by-write None is e = no_more _ e
  by-write (Some w) is e =
      let rest = and-second (is_same_gxid w.gxid h) _ e in
      let by = any-snapshot marks level g c (is_unseen_at marks g c table cond rid h) (and-second (is_committed marks h) _ rest) in
      let chosen = and-first (is_chosen_at marks g c table cond rid by.0) _ by.2 in
      let unseen = and-second (is_chosen_at marks g c table cond rid by.0) _ by.2 in
      record {
        selected = selected-by marks level g c table cond rid by.0 by.1 (chosen-of marks level g c table cond rid by.0 chosen) w (free-of marks level g c table cond rid w is);
        writer = gxid-same w.gxid h (and-first (is_same_gxid w.gxid h) _ e);
        committed = and-first (is_committed marks h) _ rest;
        unseen = not-true _ unseen;
      }

  pub overtaken-is : is_overtaken marks level g c table cond rid h ≡ true → IsOvertakenRow marks level g c table cond rid h
  overtaken-is e = by-write (free_write marks g rid) refl e

  pub is-overtaken : IsOvertakenRow marks level g c table cond rid h → is_overtaken marks level g c table cond rid h ≡ true
  is-overtaken o =
      let s = o.selected in
      let at = and_from (is_chosen_at marks g c table cond rid s.place) _ (selected-chosen marks level g c table cond rid s) (not_from_false _ o.unseen) in
      ap (is_overtaken_by marks level g c table cond rid h) (selected-free marks level g c table cond rid s)
      ∙ and_from (is_same_gxid s.write.gxid h) _ (eqb-of s.write.gxid.0 h.0 (ap (λ (x : Gxid). x.0) o.writer))
      (and_from (is_committed marks h) _ o.committed (snapshot-any marks level g c (is_unseen_at marks g c table cond rid h) s.place s.taken at))
