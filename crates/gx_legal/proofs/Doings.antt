-- What a legal write, skip or fault is, by the command that did it.
use Rattle.std.proofs.Common.{◌≡◌, ◌↔◌, ◌⊎◌, Bool, IsTrue, Option, List, inl, inr, sym, subst}
use Rattle.std.specs.Borrow.{Bor}
use Rattle.gx_ids.specs.declared.ids.Cid.{Cid}
use Rattle.gx_ids.specs.declared.ids.Gxid.{Gxid}
use Rattle.gx_ids.specs.declared.rid.Rid.{Rid}
use Rattle.gx_legal.specs.Deeds.{Doing, IsByCommand, IsByEarlierInStep, IsByEarlierStep, IsByEither, IsLateDoing, May}
use Rattle.gx_legal.specs.declared.deed.Act.{Act}
use Rattle.gx_legal.specs.declared.deed.Act.TheVariants as act
use Rattle.gx_legal.specs.declared.command.RowAt.{RowAt}
use Rattle.gx_script.specs.declared.Script.{Script}
use Rattle.gx_store.specs.declared.mark.Mark.{Mark}
use Rattle.gx_store.specs.Points.{IsNoLater, Point, before}
use Rattle.gx_store.specs.Writes.{IsLate, LegalSkip, LegalWrite}
use Rattle.gx_store.specs.Faults.{LegalFault}
use Rattle.gx_tree.specs.declared.stmt.Level.{Level}
use Rattle.gx_tree.specs.declared.stmt.Stmt.{Stmt}
use Rattle.gx_tree.specs.declared.value.Value.{Value}

module _ (script : Script) (point : Point) (g : Gxid) (c : Cid) where
  abbrev doing : Act → Doing
  doing a = record { marks = before point; g = g; c = c; act = a }

  -- a late deed is a late command's, where its level doesn't count
  late-of : (a : Act) → IsLateDoing script point (doing a) → (stmt : Stmt) × (level : Level) × IsLate script point g c stmt × May script (doing a) stmt level
  late-of a (aborted, inl by) = (by.2.1.0, by.2.1.1, record { aborted = aborted; early = by.0; earlier = inl by.1; session = by.2.0; level = by.2.1.1; ran = by.2.1.2 }, by.2.1.3)
  late-of a (aborted, inr by) = (by.2.1.0, by.2.1.1, record { aborted = aborted; early = by.0; earlier = inr by.1; session = by.2.0; level = by.2.1.1; ran = by.2.1.2 }, by.2.1.3)

  by-late : (a : Act) (stmt : Stmt) (late : IsLate script point g c stmt) → May script (doing a) stmt late.level → IsLateDoing script point (doing a)
  by-late a stmt late may = (late.aborted, side late.earlier)
    where
      side : IsNoLater late.early point → IsByEarlierStep script point (doing a) ⊎ IsByEarlierInStep script point (doing a)
      side (inl is) = inl (late.early, is, (late.session, (stmt, late.level, late.ran, may)))
      side (inr is) = inr (late.early, is, (late.session, (stmt, late.level, late.ran, may)))

  -- where no command under way does it
  pub either-late : (live late : Act) (marks : List Mark) (b : Bool) → marks ≡ before point → (IsByCommand script point (record { marks = marks; g = g; c = c; act = live }) → ⊥)
      → IsTrue b ↔ IsLateDoing script point (record { marks = marks; g = g; c = c; act = late }) → IsTrue b ↔ IsByEither script point g c live late
  either-late live late marks b e none is = subst P (sym e) at none is
    where
      P : List Mark → Type 0
      P ms = (IsByCommand script point (record { marks = ms; g = g; c = c; act = live }) → ⊥) → IsTrue b ↔ IsLateDoing script point (record { marks = ms; g = g; c = c; act = late })
          → IsTrue b ↔ IsByEither script point g c live late

      at : P (before point)
      at n h = (λ t. inr (h.0 t), back)
        where
          back : IsByEither script point g c live late → IsTrue b
          back (inl by) = absurd (n by)
          back (inr by) = h.1 by

  pub write-either : (row : RowAt) (image : Bor (Option (List Value)))
      → IsByEither script point g c (act.Write row image) (act.LateWrite row image) ↔ LegalWrite script point g c row.node row.table row.rid image.now
  write-either row image = (to, back)
    where
      to : IsByEither script point g c (act.Write row image) (act.LateWrite row image) → LegalWrite script point g c row.node row.table row.rid image.now
      to (inl by) = inl (record { session = by.0; stmt = by.1.0; level = by.1.1; runs = by.1.2; snapped = by.1.3.0; writes = by.1.3.1 })
      to (inr late) = let x = late-of (act.LateWrite row image) late in inr (record { stmt = x.0; late = x.2; writes = x.3 })

      back : LegalWrite script point g c row.node row.table row.rid image.now → IsByEither script point g c (act.Write row image) (act.LateWrite row image)
      back (inl live) = inl (live.session, (live.stmt, live.level, live.runs, (live.snapped, live.writes)))
      back (inr late) = inr (by-late (act.LateWrite row image) late.stmt late.late late.writes)

  pub skip-either : (rid : Rid) → IsByEither script point g c (act.Skip rid) act.LateSkip ↔ LegalSkip script point g c rid
  skip-either rid = (to, back)
    where
      to : IsByEither script point g c (act.Skip rid) act.LateSkip → LegalSkip script point g c rid
      to (inl by) = inl (record { session = by.0; stmt = by.1.0; level = by.1.1; runs = by.1.2; skips = by.1.3 })
      to (inr late) = let x = late-of act.LateSkip late in inr (record { stmt = x.0; late = x.2; kind = x.3 })

      back : LegalSkip script point g c rid → IsByEither script point g c (act.Skip rid) act.LateSkip
      back (inl live) = inl (live.session, (live.stmt, live.level, live.runs, live.skips))
      back (inr late) = inr (by-late act.LateSkip late.stmt late.late late.kind)

  pub fault-either : (rid : Rid) (image : Bor (Option (List Value))) → IsByEither script point g c (act.Fault rid image) act.LateFault ↔ LegalFault script point g c rid image.now
  fault-either rid image = (to, back)
    where
      to : IsByEither script point g c (act.Fault rid image) act.LateFault → LegalFault script point g c rid image.now
      to (inl by) = inl (record { session = by.0; stmt = by.1.0; level = by.1.1; fault = by.1.3.0; runs = by.1.2; faults = by.1.3.1 })
      to (inr late) = let x = late-of act.LateFault late in inr (record { stmt = x.0; late = x.2; kind = x.3 })

      back : LegalFault script point g c rid image.now → IsByEither script point g c (act.Fault rid image) act.LateFault
      back (inl live) = inl (live.session, (live.stmt, live.level, live.runs, (live.fault, live.faults)))
      back (inr late) = inr (by-late act.LateFault late.stmt late.late late.kind)
