-- A fault of a command, by the mark that notes it.
use Rattle.std.proofs.Common.{◌≡◌, ◌∙◌, ◌<◌, ℕ, Bool, true, false, List, Option, Some, length, refl, sym, ap, subst}
use Rattle.gx_ids.specs.declared.ids.Cid.{Cid}
use Rattle.gx_ids.specs.declared.ids.Gxid.{Gxid}
use Rattle.gx_lemmas.proofs.Lists.{place-below}
use Rattle.gx_meaning.specs.declared.fault.ArithFault.{ArithFault}
use Rattle.gx_msg.specs.declared.reply.Cause.{Cause}
use Rattle.gx_store.specs.declared.mark.Mark.{Mark}
use Rattle.gx_store.specs.declared.mark.Mark.TheVariants.{Fault}
use Rattle.gx_store.specs.Points.{Point, before}
use Rattle.gx_store.specs.Parts.{IsFaulted, IsSaid}
use Rattle.gx_store.specs.Refusals.{HasFaulted, IsHeard}
use Rattle.gx_ids.specs.declared.rid.Rid.{Rid}
use Rattle.gx_tree.specs.declared.value.Value.{Value}
use Rattle.gx_tree.specs.declared.stmt.Stmt.TheVariants as stmt
use Rattle.gx_tree.specs.declared.stmt.Level.{Level}
use Rattle.gx_tree.specs.declared.stmt.Stmt.{Stmt}
use Rattle.gx_legal.specs.Causes.{FaultsAt, HasFaultedBy, IsHeardOf}

module _ (point : Point) (line : Stmt) (level : Level) (g : Gxid) (c : Cid) (fault : ArithFault) (reason : Cause) where
  -- what is heard, with the segment's note asked for and without
  to-heard : (place : ℕ) (line : Stmt) (rid : Rid) (image : Option (List Value)) → IsHeard point place line g c rid image reason → IsHeardOf true point place line g c rid image reason
  to-heard place (stmt.Insert table tuples) rid image h = h
  to-heard place line rid image h = h

  from-heard : (place : ℕ) (line : Stmt) (rid : Rid) (image : Option (List Value)) → IsHeardOf true point place line g c rid image reason → IsHeard point place line g c rid image reason
  from-heard place (stmt.Insert table tuples) rid image h = h
  from-heard place line rid image h = h

  to-said : (place : ℕ) (line : Stmt) (rid : Rid) (image : Option (List Value)) → IsSaid point place line g c reason → IsHeardOf false point place line g c rid image reason
  to-said place (stmt.Insert table tuples) rid image h = h
  to-said place line rid image h = h

  from-said : (place : ℕ) (line : Stmt) (rid : Rid) (image : Option (List Value)) → IsHeardOf false point place line g c rid image reason → IsSaid point place line g c reason
  from-said place (stmt.Insert table tuples) rid image h = h
  from-said place line rid image h = h

  pub of-faulted : (noted : Bool) → HasFaultedBy noted point line level g c fault reason → (place : ℕ) × FaultsAt noted point line level g c fault reason place
  of-faulted true has = (has.place, (Fault g c has.rid has.image, has.noted, (has.rid, has.image, refl, has.unaborted, has.faults, to-heard has.place line has.rid has.image has.heard)))
  of-faulted false has = (has.place, (Fault g c has.rid has.image, has.noted, (has.rid, has.image, refl, has.unaborted, has.faults, to-said has.place line has.rid has.image has.said)))

  pub faulted-at : (noted : Bool) (place : ℕ) → FaultsAt noted point line level g c fault reason place → HasFaultedBy noted point line level g c fault reason
  faulted-at true place (mark, at, (rid, image, is, unaborted, faults, heard)) =
      record { place = place; rid = rid; image = image; noted = at ∙ ap Some is; unaborted = unaborted; faults = faults; heard = from-heard place line rid image heard }
  faulted-at false place (mark, at, (rid, image, is, unaborted, faults, heard)) =
      record { place = place; rid = rid; image = image; noted = at ∙ ap Some is; unaborted = unaborted; faults = faults; said = from-said place line rid image heard }

  pub faulted-inside : (noted : Bool) (marks : List Mark) → marks ≡ before point → (place : ℕ) → FaultsAt noted point line level g c fault reason place → place < length marks
  faulted-inside noted marks whole place has = subst (λ ms. place < length ms) (sym whole) (place-below (before point) place _ has.1)

  -- whoever has noted it
  pub faulted-so : HasFaulted point line level g c fault reason → IsFaulted point line level g c fault reason
  faulted-so has = record { place = has.place; rid = has.rid; image = has.image; noted = has.noted; unaborted = has.unaborted; faults = has.faults; said = of-heard line has.heard }
    where
      of-heard : (line : Stmt) → IsHeard point has.place line g c has.rid has.image reason → IsSaid point has.place line g c reason
      of-heard (stmt.Insert table tuples) h = h
      of-heard line h = (h.segment, h.received, h.content)
