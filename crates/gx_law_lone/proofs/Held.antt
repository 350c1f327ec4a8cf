-- Who holds a row's lock waits there: from what the nodes know of failures.
use Rattle.std.proofs.Common.{◌≡◌, ◌⊎◌, inl, inr, ◌≤◌, ℕ, List, Option, Some, None, Bool, true, false, not, refl, ap, ◌∙◌, ◌&&◌, eqb, Contains}
use Rattle.std.proofs.lemmas.Bool.{and_parts}
use Rattle.std.proofs.lemmas.List.Folds.{list_any_at}
use Rattle.gx_lemmas.proofs.Numbers.{eqb-self}
use Rattle.gx_lemmas.proofs.Tests.{true-false}
use Rattle.gx_ids.specs.declared.ids.Gxid.{Gxid}
use Rattle.gx_ids.specs.declared.rid.Rid.{Rid}
use Rattle.gx_waits.specs.Claim.{is_tuple, same_object}
use Rattle.gx_waits.specs.Claims.{is_of}
use Rattle.gx_waits.specs.declared.claim.Claim.{Claim}
use Rattle.gx_waits.specs.declared.object.Object.TheVariants.{Tuple}
use Rattle.gx_locks.proofs.Meets.{same_object-same}
use Rattle.gx_script.specs.declared.Script.{Script}
use Rattle.gx_store.specs.declared.event.Event.{Event}
use Rattle.gx_store.specs.Marks.{is_aborted}
use Rattle.gx_store.specs.Points.{marks_in}
use Rattle.gx_rules.specs.Fits.{holds_locks}
use Rattle.gx_rules.specs.Machine.{World, world_of}
use Rattle.gx_rules.specs.Segments.{Local, Phase, Suspended, has_ended, local_of}
use Rattle.gx_rules.specs.Segments.Phase.{Aborted, Committed, Forgotten, Prepared, Reading, Writing}
use Rattle.gx_law_order.proofs.Everywhere.{parts_in}
use Rattle.gx_law_order.proofs.Suspended.{is_open_phase}
use Rattle.gx_law_order.specs.Standings.{at, known_at}
use Rattle.gx_law_order.specs.Standings.Standing.{Live}
use Rattle.gx_law_lone.specs.Rows.{AreHoldersRunning, AreRowsHeldByWaiters, HasFailedThere, WaitsAtRow, has_failed}
use Rattle.gx_law_lone.proofs.Feigned.{IsHeardOf, heard-of, open-same}
use Rattle.gx_law_lone.proofs.Strays.{is_at, is_stray, strays}
use Rattle.gx_law_lone.proofs.Came.{holds_any, world-came}
use Rattle.gx_law_lone.proofs.Turns.{is_failing, row_of}
use Rattle.gx_law_lone.proofs.Worlds.{Feigns, world-feigns}

-- a row's lock that is no stray is at the row
not-stray : (g : Gxid) (row : Option Rid) (holds : List Claim) (hold : Claim) → Contains holds hold → strays g row holds ≡ false → is_of g hold ≡ true → is_tuple hold.object ≡ true → is_at g row hold ≡ true
not-stray g row holds hold c none own tuple = by_test (is_at g row hold) refl
  where
    stray : is_at g row hold ≡ false → is_stray g row hold ≡ true
    stray e = ap (λ b. (b && is_tuple hold.object) && not (is_at g row hold)) own ∙ ap (λ b. b && not (is_at g row hold)) tuple ∙ ap not e

    by_test : (b : Bool) → is_at g row hold ≡ b → b ≡ true
    by_test true e = refl
    by_test false e = absurd (true-false (strays g row holds) (list_any_at (is_stray g row) holds c.0 hold c.1 (ap (is_stray g row) c.2 ∙ stray e)) none)

same-row : (r q : Rid) → Tuple r ≡ Tuple q → r ≡ q
same-row r q e = cc

open-stays : (p : Phase) → is_open_phase p ≡ true → has_ended p ≡ false
open-stays Reading e = refl
open-stays Writing e = refl
open-stays Prepared e = absurd (cc)
open-stays Committed e = absurd (cc)
open-stays (Forgotten b) e = absurd (cc)
open-stays Aborted e = absurd (cc)

module _ (w : World) (u : Feigns w) (i : ℕ) (hold : Claim) (rid : Rid) (inside : Contains (w.segs i).locks.holds hold) (is : hold.object ≡ Tuple rid) where
  abbrev g : Gxid
  g = hold.gxid

  abbrev its : Local
  its = local_of (w.segs i) g

  waits-at : (row : Option Rid) (o : Option Suspended) → its.suspended ≡ o → row_of o ≡ row → is_at g row hold ≡ true → WaitsAtRow w (at i) g rid
  waits-at None o e f h = absurd (cc)
  waits-at (Some r) None e f h = absurd (cc)
  waits-at (Some r) (Some x) e f h =
      let a = (and_parts (eqb g.0 g.0) _ h).1 in
      let b = (and_parts (same_object (Tuple r) hold.object) _ a).0 in
      record { slice = x; waits = e; row = f ∙ ap Some (same-row r rid (same_object-same (Tuple r) hold.object b ∙ is)) }

  has-failed : is_failing its ≡ true → is_aborted (marks_in w.steps) g ≡ false → HasFailedThere w (at i) g
  has-failed f a = by_way heard.runs
    where
      parts : (has_failed its.answer ≡ true) × (is_open_phase its.phase ≡ true)
      parts = and_parts (has_failed its.answer) (is_open_phase its.phase) f

      heard : IsHeardOf (known_at w.coord (marks_in w.steps) i g.0) its.last
      heard = heard-of (known_at w.coord (marks_in w.steps) i g.0) (parts_in w i g.0) (u.pairs i g.0) (ap (λ b. has_failed its.answer && b) (open-same its.phase) ∙ f)

      by_way : ((known_at w.coord (marks_in w.steps) i g.0).at ≡ Live) ⊎ (is_aborted (marks_in w.steps) g ≡ true) → HasFailedThere w (at i) g
      by_way (inl l) = record { failed = parts.0; stays = open-stays its.phase parts.1; last = (heard.awaited l).1; awaited = (heard.awaited l).0 }
      by_way (inr b) = absurd (true-false _ b a)

  pub row-held : WaitsAtRow w (at i) g rid ⊎ HasFailedThere w (at i) g ⊎ (is_aborted (marks_in w.steps) g ≡ true)
  row-held = by_abort (is_aborted (marks_in w.steps) g) refl
    where
      by_fail : is_aborted (marks_in w.steps) g ≡ false → (b : Bool) → is_failing its ≡ b → WaitsAtRow w (at i) g rid ⊎ HasFailedThere w (at i) g ⊎ (is_aborted (marks_in w.steps) g ≡ true)
      by_fail a true f = inr (inl (has-failed f a))
      by_fail a false f = inl (waits-at (row_of its.suspended) its.suspended refl refl (not-stray g (row_of its.suspended) (w.segs i).locks.holds hold inside (u.rows i g.0 a f) (eqb-self g.0) (ap is_tuple is)))

      by_abort : (b : Bool) → is_aborted (marks_in w.steps) g ≡ b → WaitsAtRow w (at i) g rid ⊎ HasFailedThere w (at i) g ⊎ (is_aborted (marks_in w.steps) g ≡ true)
      by_abort true a = inr (inr a)
      by_abort false a = by_fail a (is_failing its) refl

pub world-rows : (script : Script) (some : 1 ≤ script.segments) (es : List (Event × Bool)) (i : ℕ) → AreRowsHeldByWaiters (world_of script es) (at i)
world-rows script some es i hold rid inside is = row-held (world_of script es) (world-feigns script some es) i hold rid inside is

-- whoever holds a lock at a segment has come there and hasn't ended there
pub world-runs : (script : Script) (some : 1 ≤ script.segments) (es : List (Event × Bool)) (i : ℕ) → AreHoldersRunning (world_of script es) (at i)
world-runs script some es i hold inside = by_test (holds_locks its) refl
  where
    its : Local
    its = local_of ((world_of script es).segs i) hold.gxid

    by_test : (b : Bool) → holds_locks its ≡ b → holds_locks its ≡ true
    by_test true e = e
    by_test false e =
        absurd (true-false (holds_any hold.gxid.0 ((world_of script es).segs i).locks.holds)
        (list_any_at (is_of hold.gxid) ((world_of script es).segs i).locks.holds inside.0 hold inside.1 (ap (is_of hold.gxid) inside.2 ∙ eqb-self hold.gxid.0))
        (world-came script some es i hold.gxid.0 e))
