-- Whoever waits somewhere, and hasn't aborted, may be cancelled: it is live, and a statement of it waits or is under way.
use Rattle.std.proofs.Common.{◌≡◌, ◌≤◌, ◌⊎◌, inl, inr, ℕ, Option, Some, None, Bool, true, false, refl, sym, subst, ap, ◌==◌, ◌&&◌, arith}
use Rattle.std.proofs.lemmas.Bool.{or_left, or_right}
use Rattle.std.proofs.lemmas.Bool.Decides.{nat_tests}
use Rattle.std.specs.List.{list_any}
use Rattle.std.specs.Prelude.{is_some, nat_le}
use Rattle.gx_lemmas.proofs.Tests.{true-false}
use Rattle.gx_ids.specs.declared.ids.Gxid.{Gxid}
use Rattle.gx_ids.specs.declared.ids.Node.{Node}
use Rattle.gx_dtx.specs.Table.{find_txn}
use Rattle.gx_dtx.specs.declared.phase.Phase.{Phase as Status}
use Rattle.gx_dtx.specs.declared.phase.Phase.TheVariants as status
use Rattle.gx_dtx.specs.declared.txn.Txn.{Txn}
use Rattle.gx_waits.specs.Claims.{is_of}
use Rattle.gx_locks.specs.Locks.{wait_of}
use Rattle.gx_waits.specs.declared.claim.Claim.{Claim}
use Rattle.gx_script.specs.declared.Script.{Script}
use Rattle.gx_store.specs.Marks.{is_aborted}
use Rattle.gx_store.specs.Points.{marks_in}
use Rattle.gx_store.specs.Refusals.{the_coordinator}
use Rattle.gx_rules.specs.AtCoordinator.{is_under_way, may_cancel}
use Rattle.gx_rules.specs.Coordinators.{Command, Work, work_of}
use Rattle.gx_rules.specs.Machine.{World}
use Rattle.gx_rules.specs.Rounds.{is_active, is_live}
use Rattle.gx_law_order.proofs.Sent.{at}
use Rattle.gx_law_order.specs.Stages.{stage, stage_in}
use Rattle.gx_law_order.specs.Stages.Stage.{Live as LiveStage}
use Rattle.gx_law_order.proofs.Waiting.{has-slice, has-statement}
use Rattle.gx_law_order.proofs.World.{Knows}
use Rattle.gx_law_order.specs.Pairs.{Pair}
use Rattle.gx_law_order.specs.Standings.{Known, Part, known_at, standing, standing_in, waits_in}
use Rattle.gx_law_order.specs.Standings.Standing.{Live}
use Rattle.gx_law_order.proofs.Everywhere.{Holds, parts_in}
use Rattle.gx_law_locks.specs.Marked.{AreLocksMarked}
use Rattle.gx_law_locks.specs.Waiting.{is_waiting}
use Rattle.gx_law_locks.proofs.Legal.{none-listed}

-- WHO IS LIVE
stage-live : (t : Option Txn) → stage t ≡ LiveStage → is_live t ≡ true
stage-live None e = absurd (cc)
stage-live (Some t) e = by_phase t.phase e
  where
    by_phase : (p : Status) → stage_in p ≡ LiveStage → is_active p ≡ true
    by_phase status.Active e = refl
    by_phase (status.Preparing ws a) e = absurd (cc)
    by_phase (status.CommittingOne w) e = absurd (cc)
    by_phase (status.CommittingTwo a) e = absurd (cc)
    by_phase (status.Ended a) e = absurd (cc)
    by_phase (status.Aborting a) e = absurd (cc)

standing-live : (undrawn : Bool) (t : Option Txn) (i : ℕ) → standing undrawn t i ≡ Live → is_live t ≡ true
standing-live true None i e = absurd (cc)
standing-live false None i e = absurd (cc)
standing-live undrawn (Some t) i e = by_phase t.phase e
  where
    by_phase : (p : Status) → standing_in p i ≡ Live → is_active p ≡ true
    by_phase status.Active e = refl
    by_phase (status.Preparing ws a) e = absurd (cc)
    by_phase (status.CommittingOne w) e = absurd (cc)
    by_phase (status.CommittingTwo a) e = absurd (cc)
    by_phase (status.Ended a) e = absurd (cc)
    by_phase (status.Aborting a) e = absurd (cc)

both : (a b : Bool) → a ≡ true → b ≡ true → (a && b) ≡ true
both a b e f = grind arith

-- whose claim is among the waits has one
found-wait : (g : Gxid) (o : Option Claim) (waits : Bool) → (o ≡ None → waits ≡ false) → waits ≡ true → (wanted : Claim) × (o ≡ Some wanted)
found-wait g None waits f e = absurd (true-false waits e (f refl))
found-wait g (Some wanted) waits f e = (wanted, refl)

module _ (script : Script) (w : World) (n : Knows script w) (v : Holds script w) (marked : AreLocksMarked w) (g : Gxid) (runs : is_aborted (marks_in w.steps) g ≡ false) where
  abbrev work : Work
  work = work_of w.coord g

  -- AT THE COORDINATOR
  here : is_waiting (marks_in w.steps) the_coordinator g ≡ true → may_cancel w.coord g ≡ true
  here e =
      let listed : list_any (is_of g) w.coord.locks.waits ≡ true = subst (λ ws. list_any (is_of g) ws ≡ true) (sym marked.coordinator.waits) e in
      let f = found-wait g (wait_of w.coord.locks g) (list_any (is_of g) w.coord.locks.waits) (none-listed g w.coord.locks.waits) listed in
      let s = has-statement script w n g f.0 f.1 in
      both (is_live (find_txn w.coord.table g)) (is_under_way work) (stage-live (find_txn w.coord.table g) s.live) (or_right (is_some work.command) (is_some work.waiting) (ap is_some s.is))

  -- AT A SEGMENT
  module _ (i : ℕ) (one : 1 ≤ i) where
    abbrev k : Known
    k = known_at w.coord (marks_in w.steps) i g.0

    abbrev p : Part
    p = parts_in w i g.0

    awaits : (o : Option Command) → waits_in o i ≡ true → is_some o ≡ true
    awaits None e = absurd (cc)
    awaits (Some m) e = refl

    by-slice : p.waits ≡ true → may_cancel w.coord g ≡ true
    by-slice e = by_place (pair.waits e).2
      where
        pair : Pair k p
        pair = v.stands.pairs i g.0

        by_place : (k.at ≡ Live) ⊎ (k.aborted ≡ true) → may_cancel w.coord g ≡ true
        by_place (inl l) =
            both (is_live (find_txn w.coord.table g)) (is_under_way work) (standing-live (nat_le w.coord.table.next.0 g.0) (find_txn w.coord.table g) i l)
            (or_left (is_some work.command) (is_some work.waiting) (awaits work.command (pair.awaited l e).0))
        by_place (inr a) = absurd (true-false (is_aborted (marks_in w.steps) g) a runs)

    there : is_waiting (marks_in w.steps) (at i) g ≡ true → may_cancel w.coord g ≡ true
    there e =
        let listed : list_any (is_of g) (w.segs i).locks.waits ≡ true = subst (λ ws. list_any (is_of g) ws ≡ true) (sym (marked.segments i one).waits) e in
        let f = found-wait g (wait_of (w.segs i).locks g) (list_any (is_of g) (w.segs i).locks.waits) (none-listed g (w.segs i).locks.waits) listed in
        by-slice (ap is_some (has-slice script w n.well i g f.0 f.1).is)

  -- AT ANY NODE
  pub who-waits : (node : Node) → is_waiting (marks_in w.steps) node g ≡ true → may_cancel w.coord g ≡ true
  who-waits node e = by_node (node.0 == 0) refl
    where
      zero-is : (a : Node) → (a.0 == 0) ≡ true → a ≡ the_coordinator
      zero-is a q = grind (arith, nat_tests)

      above : (a : ℕ) → (a == 0) ≡ false → 1 ≤ a
      above a q = grind (arith, nat_tests)

      by_node : (b : Bool) → (node.0 == 0) ≡ b → may_cancel w.coord g ≡ true
      by_node true q = here (subst (λ m. is_waiting (marks_in w.steps) m g ≡ true) (zero-is node q) e)
      by_node false q = there node.0 (above node.0 q) e
