-- In every run each lock is asked for.
use Rattle.std.proofs.Common.{◌≡◌, ◌≤◌, ℕ, List, [], Some, Bool, true, subst}
use Rattle.gx_ids.specs.declared.ids.Gxid.{Gxid}
use Rattle.gx_script.specs.declared.Script.{Script}
use Rattle.gx_store.specs.Asking.{AreAsked, IsAsked}
use Rattle.gx_store.specs.Language.{AreLinesNumbered}
use Rattle.gx_store.specs.Ordered.{IsSegment}
use Rattle.gx_store.specs.Refusals.{the_coordinator}
use Rattle.gx_store.specs.declared.event.Event.{Event}
use Rattle.gx_store.specs.declared.node.NodeEvent.{NodeEvent}
use Rattle.gx_store.specs.declared.run.Step.{Step}
use Rattle.gx_rules.specs.AtCoordinator.{coord_can, coord_turn}
use Rattle.gx_rules.specs.AtSegment.{seg_rule}
use Rattle.gx_rules.specs.Changes.{Change, change_of}
use Rattle.gx_rules.specs.Machine.{World, coord_did, seg_can, seg_did, world_of}
use Rattle.gx_rules.specs.Sending.{clock_after}
use Rattle.gx_law_order.specs.Moves.{Move, world_by}
use Rattle.gx_law_order.specs.Standings.{at}
use Rattle.gx_law_order.proofs.Induction.{IsThere, at-events}
use Rattle.gx_law_order.proofs.Journals.{Hold, moves-hold}
use Rattle.gx_law_order.proofs.Legality as histories
use Rattle.gx_law_order.proofs.More.{marks-last}
use Rattle.gx_law_order.proofs.Stepping as stepping
use Rattle.gx_law_order.proofs.Whole.{Both, moves-both}
use Rattle.gx_law_order.proofs.Waiting.{GoesOn}
use Rattle.gx_law_reads.proofs.Ends.{Facts, moves-facts}
use Rattle.gx_law_locks.specs.Late.{AreReleasesLate}
use Rattle.gx_law_locks.proofs.HoldsInRuns.{Locked, moves-locked}
use Rattle.gx_law_writes.proofs.Always.{AreAlways, always-push, always-victim}
use Rattle.gx_law_writes.proofs.AskedEvents.{LaterNeeds, seg-asked}
use Rattle.gx_law_writes.proofs.AskedHere.{coord-asked}
use Rattle.gx_law_writes.proofs.AskedMarks.{asked-steps, victim-asked}
use Rattle.gx_law_writes.proofs.Steps.{Holds}
use Rattle.gx_law_writes.proofs.World.{moves-holds, new-needs, row-needs, table-needs}

module _ (script : Script) (some : 1 ≤ script.segments) (numbered_lines : AreLinesNumbered [] script.lines) where
  record Known (w : World) : Type 0 where
    both : Both script some w
    stepping : stepping.Holds script w
    journals : Hold w
    facts : Facts w
    locked : Locked script w
    holds : Holds script w.segs w.steps

  moves-known : (ms : List Move) → Known (world_by script ms)
  moves-known ms = record { both = moves-both script some ms; stepping = histories.moves-holds script some ms; journals = moves-hold script some ms; facts = moves-facts script some ms; locked = moves-locked script some ms; holds = moves-holds script some numbered_lines ms }

  abbrev All : World → Type 0
  All w = AreAlways (IsAsked script) [] w.steps

  coord-all : (w : World) → Known w → All w → (e : Event) (x : NodeEvent) (fails : Bool) → IsThere script w e the_coordinator x → coord_can script w.coord x ≡ true → All (coord_did w e (coord_turn script w.coord x fails))
  coord-all w n p e x fails t ok =
      always-push (IsAsked script) [] w.steps (record { stamp = record { clock = clock_after w.coord.clock x; node = the_coordinator }; event = e; marks = (coord_turn script w.coord x fails).marks }) p (coord-asked script w n.both.knows n.stepping e x fails t ok)

  seg-all : (w : World) → Known w → All w → (e : Event) (x : NodeEvent) (fails : Bool) (i : ℕ) → IsSegment script (at i) → IsThere script w e (at i) x → seg_can script (w.segs i) x ≡ true
      → Known (seg_did w (at i) e (seg_rule script (w.segs i) x fails)) → All (seg_did w (at i) e (seg_rule script (w.segs i) x fails))
  seg-all w n p e x fails i place t ok next =
      let step : Step = record { stamp = record { clock = clock_after (w.segs i).clock x; node = at i }; event = e; marks = (seg_rule script (w.segs i) x fails).marks } in
      always-push (IsAsked script) [] w.steps step p (seg-asked script numbered_lines w n.both.knows n.stepping i place (n.locked.marked.segments i place.0) n.holds.told (n.locked.rows i) e fails
      (new-needs script some numbered_lines w n.both n.stepping n.journals n.facts n.locked n.holds i place) later x t ok (subst (AreReleasesLate []) (marks-last w.steps step) next.locked.late))
    where
      later : (g : Gxid) (o : GoesOn script w i g) (q : Change) → change_of o.slice.cid o.slice.level o.slice.snapshot o.slice.slice ≡ Some q → LaterNeeds script numbered_lines w n.both.knows n.stepping i place (n.locked.marked.segments i place.0) n.holds.told (n.locked.rows i) g o q
      later g o q changes =
          record {
            table = λ row wanted owner. table-needs script some numbered_lines w n.both n.stepping n.journals n.facts n.locked n.holds i g place o q changes row wanted owner;
            row = λ rid row wanted owner. row-needs script some numbered_lines w n.both n.stepping n.journals n.facts n.locked n.holds i g place o q changes rid row wanted owner;
          }

  pub world-asked : (es : List (Event × Bool)) → AreAsked script [] (world_of script es).steps
  world-asked es =
      asked-steps script [] (world_of script es).steps
      (at-events script some Known All moves-known tt (λ w n p e x fails t ok next. coord-all w n p e x fails t ok)
      (λ w n p g a next. always-victim (IsAsked script) (λ point m v. victim-asked script point m v) w g a p) (λ w n p e x fails i place t ok next. seg-all w n p e x fails i place t ok next) es)
