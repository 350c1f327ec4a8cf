-- Over every run of the machine, no horizon that was used is above what somebody still needs.
use Rattle.std.proofs.Common.{◌≡◌, ◌≤◌, ℕ, List, [], ◌∷◌, Bool, true, false, sym, subst, if◌then◌else◌, arith, eqb}
use Rattle.gx_ids.specs.declared.ids.Node.{Node}
use Rattle.gx_dtx.specs.Table.{Table}
use Rattle.gx_locks.specs.Locks.{wait_of}
use Rattle.gx_msg.specs.declared.message.Envelope.{Envelope}
use Rattle.gx_msg.specs.declared.message.Message.{Message}
use Rattle.gx_msg.specs.declared.message.Message.TheVariants as message
use Rattle.gx_msg.specs.declared.message.Out.{Out}
use Rattle.gx_script.specs.declared.Script.{Script}
use Rattle.gx_store.specs.declared.event.Event.{Event}
use Rattle.gx_store.specs.declared.mark.Mark.{Mark}
use Rattle.gx_store.specs.declared.mark.Mark.TheVariants as mark
use Rattle.gx_store.specs.declared.node.NodeEvent.{NodeEvent}
use Rattle.gx_store.specs.declared.node.NodeEvent.TheVariants as here
use Rattle.gx_store.specs.Ordered.{IsSegment}
use Rattle.gx_store.specs.Points.{marks_in}
use Rattle.gx_store.specs.Refusals.{the_coordinator}
use Rattle.gx_rules.specs.AtCoordinator.{cancels, coord_turn, on_event}
use Rattle.gx_rules.specs.AtSegment as segment
use Rattle.gx_rules.specs.AtSegment.{seg_rule}
use Rattle.gx_rules.specs.Coordinators.{CoordTurn}
use Rattle.gx_rules.specs.Machine.{Letter, World, and_cancelled, coord_did, new_world, seg_can, seg_did, world_of}
use Rattle.gx_rules.specs.Segments.{SegTurn, local_of}
use Rattle.gx_rules.specs.Sending.{clock_after}
use Rattle.gx_law_order.proofs.AtCoordinators.{cancel_stays, coord_stays}
use Rattle.gx_law_order.proofs.AtSegments.{PlainAt, seg_stays}
use Rattle.gx_law_order.proofs.Letters.{found_is}
use Rattle.gx_law_order.proofs.Lists.{each_weaker}
use Rattle.gx_law_order.specs.Lists.{Each}
use Rattle.gx_law_order.proofs.Induction.{IsThere, after_turn, at-events}
use Rattle.gx_law_order.proofs.Sent.{at}
use Rattle.gx_law_order.specs.Stages.{IsWhole}
use Rattle.gx_law_order.proofs.World.{Knows, moves_knows}
use Rattle.gx_store.specs.declared.run.Step.{Step}
use Rattle.gx_law_order.specs.Horizons.{AreHorizonsLow, AreLowIn, IsLow, IsLowIn}
use Rattle.gx_law_order.specs.Said.{is_answer}
use Rattle.gx_law_order.proofs.Counts.{NoSent}
use Rattle.gx_law_order.proofs.Everywhere.{posted-each}
use Rattle.gx_law_order.proofs.Lowered.{Lowered, OrdersLow, cancel-low, event-low, message-goes}
use Rattle.gx_law_order.proofs.Lows.{past-dense}
use Rattle.gx_law_order.proofs.Raised.{OfHorizon, SegKeeps, message_keeps, resume_keeps}

abbrev IsLowLetter : Table → Letter → Type 0
IsLowLetter d l = IsLowIn d l.envelope.message

record Low (w : World) : Type 0 where
  orders : OrdersLow w.coord.table w.coord.works
  segs : (i : ℕ) → IsLow (w.segs i).horizon.0 w.coord.table
  sent : Each (IsLowLetter w.coord.table) w.sent

-- A TURN OF THE COORDINATOR
turn-low : (w : World) → Low w → (turn : CoordTurn) (clock : ℕ) (steps : List Step) → IsWhole w.coord.table → Lowered w.coord turn → Each NoSent turn.marks → Low (after_turn w clock turn steps)
turn-low w l turn clock steps whole f none =
    record {
      orders = f.orders;
      segs = λ i. (f.table (w.segs i).horizon.0 (record { whole = whole; low = l.segs i })).low;
      sent = posted-each (IsLowLetter turn.coord.table) the_coordinator clock turn.marks turn.coord.sent turn.outs w.sent none
          (each_weaker (λ (o : Out). IsLowIn turn.coord.table o.message) _ (λ o q number. q) turn.outs f.outs)
          (each_weaker (IsLowLetter w.coord.table) (IsLowLetter turn.coord.table) (λ y q. message-goes w.coord.table turn.coord.table whole f.table y.envelope.message q) w.sent l.sent);
    }

-- A STEP OF A SEGMENT
answer-low : (d : Table) (m : Message) → is_answer m ≡ true → IsLowIn d m
answer-low d (message.Answer g r) e = tt
answer-low d (message.Exec g c level x h y) e = absurd (cc)
answer-low d (message.Prepare g) e = tt
answer-low d (message.Commit g) e = tt
answer-low d (message.CommitPrepared g) e = tt
answer-low d (message.Abort g) e = tt
answer-low d (message.Forget g) e = tt
answer-low d (message.Collect round) e = tt
answer-low d (message.Graph round graph) e = tt
answer-low d message.Up e = tt

of-horizon : (d : Table) (m : Message) → IsLowIn d m → OfHorizon (λ h. IsLow h.0 d) m
of-horizon d (message.Exec g c level x h y) l = l
of-horizon d (message.Prepare g) l = tt
of-horizon d (message.Commit g) l = tt
of-horizon d (message.CommitPrepared g) l = tt
of-horizon d (message.Abort g) l = tt
of-horizon d (message.Forget g) l = tt
of-horizon d (message.Collect round) l = tt
of-horizon d (message.Answer g r) l = tt
of-horizon d (message.Graph round graph) l = tt
of-horizon d message.Up l = tt

module _ (script : Script) (w : World) (l : Low w) (e : Event) (x : NodeEvent) (fails : Bool) (i : Node) (k : SegKeeps script (w.segs i.0) (λ h. IsLow h.0 w.coord.table) (l.segs i.0) (segment.on_event script (w.segs i.0) x fails)) where
  abbrev seg_turn : SegTurn
  seg_turn = segment.on_event script (w.segs i.0) x fails

  abbrev seg_next : World
  seg_next = seg_did w i e (seg_rule script (w.segs i.0) x fails)

  seg-low : Each (NoSent) seg_turn.marks → Low seg_next
  seg-low none =
      record {
        orders = l.orders;
        segs = λ j. by_test j (eqb j i.0) k.horizon;
        sent = posted-each (IsLowLetter w.coord.table) i (clock_after (w.segs i.0).clock x) seg_turn.marks (λ node. seg_turn.seg.sent) seg_turn.outs w.sent none
            (each_weaker (λ (o : Out). is_answer o.message ≡ true) _ (λ o q number. answer-low w.coord.table o.message q) seg_turn.outs k.outs) l.sent;
      }
    where
      by_test : (j : ℕ) (b : Bool) → IsLow seg_turn.seg.horizon.0 w.coord.table → IsLow (if b then (seg_rule script (w.segs i.0) x fails).seg else w.segs j).horizon.0 w.coord.table
      by_test j true q = q
      by_test j false q = l.segs j

-- ALL EVENTS
plain-one : (script : Script) (node : Node) (m : Mark) → PlainAt script node m → NoSent m
plain-one script node (mark.Sent to number told) e = e
plain-one script node m e = tt

pub plain-none : (script : Script) (node : Node) (ms : List Mark) → Each (PlainAt script node) ms → Each NoSent ms
plain-none script node ms e = each_weaker (PlainAt script node) NoSent (plain-one script node) ms e

-- what a segment hears keeps its horizon low
heard-low : (script : Script) (w : World) (l : Low w) → (e : Event) (x : NodeEvent) (fails : Bool) (i : ℕ) → IsThere script w e (at i) x → seg_can script (w.segs i) x ≡ true → SegKeeps script (w.segs i) (λ h. IsLow h.0 w.coord.table) (l.segs i) (segment.on_event script (w.segs i) x fails)
heard-low script w l e (here.Deliver from envelope) fails i t ok =
    let d = found_is (IsLowLetter w.coord.table) from (at i) t.number w.sent envelope l.sent t.found in
    message_keeps script (w.segs i) (λ h. IsLow h.0 w.coord.table) (l.segs i) fails envelope.message (of-horizon w.coord.table envelope.message (subst (λ (q : Envelope). IsLowIn w.coord.table q.message) d.told d.is))
heard-low script w l e (here.Resume g) fails i t ok = resume_keeps script (w.segs i) (λ h. IsLow h.0 w.coord.table) (l.segs i) g (wait_of (w.segs i).locks g) (local_of (w.segs i) g).suspended
heard-low script w l e (here.Start s) fails i t ok = absurd (cc)
heard-low script w l e (here.End s) fails i t ok = absurd (cc)
heard-low script w l e (here.Resend j g) fails i t ok = absurd (cc)
heard-low script w l e here.Round fails i t ok = absurd (cc)

module _ (script : Script) (some : 1 ≤ script.segments) where
  new-low : Low new_world
  new-low = record { orders = λ g. tt; segs = λ i. record { next = least 1; taken = least 1; kept = λ g t e. least g; live = λ g t x e q. least x.0 }; sent = tt }
    where
      least : (k : ℕ) → 0 ≤ k
      least k = omega arith

  all-low : (d : Table) (ls : List Letter) → Each (IsLowLetter d) ls → AreLowIn d ls
  all-low d [] e = tt
  all-low d (l ∷ ls) e = (e.0, all-low d ls e.1)

  pub world-low : (es : List (Event × Bool)) → AreHorizonsLow (world_of script es)
  world-low es =
      let l = at-events script some (Knows script) Low (moves_knows script some) new-low
      (λ w n l e x fails t ok next.
      turn-low w l (on_event script w.coord x fails) (clock_after w.coord.clock x) (coord_did w e (coord_turn script w.coord x fails)).steps n.kept.whole
      (event-low script w.coord n.kept.whole (past-dense w.coord (marks_in w.steps) n.past) l.orders x fails)
      (plain-none script the_coordinator (on_event script w.coord x fails).marks (coord_stays script some w.coord x fails n.well.coordinator).marks))
      (λ w n l g h next.
      turn-low w l (cancels w.coord g) w.coord.clock (and_cancelled w g).steps n.kept.whole (cancel-low script w.coord n.kept.whole (past-dense w.coord (marks_in w.steps) n.past) l.orders g)
      (plain-none script the_coordinator (cancels w.coord g).marks (cancel_stays script some w.coord g n.well.coordinator).marks))
      (λ w n l e x fails i place t ok next.
      seg-low script w l e x fails (at i) (heard-low script w l e x fails i t ok)
      (plain-none script (w.segs i).node (segment.on_event script (w.segs i) x fails).marks (seg_stays script (w.segs i) (subst (IsSegment script) (sym (n.well.names i)) place) x fails).marks)) es in
      record { segments = l.segs; commands = all-low (world_of script es).coord.table (world_of script es).sent l.sent }
