-- Each report is of the moment at which it is made, since a node's locks are those that stand by the marks.
use Rattle.std.proofs.Common.{◌≡◌, ◌≤◌, ◌<◌, ℕ, List, [], ◌∷◌, ◌++◌, Bool, true, sym, subst, nat_lt, append-nil}
use Rattle.gx_lemmas.proofs.Numbers.{lt-of}
use Rattle.gx_ids.specs.declared.ids.Gxid.{Gxid}
use Rattle.gx_ids.specs.declared.ids.Node.{Node}
use Rattle.gx_locks.proofs.Edges.{are_edges}
use Rattle.gx_locks.specs.Graphs.{graph_at}
use Rattle.gx_locks.specs.Locks.{Locks}
use Rattle.gx_msg.specs.declared.message.Envelope.{Envelope}
use Rattle.gx_msg.specs.declared.message.Message.TheVariants as message
use Rattle.gx_script.specs.declared.Script.{Script}
use Rattle.gx_store.specs.declared.event.Event.{Event}
use Rattle.gx_store.specs.declared.mark.Mark.{Mark}
use Rattle.gx_store.specs.declared.mark.Mark.TheVariants as mark
use Rattle.gx_store.specs.declared.node.NodeEvent.{NodeEvent}
use Rattle.gx_store.specs.declared.node.NodeEvent.TheVariants as here
use Rattle.gx_store.specs.declared.run.Step.{Step}
use Rattle.gx_store.specs.Messages.{Receives}
use Rattle.gx_store.specs.Ordered.{IsSegment}
use Rattle.gx_store.specs.Points.{Point, marks_in}
use Rattle.gx_store.specs.Refusals.{the_coordinator}
use Rattle.gx_store.specs.Rounds.{AreReports, IsGraphAt, IsReport, last_round}
use Rattle.gx_store.specs.Waits.{waits_at}
use Rattle.gx_waits.specs.Claim.{AreEdges}
use Rattle.gx_rules.specs.AtCoordinator.{and_cancels, cancel_turn, cancels, coord_can, coord_rule, coord_turn, on_event}
use Rattle.gx_rules.specs.AtSegment.{graph_out, reports, seg_rule, seg_sends}
use Rattle.gx_rules.specs.Coordinators.{CoordTurn}
use Rattle.gx_rules.specs.Machine.{World, world_of}
use Rattle.gx_rules.specs.Rounds.{victims_at}
use Rattle.gx_rules.specs.Segments.{Seg, SegTurn}
use Rattle.gx_rules.specs.Sending.{clock_after, numbered}
use Rattle.gx_rules.proofs.Rounds.{collect-ways}
use Rattle.gx_rules.proofs.Turns.{cancels_all-each}
use Rattle.gx_law_order.proofs.Induction.{IsReceipt, IsThere, from-coordinator}
use Rattle.gx_law_order.proofs.Lists.{each_append}
use Rattle.gx_law_order.specs.Lists.{Each}
use Rattle.gx_law_order.proofs.Ordered.{Well}
use Rattle.gx_law_order.proofs.Sent.{at}
use Rattle.gx_law_locks.specs.Marked.{AreLocksMarked, IsMarked}
use Rattle.gx_law_locks.proofs.HoldsInRuns.{world-locked}
use Rattle.gx_law_locks.specs.Steps.{EachStep, StepReports}
use Rattle.gx_law_locks.proofs.RoundsAtCoordinators.{AreWorksOfOne, IsQuiet, cancel-quiet}
use Rattle.gx_law_locks.proofs.RoundsAtSegments.{seg-ways}
use Rattle.gx_law_locks.proofs.Rounded.{Rounded}
use Rattle.gx_law_locks.proofs.Silent.{NoReport, no-report, sends-no-report}
use Rattle.gx_law_locks.proofs.Walks.{at-steps}
use Rattle.gx_law_locks.proofs.RoundsInRuns.{made-turn, turn-rounded}

no-reports : (steps : List Step) (e : Event) (earlier ms : List Mark) → Each NoReport ms → AreReports steps e earlier ms
no-reports steps e earlier [] n = tt
no-reports steps e earlier (mark.Report node round graph ∷ ms) n = absurd n.0
no-reports steps e earlier (m ∷ ms) n = no-reports steps e (earlier ++ m ∷ []) ms n.1

-- THE COORDINATOR REPORTS NOTHING
record IsUnreported (turn : CoordTurn) : Type 0 where
  marks : Each NoReport turn.marks
  works : AreWorksOfOne turn.coord.works

and-unreported : (turn : CoordTurn) (g : Gxid) → IsUnreported turn → IsUnreported (and_cancels turn g)
and-unreported turn g a =
    record {
      marks = each_append NoReport turn.marks (cancel_turn turn.coord g).marks a.marks (each_append NoReport t.marks (numbered t.coord.sent t.outs) (no-report t.marks q.marks) (sends-no-report t.coord.sent t.outs));
      works = q.coord.works;
    }
  where
    t : CoordTurn
    t = cancels turn.coord g

    q : IsQuiet turn.coord (cancels turn.coord g)
    q = cancel-quiet turn.coord g a.works

-- the graph of locks that stand by the marks has the edges that stand
pub graph-is : (marks : List Mark) (node : Node) (locks : Locks) → IsMarked marks node locks → locks.node ≡ node → IsGraphAt marks node (graph_at locks)
graph-is marks node locks f own =
    record {
      place = own;
      edges = subst (λ h. AreEdges (waits_at marks node) h (graph_at locks).edges) f.holds (subst (λ u. AreEdges u locks.holds (graph_at locks).edges) f.waits (are_edges locks.waits locks.holds));
    }

module _ (script : Script) (some : 1 ≤ script.segments) (w : World) (good : Well script w) (r : Rounded script w) (e : Event) where
  pub coord-reports : (x : NodeEvent) (fails : Bool) → IsThere script w e the_coordinator x → coord_can script w.coord x ≡ true → AreReports w.steps e [] (coord_rule script w.coord x fails).marks
  coord-reports x fails t ok =
      no-reports w.steps e [] (coord_rule script w.coord x fails).marks
      (cancels_all-each IsUnreported and-unreported (victims_at w.coord x) (coord_turn script w.coord x fails)
      (record {
        marks = each_append NoReport turn.marks (numbered turn.coord.sent turn.outs) (made-turn script some w good r e x fails t ok).marks (sends-no-report turn.coord.sent turn.outs);
        works = (turn-rounded script some w good r e x fails t ok).coord.works;
      })).marks
    where
      turn : CoordTurn
      turn = on_event script w.coord x fails

  module _ (x : NodeEvent) (fails : Bool) (i : ℕ) (place : IsSegment script (at i)) (t : IsThere script w e (at i) x) (locks : IsMarked (marks_in w.steps) (at i) (w.segs i).locks) where
    abbrev s : Seg
    s = w.segs i

    abbrev clock : ℕ
    clock = clock_after s.clock x

    abbrev Reported : SegTurn → Type 0
    Reported turn = AreReports w.steps e [] (seg_sends clock turn).marks

    -- where it stands, before the mark of its sending
    abbrev At : ℕ → Point
    At round = record { steps = w.steps; event = e; earlier = []; later = numbered (λ node. s.sent) (graph_out round (graph_at s.locks) ∷ []) }

    new-report : (from : Node) (envelope : Envelope) (round : ℕ) → x ≡ here.Deliver from envelope → envelope.message ≡ message.Collect round → nat_lt s.round round ≡ true → Reported (reports s round (graph_at s.locks))
    new-report from envelope round is told newer = (subst (λ n. IsReport (At round) n round (graph_at s.locks)) (sym (good.names i)) reported, tt)
      where
        there : IsReceipt script w e (at i) from envelope
        there = subst (IsThere script w e (at i)) is t

        reported : IsReport (At round) (at i) round (graph_at s.locks)
        reported =
            record {
              asked = subst (Receives w.steps e the_coordinator (at i)) told (subst (λ n. Receives w.steps e n (at i) envelope.message) (from-coordinator script i from place.0 there.link) there.received);
              newest = subst (λ ms. last_round (at i) 0 ms < round) (sym (append-nil (marks_in w.steps))) (subst (λ n. n < round) (r.segments i place.0).round (lt-of s.round round newer));
              tells = subst (λ ms. IsGraphAt ms (at i) (graph_at s.locks)) (sym (append-nil (marks_in w.steps))) (graph-is (marks_in w.steps) (at i) s.locks locks (r.segments i place.0).own);
            }

    pub seg-reports : AreReports w.steps e [] (seg_rule script s x fails).marks
    seg-reports =
        seg-ways script s Reported x fails
        (λ turn q.
        no-reports w.steps e [] (seg_sends clock turn).marks
        (each_append NoReport turn.marks (numbered (λ node. turn.seg.sent) turn.outs) (no-report turn.marks q.marks) (sends-no-report (λ node. turn.seg.sent) turn.outs)))
        (λ from envelope round is told. collect-ways Reported s round tt (λ newer. new-report from envelope round is told newer) (λ same graph kept. tt))

-- ALL STEPS
pub world-reports : (script : Script) → 1 ≤ script.segments → (es : List (Event × Bool)) → EachStep StepReports [] (world_of script es).steps
world-reports script some =
    at-steps script some AreLocksMarked (λ es. (world-locked script some es).marked) StepReports (λ w good r k e x fails t ok ordered. coord-reports script some w good r e x fails t ok)
    (λ w good r k e x fails i place t ok. seg-reports script some w good r e x fails i place t (k.segments i place.0))
