-- What segments report: each graph is taken where it is asked for, once a round, and sent as it was noted.
use Rattle.std.proofs.Common.{◌≡◌, ◌≤◌, ℕ, ◌+◌, List, [], ◌∷◌, ◌++◌, Some, None, Bool, true, false, sym, ap, ◌∙◌, if◌then◌else◌, ◌==◌, ◌&&◌}
use Rattle.std.proofs.lemmas.Bool.{eqb-true}
use Rattle.gx_lemmas.proofs.Numbers.{eqb-self}
use Rattle.gx_ids.specs.declared.ids.Gxid.{Gxid}
use Rattle.gx_ids.specs.declared.ids.Node.{Node}
use Rattle.gx_locks.specs.Graphs.{graph_at}
use Rattle.gx_msg.specs.declared.message.Message.{Message}
use Rattle.gx_msg.specs.declared.message.Message.TheVariants as message
use Rattle.gx_msg.specs.declared.message.Out.{Out}
use Rattle.gx_script.specs.declared.Script.{Script}
use Rattle.gx_store.specs.declared.event.Event.{Event}
use Rattle.gx_store.specs.declared.mark.Mark.{Mark}
use Rattle.gx_store.specs.declared.mark.Mark.TheVariants as mark
use Rattle.gx_store.specs.declared.node.NodeEvent.{NodeEvent}
use Rattle.gx_store.specs.Ordered.{IsSegment}
use Rattle.gx_store.specs.Points.{marks_in}
use Rattle.gx_store.specs.Refusals.{the_coordinator}
use Rattle.gx_store.specs.Rounds.{SendNoted, last_report}
use Rattle.gx_waits.specs.declared.graph.LocalGraph.{LocalGraph}
use Rattle.gx_rules.specs.AtCoordinator.{and_cancels, awaited_collect, cancel_turn, cancels, coord_can, coord_rule, coord_sends, coord_turn, resends}
use Rattle.gx_rules.specs.AtSegment.{reports, reports_again, seg_rule, seg_sends}
use Rattle.gx_rules.specs.Coordinators.{CoordTurn}
use Rattle.gx_rules.specs.Machine.{World, world_of}
use Rattle.gx_rules.specs.Rounds.{awaits_graph, begins_round, victims_at}
use Rattle.gx_rules.specs.Segments.{Seg, SegTurn}
use Rattle.gx_rules.specs.Sending.{clock_after, counted, numbered}
use Rattle.gx_rules.proofs.Rounds.{collect-ways, graph-ways}
use Rattle.gx_rules.proofs.Turns.{cancels_all-each}
use Rattle.gx_law_order.proofs.Induction.{IsThere}
use Rattle.gx_law_order.proofs.Lists.{each_append, each_weaker}
use Rattle.gx_law_order.specs.Lists.{Each}
use Rattle.gx_law_order.proofs.Ordered.{Well}
use Rattle.gx_law_order.proofs.Places.{collects-each}
use Rattle.gx_law_order.proofs.Sent.{at}
use Rattle.gx_law_locks.specs.Steps.{EachStep, SendsNoted}
use Rattle.gx_law_locks.proofs.RoundsAtCoordinators.{AreWorksOfOne, IsQuiet, cancel-quiet, coord-ways}
use Rattle.gx_law_locks.proofs.RoundsAtSegments.{seg-ways}
use Rattle.gx_law_locks.proofs.Rounded.{Rounded}
use Rattle.gx_law_locks.proofs.Silent.{AreOfOne, OfOne, Silent}
use Rattle.gx_law_locks.proofs.Steps.{report-append}
use Rattle.gx_law_locks.proofs.Walks.{at-steps}
use Rattle.gx_law_locks.proofs.RoundsInRuns.{turn-rounded}

-- MARKS THAT SEND NO GRAPH
abbrev NoGraphSent : Mark → Type 0
NoGraphSent (mark.Sent to number (message.Graph round graph)) = ⊥
NoGraphSent _ = Unit {0}

send-none : (node : Node) (marks ms : List Mark) → Each NoGraphSent ms → SendNoted node marks ms
send-none node marks [] e = tt
send-none node marks (mark.Sent to number (message.Graph round graph) ∷ ms) e = absurd e.0
send-none node marks (m ∷ ms) e = send-none node (marks ++ m ∷ []) ms e.1

silent-sends : (ms : List Mark) → Each Silent ms → Each NoGraphSent ms
silent-sends [] e = tt
silent-sends (mark.Sent to number told ∷ ms) e = absurd e.0
silent-sends (m ∷ ms) e = (tt, silent-sends ms e.1)

abbrev NoGraphIn : Message → Type 0
NoGraphIn (message.Graph round graph) = ⊥
NoGraphIn _ = Unit {0}

one-no-graph : (m : Message) → OfOne m → NoGraphIn m
one-no-graph (message.Collect round) e = absurd e
one-no-graph (message.Graph round graph) e = absurd e
one-no-graph message.Up e = absurd e
one-no-graph (message.Exec g c level x k y) e = tt
one-no-graph (message.Prepare g) e = tt
one-no-graph (message.Commit g) e = tt
one-no-graph (message.CommitPrepared g) e = tt
one-no-graph (message.Abort g) e = tt
one-no-graph (message.Forget g) e = tt
one-no-graph (message.Answer g r) e = tt

sent-no-graph : (f : ℕ → ℕ) (outs : List Out) → Each (λ o. NoGraphIn o.message) outs → Each NoGraphSent (numbered f outs)
sent-no-graph f [] e = tt
sent-no-graph f (o ∷ outs) e = (by_message o.message e.0, sent-no-graph (counted f o) outs e.1)
  where
    by_message : (m : Message) → NoGraphIn m → NoGraphSent (mark.Sent o.node (f o.node.0 + 1) m)
    by_message (message.Graph round graph) h = absurd h
    by_message message.Up h = tt
    by_message (message.Collect round) h = tt
    by_message (message.Exec g c level x k y) h = tt
    by_message (message.Prepare g) h = tt
    by_message (message.Commit g) h = tt
    by_message (message.CommitPrepared g) h = tt
    by_message (message.Abort g) h = tt
    by_message (message.Forget g) h = tt
    by_message (message.Answer g r) h = tt

own-no-graph : (ms : List Mark) (f : ℕ → ℕ) (outs : List Out) → Each Silent ms → AreOfOne outs → Each NoGraphSent (ms ++ numbered f outs)
own-no-graph ms f outs e o =
    each_append NoGraphSent ms (numbered f outs) (silent-sends ms e)
    (sent-no-graph f outs (each_weaker (λ (x : Out). OfOne x.message) (λ (x : Out). NoGraphIn x.message) (λ x. one-no-graph x.message) outs o))

-- THE COORDINATOR SENDS NONE
record SendsNone (turn : CoordTurn) : Type 0 where
  marks : Each NoGraphSent turn.marks
  works : AreWorksOfOne turn.coord.works

and-none : (turn : CoordTurn) (g : Gxid) → SendsNone turn → SendsNone (and_cancels turn g)
and-none turn g a =
    record { marks = each_append NoGraphSent turn.marks (cancel_turn turn.coord g).marks a.marks (own-no-graph t.marks t.coord.sent t.outs q.marks q.outs); works = q.coord.works }
  where
    t : CoordTurn
    t = cancels turn.coord g

    q : IsQuiet turn.coord (cancels turn.coord g)
    q = cancel-quiet turn.coord g a.works

module _ (script : Script) (some : 1 ≤ script.segments) (w : World) (good : Well script w) (r : Rounded script w) (e : Event) where
  module _ (x : NodeEvent) (fails : Bool) (t : IsThere script w e the_coordinator x) (ok : coord_can script w.coord x ≡ true) where
    abbrev clock : ℕ
    clock = clock_after w.coord.clock x

    turn-none : Each NoGraphSent (coord_turn script w.coord x fails).marks
    turn-none =
        coord-ways w.coord script (λ turn. Each NoGraphSent (coord_sends clock turn).marks) x fails r.coord.works
        (λ turn h q. own-no-graph turn.marks turn.coord.sent turn.outs q.marks q.outs)
        (λ from envelope round graph is told. graph-ways (λ turn. Each NoGraphSent (coord_sends clock turn).marks) w.coord from round graph tt (λ q. tt) (λ q a. (tt, tt)))
        (λ i is. again i) (λ is. sent-no-graph (begins_round script w.coord).coord.sent (begins_round script w.coord).outs (collects-each (λ (o : Out). NoGraphIn o.message) script.segments (w.coord.rounds + 1) (λ i one within. tt)))
      where
        again : (i : Node) → Each NoGraphSent (coord_sends clock (resends w.coord i (awaited_collect w.coord i))).marks
        again i = by_test (awaits_graph w.coord i)
          where
            by_test : (b : Bool) → Each NoGraphSent (coord_sends clock (resends w.coord i (if b then Some (message.Collect w.coord.rounds) else None))).marks
            by_test true = (tt, tt)
            by_test false = tt

    pub coord-sends-noted : SendNoted the_coordinator (marks_in w.steps) (coord_rule script w.coord x fails).marks
    coord-sends-noted =
        send-none the_coordinator (marks_in w.steps) (coord_rule script w.coord x fails).marks
        (cancels_all-each SendsNone and-none (victims_at w.coord x) (coord_turn script w.coord x fails) (record { marks = turn-none; works = (turn-rounded script some w good r e x fails t ok).coord.works })).marks

  -- A SEGMENT SENDS WHAT IT HAS NOTED
  module _ (x : NodeEvent) (fails : Bool) (i : ℕ) (place : IsSegment script (at i)) where
    abbrev s : Seg
    s = w.segs i

    abbrev seg_clock : ℕ
    seg_clock = clock_after s.clock x

    abbrev Noted : SegTurn → Type 0
    Noted turn = SendNoted (at i) (marks_in w.steps) (seg_sends seg_clock turn).marks

    new-noted : (round : ℕ) → Noted (reports s round (graph_at s.locks))
    new-noted round = (
      report-append (at i) round None (marks_in w.steps) (mark.Report s.node round (graph_at s.locks) ∷ [])
          ∙ ap (λ (q : Bool). if q && (round == round) then Some (graph_at s.locks) else last_report (at i) round None (marks_in w.steps)) (ap (λ (n : Node). n.0 == i) (good.names i) ∙ eqb-self i)
          ∙ ap (λ (q : Bool). if q then Some (graph_at s.locks) else last_report (at i) round None (marks_in w.steps)) (eqb-self round),
      tt,
    )

    again-noted : (round : ℕ) (graph : LocalGraph) → (s.round == round) ≡ true → s.graph ≡ Some graph → Noted (reports_again s round (Some graph))
    again-noted round graph same is =
        (ap (λ n. last_report (at i) n None (marks_in w.steps)) (sym (eqb-true s.round round same)) ∙ sym (r.segments i place.0).graph ∙ is, tt)

    pub seg-sends-noted : SendNoted (at i) (marks_in w.steps) (seg_rule script s x fails).marks
    seg-sends-noted =
        seg-ways script s Noted x fails
        (λ turn q. send-none (at i) (marks_in w.steps) (seg_sends seg_clock turn).marks (own-no-graph turn.marks (λ node. turn.seg.sent) turn.outs q.marks q.outs))
        (λ from envelope round is told. collect-ways Noted s round tt (λ new. new-noted round) (λ same graph kept. again-noted round graph same kept))

-- ALL STEPS
pub world-sends-noted : (script : Script) → 1 ≤ script.segments → (es : List (Event × Bool)) → EachStep SendsNoted [] (world_of script es).steps
world-sends-noted script some =
    at-steps script some (λ w. Unit {0}) (λ es. tt) SendsNoted (λ w good r k e x fails t ok ordered. coord-sends-noted script some w good r e x fails t ok)
    (λ w good r k e x fails i place t ok. seg-sends-noted script some w good r e x fails i place)
