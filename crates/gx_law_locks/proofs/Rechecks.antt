-- A round ends with what its definition asks: the coordinator's own graph of the moment, each segment's first, who is active, and the verdict.
use Rattle.std.proofs.Common.{◌≡◌, ◌≤◌, ℕ, List, [], ◌∷◌, ◌++◌, Option, Some, None, Bool, true, false, refl, sym, subst, ap, ◌∙◌, ◌==◌, if◌then◌else◌, append-nil}
use Rattle.std.proofs.lemmas.Bool.{and_parts}
use Rattle.std.specs.Prelude.{map}
use Rattle.gx_ids.specs.declared.ids.Gxid.{Gxid}
use Rattle.gx_ids.specs.declared.ids.Node.{Node}
use Rattle.gx_detect.proofs.Computed.{is_verdict_of}
use Rattle.gx_detect.specs.Rounds.{are_all, graphs_in}
use Rattle.gx_locks.specs.Graphs.{graph_at}
use Rattle.gx_meaning.specs.Plan.{nodes_from}
use Rattle.gx_msg.specs.declared.message.Envelope.{Envelope}
use Rattle.gx_msg.specs.declared.message.Message.TheVariants as message
use Rattle.gx_script.specs.declared.Script.{Script}
use Rattle.gx_store.specs.declared.event.Event.{Event}
use Rattle.gx_store.specs.declared.mark.Mark.{Mark}
use Rattle.gx_store.specs.declared.mark.Mark.TheVariants as mark
use Rattle.gx_store.specs.declared.node.NodeEvent.{NodeEvent}
use Rattle.gx_store.specs.declared.node.NodeEvent.TheVariants as here
use Rattle.gx_store.specs.declared.run.Step.{Step}
use Rattle.gx_store.specs.Ordered.{AreOrdered}
use Rattle.gx_store.specs.Points.{Point, before, marks_in}
use Rattle.gx_store.specs.Refusals.{the_coordinator}
use Rattle.gx_store.specs.Rounds.{AreRechecksIn, AreReportsOf, IsGraphAt, IsRecheck, is_active}
use Rattle.gx_store.specs.Schedule.{round_count}
use Rattle.gx_waits.specs.LocalGraph.{edges_of}
use Rattle.gx_waits.specs.declared.graph.LocalGraph.{LocalGraph}
use Rattle.gx_waits.specs.declared.verdict.Verdict.{Verdict}
use Rattle.gx_rules.specs.AtCoordinator.{and_cancels, and_cancels_all, awaited_collect, cancel_turn, cancels, coord_can, coord_rule, coord_sends, resends}
use Rattle.gx_rules.specs.AtSegment.{seg_rule, seg_sends}
use Rattle.gx_rules.specs.Coordinators.{Coord, CoordTurn, rests}
use Rattle.gx_rules.specs.Machine.{World, world_of}
use Rattle.gx_rules.specs.Rounds.{active_in, awaits_graph, begins_round, is_report, noted_in, on_graph, rechecks, verdict_at, victims_at, with_report}
use Rattle.gx_rules.specs.Sending.{clock_after, numbered}
use Rattle.gx_rules.proofs.Rounds.{collect-ways, graph-ways}
use Rattle.gx_rules.proofs.Turns.{cancels_all-each}
use Rattle.gx_law_order.proofs.Induction.{IsThere}
use Rattle.gx_law_order.proofs.Lists.{each_append}
use Rattle.gx_law_order.specs.Lists.{Each}
use Rattle.gx_law_order.proofs.Ordered.{Well}
use Rattle.gx_law_order.proofs.World.{world_knows}
use Rattle.gx_law_order.proofs.Always.{world-holds}
use Rattle.gx_law_locks.specs.Marked.{AreLocksMarked}
use Rattle.gx_law_locks.proofs.HoldsInRuns.{world-locked}
use Rattle.gx_law_locks.specs.Steps.{EachStep, StepRechecks}
use Rattle.gx_law_locks.proofs.Active.{AreActive, world-active}
use Rattle.gx_law_locks.proofs.RoundsAtCoordinators.{AreWorksOfOne, IsQuiet, cancel-quiet, coord-ways}
use Rattle.gx_law_locks.proofs.RoundsAtSegments.{seg-ways}
use Rattle.gx_law_locks.proofs.Firsts.{reports-of}
use Rattle.gx_law_locks.proofs.Heard.{Brings, fits, same-count, taken}
use Rattle.gx_law_locks.proofs.Reports.{graph-is}
use Rattle.gx_law_locks.proofs.Rounded.{AreFirst, Rounded}
use Rattle.gx_law_locks.proofs.Silent.{NoRecheck, no-recheck, sends-no-recheck}
use Rattle.gx_law_locks.proofs.Walks.{at-steps, coord_step}
use Rattle.gx_law_locks.proofs.RoundsInRuns.{brings-it, turn-rounded}

-- MARKS THAT END NO ROUND, OR ONE
no-rechecks : (script : Script) (steps : List Step) (e : Event) (earlier ms : List Mark) → Each NoRecheck ms → AreRechecksIn script steps e earlier ms
no-rechecks script steps e earlier [] n = tt
no-rechecks script steps e earlier (mark.Recheck round own verdict ∷ ms) n = absurd n.0
no-rechecks script steps e earlier (m ∷ ms) n = no-rechecks script steps e (earlier ++ m ∷ []) ms n.1

-- a turn that ends none, whoever is cancelled behind it
record IsUnended (turn : CoordTurn) : Type 0 where
  marks : Each NoRecheck turn.marks
  works : AreWorksOfOne turn.coord.works

cancel-unended : (c : Coord) (g : Gxid) → AreWorksOfOne c.works → IsUnended (cancel_turn c g)
cancel-unended c g works =
    let t : CoordTurn = cancels c g in
    let q : IsQuiet c (cancels c g) = cancel-quiet c g works in
    record { marks = each_append NoRecheck t.marks (numbered t.coord.sent t.outs) (no-recheck t.marks q.marks) (sends-no-recheck t.coord.sent t.outs); works = q.coord.works }

and-unended : (turn : CoordTurn) (g : Gxid) → IsUnended turn → IsUnended (and_cancels turn g)
and-unended turn g a =
    let x = cancel-unended turn.coord g a.works in
    record { marks = each_append NoRecheck turn.marks (cancel_turn turn.coord g).marks a.marks x.marks; works = x.works }

-- a turn that ends one with its first mark
record HasEnded (first : Mark) (turn : CoordTurn) : Type 0 where
  rest : List Mark
  is : turn.marks ≡ first ∷ rest
  quiet : Each NoRecheck rest
  works : AreWorksOfOne turn.coord.works

and-ended : (first : Mark) (turn : CoordTurn) (g : Gxid) → HasEnded first turn → HasEnded first (and_cancels turn g)
and-ended first turn g a =
    let x = cancel-unended turn.coord g a.works in
    record {
      rest = a.rest ++ (cancel_turn turn.coord g).marks;
      is = ap (λ ms. ms ++ (cancel_turn turn.coord g).marks) a.is;
      quiet = each_append NoRecheck a.rest (cancel_turn turn.coord g).marks a.quiet x.marks;
      works = x.works;
    }

module _ (script : Script) (some : 1 ≤ script.segments) (w : World) (good : Well script w) (r : Rounded script w) (locks : AreLocksMarked w) (active : AreActive w) (e : Event) where
  abbrev At : List Mark → Point
  At later = record { steps = w.steps; event = e; earlier = []; later = later }

  first-is : (later : List Mark) → marks_in w.steps ≡ before (At later)
  first-is later = sym (append-nil (marks_in w.steps))

  -- THE LAST GRAPH
  module _ (s : Step) (is : s.event ≡ e) (ordered : AreOrdered script [] (w.steps ++ s ∷ [])) (from : Node) (round : ℕ) (graph : LocalGraph) (b : Brings w e from round graph)
      (new : is_report w.coord from round graph ≡ true) (all : are_all (with_report w.coord graph).reports ≡ true)
    where
      c : Coord
      c = with_report w.coord graph

      of-this : (round == round_count w.steps) ≡ true
      of-this = (and_parts (round == round_count w.steps) (awaits_graph w.coord from) (sym (fits script w r e from round graph b s is) ∙ new)).0

      reported : (later : List Mark) → AreReportsOf script (At later) w.coord.rounds (graphs_in (noted_in w.coord.reports graph))
      reported later = by_reports (noted_in w.coord.reports graph) (taken script w r e from round graph b s is w.coord.reports r.coord.reports of-this) all
        where
          first : ℕ → Node → Option LocalGraph
          first k i = Rattle.gx_law_locks.specs.Held.first_graph [] i k (w.steps ++ s ∷ [])

          by_reports : (o : Option (List (Option LocalGraph))) → AreFirst script (w.steps ++ s ∷ []) o → are_all o ≡ true → AreReportsOf script (At later) w.coord.rounds (graphs_in o)
          by_reports None f a = absurd (cc)
          by_reports (Some reports) f a =
              reports-of script (At later) s is ordered w.coord.rounds reports
              (f ∙ ap (λ k. map (λ i. Rattle.gx_law_locks.specs.Held.first_graph [] i k (w.steps ++ s ∷ [])) (nodes_from 1 script.segments)) (same-count script w r e from round graph b s is ∙ sym r.coord.rounds)) a

      pub ends-round : (later : List Mark) → IsRecheck script (At later) w.coord.rounds (graph_at w.coord.locks) (verdict_at (with_report w.coord graph))
      ends-round later =
          record {
            first = refl;
            here = subst (λ ms. IsGraphAt ms the_coordinator (graph_at w.coord.locks)) (first-is later) (graph-is (marks_in w.steps) the_coordinator w.coord.locks locks.coordinator r.coord.own);
            reports = graphs_in (noted_in w.coord.reports graph);
            are_reports = reported later;
            active = active_in w.coord.table;
            are_active = λ g k. subst (λ ms. is_active ms g ≡ true) (first-is later) (active.listed g k);
            all_active = λ g a. active.all g (subst (λ ms. is_active ms g ≡ true) (sym (first-is later)) a);
            follows = is_verdict_of (edges_of (graph_at w.coord.locks ∷ graphs_in (noted_in w.coord.reports graph))) (active_in w.coord.table);
          }

  -- AN EVENT OF THE COORDINATOR
  module _ (x : NodeEvent) (fails : Bool) (t : IsThere script w e the_coordinator x) (ok : coord_can script w.coord x ≡ true) (ordered : AreOrdered script [] (w.steps ++ coord_step script w e x fails ∷ [])) where
    abbrev clock : ℕ
    clock = clock_after w.coord.clock x

    abbrev Rechecked : CoordTurn → Type 0
    Rechecked turn = AreWorksOfOne turn.coord.works → AreRechecksIn script w.steps e [] (and_cancels_all (victims_at w.coord x) (coord_sends clock turn)).marks

    unended : (turn : CoordTurn) → Each NoRecheck turn.marks → Rechecked turn
    unended turn quiet works =
        no-rechecks script w.steps e [] (and_cancels_all (victims_at w.coord x) (coord_sends clock turn)).marks
        (cancels_all-each IsUnended and-unended (victims_at w.coord x) (coord_sends clock turn)
        (record { marks = each_append NoRecheck turn.marks (numbered turn.coord.sent turn.outs) quiet (sends-no-recheck turn.coord.sent turn.outs); works = works })).marks

    ended : (round : ℕ) (own : LocalGraph) (verdict : Verdict) → ((later : List Mark) → IsRecheck script (At later) round own verdict)
        → (turn : CoordTurn) → HasEnded (mark.Recheck round own verdict) turn → AreRechecksIn script w.steps e [] turn.marks
    ended round own verdict f turn a =
        subst (AreRechecksIn script w.steps e []) (sym a.is) (f a.rest, no-rechecks script w.steps e (mark.Recheck round own verdict ∷ []) a.rest a.quiet)

    graph-ended : (from : Node) (envelope : Envelope) (round : ℕ) (graph : LocalGraph) → x ≡ here.Deliver from envelope → envelope.message ≡ message.Graph round graph → Rechecked (on_graph w.coord from round graph)
    graph-ended from envelope round graph is told =
        graph-ways Rechecked w.coord from round graph (unended (rests w.coord) tt) (λ new. unended (rests (with_report w.coord graph)) tt)
        (λ new all works.
        ended w.coord.rounds (graph_at w.coord.locks) (verdict_at (with_report w.coord graph))
        (ends-round (coord_step script w e x fails) refl ordered from round graph (brings-it script some w good r e x fails t ok from envelope round graph is told) new all)
        (and_cancels_all (victims_at w.coord x) (coord_sends clock (rechecks (with_report w.coord graph))))
        (cancels_all-each (HasEnded first) (and-ended first) (victims_at w.coord x) (coord_sends clock (rechecks (with_report w.coord graph))) (record { rest = []; is = refl; quiet = tt; works = works })))
      where
        first : Mark
        first = mark.Recheck w.coord.rounds (graph_at w.coord.locks) (verdict_at (with_report w.coord graph))

    pub coord-rechecks : AreRechecksIn script w.steps e [] (coord_rule script w.coord x fails).marks
    coord-rechecks =
        coord-ways w.coord script Rechecked x fails r.coord.works (λ turn h q. unended turn (no-recheck turn.marks q.marks)) graph-ended (λ i is. again i)
        (λ is. unended (begins_round script w.coord) tt) (turn-rounded script some w good r e x fails t ok).coord.works
      where
        again : (i : Node) → Rechecked (resends w.coord i (awaited_collect w.coord i))
        again i = by_test (awaits_graph w.coord i)
          where
            by_test : (b : Bool) → Rechecked (resends w.coord i (if b then Some (message.Collect w.coord.rounds) else None))
            by_test true = unended (resends w.coord i (Some (message.Collect w.coord.rounds))) tt
            by_test false = unended (rests w.coord) tt

  -- AN EVENT OF A SEGMENT
  pub seg-rechecks : (x : NodeEvent) (fails : Bool) (i : ℕ) → AreRechecksIn script w.steps e [] (seg_rule script (w.segs i) x fails).marks
  seg-rechecks x fails i =
      seg-ways script (w.segs i) (λ turn. AreRechecksIn script w.steps e [] (seg_sends clock turn).marks) x fails
      (λ turn q.
      no-rechecks script w.steps e [] (seg_sends clock turn).marks
      (each_append NoRecheck turn.marks (numbered (λ node. turn.seg.sent) turn.outs) (no-recheck turn.marks q.marks) (sends-no-recheck (λ node. turn.seg.sent) turn.outs)))
      (λ from envelope round is told.
      collect-ways (λ turn. AreRechecksIn script w.steps e [] (seg_sends clock turn).marks) (w.segs i) round tt (λ newer. tt) (λ same graph kept. tt))
    where
      clock : ℕ
      clock = clock_after (w.segs i).clock x

-- ALL STEPS
record IsKnown (w : World) : Type 0 where
  locks : AreLocksMarked w
  active : AreActive w

pub world-rechecks : (script : Script) → 1 ≤ script.segments → (es : List (Event × Bool)) → EachStep (StepRechecks script) [] (world_of script es).steps
world-rechecks script some =
    at-steps script some IsKnown
    (λ es. record { locks = (world-locked script some es).marked; active = world-active script some es (world_knows script some es) (world-holds script some es) }) (StepRechecks script)
    (λ w good r k e x fails t ok ordered. coord-rechecks script some w good r k.locks k.active e x fails t ok ordered)
    (λ w good r k e x fails i place t ok. seg-rechecks script some w good r k.locks k.active e x fails i)
