-- Over every run of the machine, the nodes hold of rounds what the steps tell.
use Rattle.std.proofs.Common.{◌≡◌, ◌≤◌, ◌<◌, ℕ, zero, suc, ◌+◌, List, [], ◌∷◌, ◌++◌, Option, Some, None, Bool, true, false, not, refl, sym, subst, ap, ◌∙◌, if◌then◌else◌, ◌==◌, ◌&&◌, nat_lt, arith}
use Rattle.std.proofs.lemmas.Bool.{and_parts}
use Rattle.std.proofs.lemmas.Bool.Decides.{nat_tests}
use Rattle.std.specs.Prelude.{is_none, is_some, map, replicate}
use Rattle.gx_ids.specs.declared.ids.Gxid.{Gxid}
use Rattle.gx_ids.specs.declared.ids.Node.{Node}
use Rattle.gx_detect.specs.Rounds.{are_all, lacks}
use Rattle.gx_locks.specs.Graphs.{graph_at}
use Rattle.gx_meaning.specs.Plan.{nodes_from}
use Rattle.gx_msg.specs.declared.message.Envelope.{Envelope}
use Rattle.gx_msg.specs.declared.message.Message.{Message}
use Rattle.gx_msg.specs.declared.message.Message.TheVariants as message
use Rattle.gx_msg.specs.declared.message.Out.{Out}
use Rattle.gx_script.specs.declared.Script.{Script}
use Rattle.gx_store.specs.declared.event.Event.{Event}
use Rattle.gx_store.specs.declared.event.Event.TheVariants as event
use Rattle.gx_store.specs.declared.mark.Mark.{Mark}
use Rattle.gx_store.specs.declared.mark.Mark.TheVariants as mark
use Rattle.gx_store.specs.declared.node.NodeEvent.{NodeEvent}
use Rattle.gx_store.specs.declared.node.NodeEvent.TheVariants as here
use Rattle.gx_store.specs.declared.run.Step.{Step}
use Rattle.gx_store.specs.Journals.{is_same_node}
use Rattle.gx_store.specs.Ordered.{IsSegment}
use Rattle.gx_store.specs.Points.{marks_in}
use Rattle.gx_store.specs.Refusals.{the_coordinator}
use Rattle.gx_store.specs.Rounds.{last_report, last_round}
use Rattle.gx_store.specs.Schedule.{is_graph_awaited, is_round, is_round_running, recheck_count, round_count}
use Rattle.gx_waits.specs.declared.graph.LocalGraph.{LocalGraph}
use Rattle.gx_rules.specs.AtCoordinator.{awaited_collect, cancel_turn, cancels, coord_can, coord_sends, coord_turn, on_event, resends}
use Rattle.gx_rules.specs.AtSegment as segment
use Rattle.gx_rules.specs.AtSegment.{on_collect, reports, reports_again, seg_rule, seg_sends}
use Rattle.gx_rules.specs.Coordinators.{CoordTurn}
use Rattle.gx_rules.specs.Machine.{World, and_cancelled, coord_did, new_world, seg_can, seg_did, world_of}
use Rattle.gx_rules.specs.Rounds.{awaits_graph, begins_round, on_graph}
use Rattle.gx_rules.specs.Segments.{Seg, SegTurn, stays}
use Rattle.gx_rules.specs.Sending.{clock_after, numbered}
use Rattle.gx_rules.proofs.Rounds.{collect-ways}
use Rattle.gx_law_order.proofs.Induction.{IsReceipt, IsThere, at-events, at-moves, from-coordinator, marks-by-victim}
use Rattle.gx_law_order.proofs.Letters.{found_is}
use Rattle.gx_law_order.proofs.Lists.{each_append, each_weaker}
use Rattle.gx_law_order.specs.Lists.{Each}
use Rattle.gx_law_order.proofs.More.{marks-last}
use Rattle.gx_law_order.proofs.Moves.{HasNamed}
use Rattle.gx_law_order.proofs.Ordered.{Well, moves_well}
use Rattle.gx_law_order.proofs.Places.{collects-each}
use Rattle.gx_law_order.proofs.Sent.{at}
use Rattle.gx_law_order.specs.Moves.{Move, world_by}
use Rattle.gx_law_locks.specs.Held.{AreRoundsHeld, first_graph, graph_by, graph_in, reports_by}
use Rattle.gx_law_locks.proofs.RoundsAtCoordinators.{HearsNone, IsLike, IsQuiet, NoGraph, cancel-quiet, coord-ways}
use Rattle.gx_law_locks.proofs.RoundsAtSegments as segments
use Rattle.gx_law_locks.proofs.RoundsAtSegments.{seg-ways}
use Rattle.gx_law_locks.proofs.Heard.{Brings, graph-made}
use Rattle.gx_law_locks.proofs.Places.{lacks-is, map-none}
use Rattle.gx_law_locks.proofs.Rounded.{AreFirst, AreSame, AreTold, CoordMade, IsInTime, IsNoted, IsOwn, IsTold, Rounded, SegMade, coord-rounded, first_now, quiet-made, running, seg-rounded, still-noted, told-of-one}
use Rattle.gx_law_locks.proofs.Sendings.{message-is}
use Rattle.gx_law_locks.proofs.Silent.{NoReport, OfOne, Silent, no-recheck, no-report, no-sent, sends-no-recheck, sends-no-report}
use Rattle.gx_law_locks.proofs.Steps.{NoReportOf, bit, first-more, first-same, none-ends, none-of, received-is, rechecks-more, report-append, report-same, round-append, round-same, rounds-last, rounds-more}

-- A STEP THAT BRINGS NO GRAPH
module _ (script : Script) (some : 1 ≤ script.segments) (w : World) (good : Well script w) (r : Rounded script w) where
  least : (n : ℕ) → n ≤ n
  least n = omega arith

  -- what a receipt brings is what was sent
  brought : (e : Event) (n from : Node) (envelope : Envelope) → IsReceipt script w e n from envelope → (i : Node) (k : ℕ)
      → graph_by w.steps i k e ≡ (if is_same_node from i then graph_in k (Some envelope.message) else None)
  brought e n from envelope t i k =
      subst (λ q. graph_by w.steps i k q ≡ (if is_same_node from i then graph_in k (Some envelope.message) else None)) (sym t.received.is)
      (ap (λ o. if is_same_node from i then graph_in k o else None) (message-is script w.steps from n t.received.number envelope.message good.steps t.received.sent))

  receives-none : (e : Event) (n from : Node) (envelope : Envelope) → IsReceipt script w e n from envelope → is_round e ≡ false
  receives-none e n from envelope t = ap is_round t.received.is

  -- what was sent is of a round that has begun
  told-there : (e : Event) (n from : Node) (envelope : Envelope) → IsReceipt script w e n from envelope → IsTold w.coord.rounds from envelope.message
  told-there e n from envelope t =
      let d = found_is (IsInTime w.coord.rounds) from n t.number w.sent envelope r.letters t.found in
      subst (λ (y : Envelope). IsTold w.coord.rounds from y.message) d.told (subst (λ y. IsTold w.coord.rounds y d.letter.envelope.message) d.source d.is)

  pub record IsSilent (e : Event) : Type 0 where
    pub quiet : is_round e ≡ false
    pub none : (k i : ℕ) → 1 ≤ i → graph_by w.steps (at i) k e ≡ None

  nothing-in : (own : Bool) (k : ℕ) (m : Message) → NoGraph m → (if own then graph_in k (Some m) else None) ≡ None
  nothing-in false k m h = refl
  nothing-in true k (message.Graph round graph) h = absurd h
  nothing-in true k message.Up h = refl
  nothing-in true k (message.Exec g c level x y z) h = refl
  nothing-in true k (message.Prepare g) h = refl
  nothing-in true k (message.Commit g) h = refl
  nothing-in true k (message.CommitPrepared g) h = refl
  nothing-in true k (message.Abort g) h = refl
  nothing-in true k (message.Forget g) h = refl
  nothing-in true k (message.Collect round) h = refl
  nothing-in true k (message.Answer g a) h = refl

  pub silent-event : (e : Event) (x : NodeEvent) → IsThere script w e the_coordinator x → HearsNone x → IsSilent e
  silent-event e (here.Deliver from envelope) t h =
      record { quiet = receives-none e the_coordinator from envelope t; none = λ k i one. brought e the_coordinator from envelope t (at i) k ∙ nothing-in (is_same_node from (at i)) k envelope.message h }
  silent-event e (here.Resume g) t h = subst IsSilent (sym t) (record { quiet = refl; none = λ k i one. refl })
  silent-event e (here.Start s) t h = subst IsSilent (sym t) (record { quiet = refl; none = λ k i one. refl })
  silent-event e (here.End s) t h = subst IsSilent (sym t) (record { quiet = refl; none = λ k i one. refl })
  silent-event e (here.Resend i (Some g)) t h = subst IsSilent (sym t) (record { quiet = refl; none = λ k i one. refl })
  silent-event e (here.Resend i None) t h = absurd h
  silent-event e here.Round t h = absurd h

  pub silent-again : (e : Event) (i : Node) → e ≡ event.Resend i None → IsSilent e
  silent-again e i is = subst IsSilent (sym is) (record { quiet = refl; none = λ k i one. refl })

  pub same-steps : (e : Event) (s : Step) → s.event ≡ e → IsSilent e → AreSame w.steps (w.steps ++ s ∷ [])
  same-steps e s is h =
      record {
        rounds = rounds-last w.steps s ∙ ap (λ q. round_count w.steps + bit (is_round q)) is ∙ ap (λ q. round_count w.steps + bit q) h.quiet ∙ none (round_count w.steps);
        firsts = λ k i one. first-same w.steps (at i) k s (ap (graph_by w.steps (at i) k) is ∙ h.none k i one);
      }
    where
      none : (n : ℕ) → n + 0 ≡ n
      none n = omega arith

  -- THE COORDINATOR
  module _ (e : Event) (x : NodeEvent) (fails : Bool) (t : IsThere script w e the_coordinator x) (ok : coord_can script w.coord x ≡ true) where
    abbrev step : CoordTurn → Step
    step turn = record { stamp = record { clock = clock_after w.coord.clock x; node = the_coordinator }; event = e; marks = (coord_sends (clock_after w.coord.clock x) turn).marks }

    abbrev more : CoordTurn → List Step
    more turn = w.steps ++ step turn ∷ []

    more-marks : (turn : CoordTurn) → marks_in (more turn) ≡ marks_in w.steps ++ (coord_sends (clock_after w.coord.clock x) turn).marks
    more-marks turn = marks-last w.steps (step turn)

    quiet-turn : (turn : CoordTurn) → HearsNone x → IsQuiet w.coord turn → CoordMade script w (more turn) turn
    quiet-turn turn h q =
        quiet-made script w r (clock_after w.coord.clock x) (more turn) turn (more-marks turn) (same-steps e (step turn) refl (silent-event e x t h)) q.coord q.marks
        (each_weaker (λ (o : Out). OfOne o.message) (λ (o : Out). IsTold w.coord.rounds the_coordinator o.message) (λ o. told-of-one w.coord.rounds the_coordinator o.message) turn.outs q.outs)

    -- a request that is sent again
    asked-turn : (i : Node) → x ≡ here.Resend i None → CoordMade script w (more (resends w.coord i (awaited_collect w.coord i))) (resends w.coord i (awaited_collect w.coord i))
    asked-turn i is = by_test (awaits_graph w.coord i)
      where
        made : (turn : CoordTurn) → IsLike w.coord turn.coord → turn.marks ≡ [] → AreTold w.coord.rounds the_coordinator turn.outs → CoordMade script w (more turn) turn
        made turn like none outs =
            quiet-made script w r (clock_after w.coord.clock x) (more turn) turn (more-marks turn) (same-steps e (step turn) refl (silent-again e i (subst (IsThere script w e the_coordinator) is t))) like
            (subst (Each Silent) (sym none) tt) outs

        same : IsLike w.coord w.coord
        same = record { rounds = refl; reports = refl; place = refl; works = r.coord.works }

        by_test : (q : Bool) → CoordMade script w (more (resends w.coord i (if q then Some (message.Collect w.coord.rounds) else None))) (resends w.coord i (if q then Some (message.Collect w.coord.rounds) else None))
        by_test true = made _ same refl (least w.coord.rounds, tt)
        by_test false = made _ same refl tt

    -- a round begins
    begun-turn : x ≡ here.Round → CoordMade script w (more (begins_round script w.coord)) (begins_round script w.coord)
    begun-turn is =
        record {
          marks = tt;
          sends = tt;
          coord = record {
            rounds = ap (λ n. n + 1) r.coord.rounds ∙ sym count;
            counted = counts (recheck_count w.steps) (running w.coord.reports) (round_count w.steps) ends (none-runs w.coord.reports idle) r.coord.counted count;
            reports = sym (map-none (first_now (more turn)) 1 script.segments (λ i one. unheard (round_count (more turn)) i one (rising w.coord.rounds (round_count w.steps) r.coord.rounds count)));
            missing = nobody script.segments some;
            own = r.coord.own;
            works = r.coord.works;
            ahead = λ k i one h. unheard k i one (later w.coord.rounds k h);
          };
          rising = up w.coord.rounds;
          outs = collects-each (λ (o : Out). IsTold (w.coord.rounds + 1) the_coordinator o.message) script.segments (w.coord.rounds + 1) (λ i one within. least (w.coord.rounds + 1));
        }
      where
        turn : CoordTurn
        turn = begins_round script w.coord

        there : e ≡ event.Round
        there = subst (IsThere script w e the_coordinator) is t

        idle : is_none w.coord.reports ≡ true
        idle = (and_parts script.detector (is_none w.coord.reports) (ap (coord_can script w.coord) (sym is) ∙ ok)).1

        count : round_count (more turn) ≡ round_count w.steps + 1
        count = rounds-last w.steps (step turn) ∙ ap (λ q. round_count w.steps + bit (is_round q)) there

        ends : recheck_count (more turn) ≡ recheck_count w.steps + 0
        ends =
            rechecks-more w.steps (more turn) (step turn).marks (more-marks turn)
            ∙ ap (λ n. recheck_count w.steps + n) (none-ends (step turn).marks (sends-no-recheck turn.coord.sent turn.outs))

        none-runs : (o : Option (List (Option LocalGraph))) → is_none o ≡ true → running o ≡ 0
        none-runs None q = refl
        none-runs (Some reports) q = absurd (cc)

        counts : (a x n : ℕ) {b k : ℕ} → b ≡ a + 0 → x ≡ 0 → a + x ≡ n → k ≡ n + 1 → b + 1 ≡ k
        counts a x n f g h i = omega arith

        rising : (a n : ℕ) {k : ℕ} → a ≡ n → k ≡ n + 1 → a < k
        rising a n f g = omega arith

        later : (a k : ℕ) → a + 1 < k → a < k
        later a k h = omega arith

        up : (a : ℕ) → a ≤ a + 1
        up a = omega arith

        unheard : (k i : ℕ) → 1 ≤ i → w.coord.rounds < k → first_graph [] (at i) k (more turn) ≡ None
        unheard k i one h = first-same w.steps (at i) k (step turn) (ap (graph_by w.steps (at i) k) there) ∙ r.coord.ahead k i one h

        nobody : (n : ℕ) → 1 ≤ n → are_all (Some (replicate n None)) ≡ false
        nobody zero one = absurd (never one)
          where
            never : 1 ≤ 0 → ⊥
            never h = omega arith
        nobody (suc n) one = refl

    -- a graph comes
    pub brings-it : (from : Node) (envelope : Envelope) (round : ℕ) (graph : LocalGraph) → x ≡ here.Deliver from envelope → envelope.message ≡ message.Graph round graph → Brings w e from round graph
    brings-it from envelope round graph is told =
        record {
          by = λ i k. brought e the_coordinator from envelope there i k ∙ ap (λ m. if is_same_node from i then graph_in k (Some m) else None) told;
          quiet = receives-none e the_coordinator from envelope there;
          within = of-round.0;
          own = of-round.1;
        }
      where
        there : IsReceipt script w e the_coordinator from envelope
        there = subst (IsThere script w e the_coordinator) is t

        of-round : IsTold w.coord.rounds from (message.Graph round graph)
        of-round = subst (IsTold w.coord.rounds from) told (told-there e the_coordinator from envelope there)

    heard-turn : (from : Node) (envelope : Envelope) (round : ℕ) (graph : LocalGraph) → x ≡ here.Deliver from envelope → envelope.message ≡ message.Graph round graph
        → CoordMade script w (more (on_graph w.coord from round graph)) (on_graph w.coord from round graph)
    heard-turn from envelope round graph is told =
        graph-made script w r e from round graph (brings-it from envelope round graph is told) (step (on_graph w.coord from round graph)) refl (clock_after w.coord.clock x)
        (λ turn same. more-marks (on_graph w.coord from round graph) ∙ ap (λ q. marks_in w.steps ++ (coord_sends (clock_after w.coord.clock x) q).marks) same)

    pub made-turn : CoordMade script w (more (on_event script w.coord x fails)) (on_event script w.coord x fails)
    made-turn = coord-ways w.coord script (λ turn. CoordMade script w (more turn) turn) x fails r.coord.works quiet-turn heard-turn asked-turn begun-turn

    pub turn-rounded : Rounded script (coord_did w e (coord_turn script w.coord x fails))
    turn-rounded = coord-rounded script w r (on_event script w.coord x fails) (clock_after w.coord.clock x) (more (on_event script w.coord x fails)) (more-marks (on_event script w.coord x fails)) made-turn

  pub cancel-rounded : (g : Gxid) → HasNamed w.steps w.coord.clock w.coord.rounds g → Rounded script (and_cancelled w g)
  cancel-rounded g h =
      coord-rounded script w r (cancels w.coord g) w.coord.clock (and_cancelled w g).steps (marks-by-victim w g h)
      (quiet-made script w r w.coord.clock (and_cancelled w g).steps (cancels w.coord g) (marks-by-victim w g h)
      (record { rounds = rounds-more w.steps (cancel_turn w.coord g).marks; firsts = λ k i one. first-more [] (at i) k w.steps (cancel_turn w.coord g).marks }) q.coord q.marks
      (each_weaker (λ (o : Out). OfOne o.message) (λ (o : Out). IsTold w.coord.rounds the_coordinator o.message) (λ o. told-of-one w.coord.rounds the_coordinator o.message) (cancels w.coord g).outs q.outs))
    where
      q : IsQuiet w.coord (cancels w.coord g)
      q = cancel-quiet w.coord g r.coord.works

  -- A SEGMENT
  module _ (e : Event) (x : NodeEvent) (fails : Bool) (i : ℕ) (place : IsSegment script (at i)) (t : IsThere script w e (at i) x) (ok : seg_can script (w.segs i) x ≡ true) where
    abbrev s : Seg
    s = w.segs i

    noted : IsNoted (marks_in w.steps) w.coord.rounds (at i) s
    noted = r.segments i place.0

    -- it hears from the coordinator alone, who reports nothing
    pub silent-here : IsSilent e
    silent-here = by_event x t ok
      where
        away : (j : ℕ) → 1 ≤ j → is_same_node the_coordinator (at j) ≡ false
        away j one = grind (arith, nat_tests)

        by_event : (y : NodeEvent) → IsThere script w e (at i) y → seg_can script s y ≡ true → IsSilent e
        by_event (here.Deliver from envelope) t ok =
            record {
              quiet = receives-none e (at i) from envelope t;
              none = λ k j one.
                  brought e (at i) from envelope t (at j) k
                  ∙ ap (λ (q : Bool). if q then graph_in k (Some envelope.message) else None) (ap (λ n. is_same_node n (at j)) (from-coordinator script i from place.0 t.link) ∙ away j one);
            }
        by_event (here.Resume g) t ok = subst IsSilent (sym t) (record { quiet = refl; none = λ k j one. refl })
        by_event (here.Start y) t ok = absurd (cc)
        by_event (here.End y) t ok = absurd (cc)
        by_event (here.Resend j g) t ok = absurd (cc)
        by_event here.Round t ok = absurd (cc)

    quiet-serve : (turn : SegTurn) → segments.IsQuiet s turn → SegMade w i turn
    quiet-serve turn q =
        record {
          marks = no-recheck turn.marks q.marks;
          sends = no-sent turn.marks q.marks;
          others = λ j apart. none-of (at j) turn.marks (no-report turn.marks q.marks);
          seg = λ f outs.
              let ms : List Mark = turn.marks ++ numbered f outs in
              let k = still-noted (marks_in w.steps) ms w.coord.rounds w.coord.rounds (at i) s (least w.coord.rounds)
              (none-of (at i) ms (each_append NoReport turn.marks (numbered f outs) (no-report turn.marks q.marks) (sends-no-report f outs))) noted in
              record {
                own = q.place ∙ k.own;
                within = subst (λ n. n ≤ w.coord.rounds) (sym q.round) k.within;
                round = q.round ∙ k.round;
                graph = q.graph ∙ k.graph ∙ ap (λ n. last_report (at i) n None (marks_in w.steps ++ ms)) (sym q.round);
                kept = subst (IsOwn (at i)) (sym q.graph) k.kept;
              };
          outs = each_weaker (λ (o : Out). OfOne o.message) (λ (o : Out). IsTold w.coord.rounds (at i) o.message) (λ o. told-of-one w.coord.rounds (at i) o.message) turn.outs q.outs;
        }

    -- its own graph goes out
    sent-serve : (round : ℕ) (graph : LocalGraph) → round ≤ w.coord.rounds → graph.node ≡ at i → SegMade w i (reports_again s round (Some graph))
    sent-serve round graph within own =
        let k = quiet-serve (stays s) (record { place = refl; round = refl; graph = refl; marks = tt; outs = tt }) in
        record { marks = tt; sends = tt; others = k.others; seg = k.seg; outs = ((within, own), tt) }

    new-serve : (round : ℕ) → round ≤ w.coord.rounds → SegMade w i (reports s round (graph_at s.locks))
    new-serve round within =
        record {
          marks = (tt, tt);
          sends = (tt, tt);
          others = λ j apart. (ap (λ n. is_same_node n (at j)) (good.names i) ∙ apart, tt);
          seg = λ f outs. new-noted f outs;
          outs = ((within, noted.own), tt);
        }
      where
        graph : LocalGraph
        graph = graph_at s.locks

        one-more : (f : ℕ → ℕ) (outs : List Out) → List Mark
        one-more f outs = mark.Report s.node round (graph_at s.locks) ∷ numbered f outs

        own-node : (s.node.0 == i) ≡ true
        own-node = ap (λ (n : Node). n.0 == i) (good.names i) ∙ self i
          where
            self : (n : ℕ) → (n == n) ≡ true
            self n = grind (arith, nat_tests)

        both-own : ((s.node.0 == i) && (round == round)) ≡ true
        both-own = ap (λ q. q && (round == round)) own-node ∙ self round
          where
            self : (n : ℕ) → (n == n) ≡ true
            self n = grind (arith, nat_tests)

        quiet : (f : ℕ → ℕ) (outs : List Out) → Each (NoReportOf (at i)) (numbered f outs)
        quiet f outs = none-of (at i) (numbered f outs) (sends-no-report f outs)

        new-noted : (f : ℕ → ℕ) (outs : List Out) → IsNoted (marks_in w.steps ++ (mark.Report s.node round (graph_at s.locks) ∷ numbered f outs)) w.coord.rounds (at i) (record s { round = round; graph = Some (graph_at s.locks) })
        new-noted f outs =
            record {
              own = noted.own;
              within = within;
              round =
                  sym (round-append (at i) 0 (marks_in w.steps) (mark.Report s.node round (graph_at s.locks) ∷ numbered f outs)
                  ∙ ap (λ (q : Bool). last_round (at i) (if q then round else last_round (at i) 0 (marks_in w.steps)) (numbered f outs)) own-node
                  ∙ round-same (at i) round (numbered f outs) (quiet f outs));
              graph =
                  sym (report-append (at i) round None (marks_in w.steps) (mark.Report s.node round (graph_at s.locks) ∷ numbered f outs)
                  ∙ ap (λ (q : Bool). last_report (at i) round (if q then Some (graph_at s.locks) else last_report (at i) round None (marks_in w.steps)) (numbered f outs)) both-own
                  ∙ report-same (at i) round (Some (graph_at s.locks)) (numbered f outs) (quiet f outs));
              kept = noted.own;
            }

    asked-serve : (from : Node) (envelope : Envelope) (round : ℕ) → x ≡ here.Deliver from envelope → envelope.message ≡ message.Collect round → SegMade w i (on_collect s round)
    asked-serve from envelope round is told =
        collect-ways (SegMade w i) s round (quiet-serve (stays s) (record { place = refl; round = refl; graph = refl; marks = tt; outs = tt })) (λ new. new-serve round begun)
        (λ same graph is. sent-serve round graph begun (subst (IsOwn (at i)) is noted.kept))
      where
        begun : round ≤ w.coord.rounds
        begun = subst (IsTold w.coord.rounds from) told (told-there e (at i) from envelope (subst (IsThere script w e (at i)) is t))

    pub serve-rounded : Rounded script (seg_did w (at i) e (seg_rule script s x fails))
    serve-rounded =
        seg-rounded script w r i (clock_after s.clock x) e (segment.on_event script s x fails)
        (seg-ways script s (SegMade w i) x fails quiet-serve asked-serve) (same-steps e _ refl silent-here)

-- ALL RUNS
module _ (script : Script) (some : 1 ≤ script.segments) where
  new-rounded : Rounded script new_world
  new-rounded =
      record {
        coord = record { rounds = refl; counted = refl; reports = tt; missing = refl; own = refl; works = λ g. tt; ahead = λ k i one h. refl };
        segments = λ i one. record { own = refl; within = none 0; round = refl; graph = refl; kept = tt };
        letters = tt;
      }
    where
      none : (n : ℕ) → n ≤ n
      none n = omega arith

  pub moves-rounded : (ms : List Move) → Rounded script (world_by script ms)
  moves-rounded =
      at-moves script some (Well script) (Rounded script) (moves_well script some) new-rounded
      (λ w good r e x fails t ok next. turn-rounded script some w good r e x fails t ok)
      (λ w good r g h next. cancel-rounded script some w good r g h)
      (λ w good r e x fails i place t ok next. serve-rounded script some w good r e x fails i place t ok)

  pub world-rounded : (es : List (Event × Bool)) → Rounded script (world_of script es)
  world-rounded =
      at-events script some (Well script) (Rounded script) (moves_well script some) new-rounded
      (λ w good r e x fails t ok next. turn-rounded script some w good r e x fails t ok)
      (λ w good r g h next. cancel-rounded script some w good r g h)
      (λ w good r e x fails i place t ok next. serve-rounded script some w good r e x fails i place t ok)

-- WHAT THAT SAYS
module _ (script : Script) (w : World) (r : Rounded script w) where
  runs : (o : Option (List (Option LocalGraph))) → recheck_count w.steps + running o ≡ round_count w.steps → is_round_running w.steps ≡ is_some o
  runs None e = none (recheck_count w.steps) (round_count w.steps) e
    where
      none : (a n : ℕ) → a + 0 ≡ n → nat_lt a n ≡ false
      none a n e = grind (arith, nat_tests)
  runs (Some reports) e = one (recheck_count w.steps) (round_count w.steps) e
    where
      one : (a n : ℕ) → a + 1 ≡ n → nat_lt a n ≡ true
      one a n e = grind (arith, nat_tests)

  pub running-is : is_round_running w.steps ≡ is_some w.coord.reports
  running-is = runs w.coord.reports r.coord.counted

  reports-are : w.coord.reports ≡ reports_by script w.steps
  reports-are = by_reports w.coord.reports r.coord.reports ∙ ap (λ (q : Bool). if q then Some (map (first_now w.steps) (nodes_from 1 script.segments)) else None) (sym running-is)
    where
      by_reports : (o : Option (List (Option LocalGraph))) → AreFirst script w.steps o → o ≡ (if is_some o then Some (map (first_now w.steps) (nodes_from 1 script.segments)) else None)
      by_reports None f = refl
      by_reports (Some reports) f = ap Some f

  pub awaited-is : (i : Node) → IsSegment script i → awaits_graph w.coord i ≡ is_graph_awaited w.steps i
  awaited-is i place =
      by_reports w.coord.reports r.coord.reports
      ∙ ap (λ (q : Bool). q && not (is_some (first_now w.steps i))) (sym running-is)
      ∙ ap (λ (q : Bool). is_round_running w.steps && not q) (sym (received-is [] i (round_count w.steps) w.steps))
    where
      within : (a n : ℕ) → a ≤ n → a < 1 + n
      within a n h = omega arith

      none-not : (o : Option LocalGraph) → is_none o ≡ not (is_some o)
      none-not None = refl
      none-not (Some x) = refl

      by_reports : (o : Option (List (Option LocalGraph))) → AreFirst script w.steps o → lacks o i ≡ (is_some o && not (is_some (first_now w.steps i)))
      by_reports None f = refl
      by_reports (Some reports) f =
          ap (λ rs. lacks (Some rs) i) f ∙ lacks-is (first_now w.steps) i 1 script.segments place.0 (within i.0 script.segments place.1) ∙ none-not (first_now w.steps i)

  pub rounds-held : AreRoundsHeld script w
  rounds-held =
      record {
        coordinator = record { rounds = r.coord.rounds; reports = reports-are; awaited = awaited-is; own = r.coord.own };
        segments = λ i one. let k = r.segments i one in record { round = k.round; graph = k.graph; own = k.own };
      }
