-- Whom the steps ask for their graphs, and which rounds they end.
use Rattle.std.proofs.Common.{◌≡◌, ◌≤◌, ◌<◌, ℕ, zero, suc, ◌+◌, List, [], ◌∷◌, ◌++◌, Option, Some, None, Bool, true, false, refl, sym, subst, ap, ◌∙◌, if◌then◌else◌, ◌==◌, ◌&&◌, arith, append-nil}
use Rattle.std.proofs.lemmas.Bool.{and_parts}
use Rattle.std.specs.List.{list_all, range_with_len}
use Rattle.std.specs.Prelude.{is_none, is_some, map}
use Rattle.gx_ids.specs.declared.ids.Gxid.{Gxid}
use Rattle.gx_ids.specs.declared.ids.Node.{Node}
use Rattle.gx_detect.specs.Rounds.{are_all, lacks}
use Rattle.gx_detect.specs.Reports.{lacks_from}
use Rattle.gx_meaning.specs.Plan.{nodes_from}
use Rattle.gx_msg.specs.declared.message.Message.{Message}
use Rattle.gx_msg.specs.declared.message.Message.TheVariants as message
use Rattle.gx_msg.specs.declared.message.Out.{Out}
use Rattle.gx_script.specs.declared.Script.{Script}
use Rattle.gx_store.specs.declared.event.Event.{Event}
use Rattle.gx_store.specs.declared.mark.Mark.{Mark}
use Rattle.gx_store.specs.declared.mark.Mark.TheVariants as mark
use Rattle.gx_store.specs.declared.node.NodeEvent.{NodeEvent}
use Rattle.gx_store.specs.declared.node.NodeEvent.TheVariants as here
use Rattle.gx_store.specs.declared.run.Step.{Step}
use Rattle.gx_store.specs.Ordered.{IsSegment}
use Rattle.gx_store.specs.Refusals.{the_coordinator}
use Rattle.gx_store.specs.Rounds.{Asks, Ends, collects_in, is_complete_behind, rechecks_in}
use Rattle.gx_store.specs.Schedule.{is_graph_received, round_count, segments_of}
use Rattle.gx_waits.specs.declared.graph.LocalGraph.{LocalGraph}
use Rattle.gx_rules.specs.AtCoordinator.{and_cancels, and_cancels_all, awaited_collect, cancel_turn, cancels, coord_can, coord_rule, coord_sends, coord_turn, resends}
use Rattle.gx_rules.specs.AtSegment.{reports, seg_rule, seg_sends}
use Rattle.gx_rules.specs.Coordinators.{Coord, CoordTurn, rests}
use Rattle.gx_rules.specs.Machine.{World, seg_can, world_of}
use Rattle.gx_rules.specs.Rounds.{awaits_graph, begins_round, is_report, noted_in, on_graph, once_all, rechecks, victims_at, with_report}
use Rattle.gx_rules.specs.Sending.{clock_after, counted, numbered}
use Rattle.gx_rules.proofs.Rounds.{collect-ways, graph-ways}
use Rattle.gx_rules.proofs.Turns.{cancels_all-each}
use Rattle.gx_law_order.proofs.Induction.{IsThere}
use Rattle.gx_law_order.proofs.Lists.{each_weaker}
use Rattle.gx_law_order.specs.Lists.{Each}
use Rattle.gx_law_order.proofs.Ordered.{Well}
use Rattle.gx_law_order.proofs.Sent.{at}
use Rattle.gx_law_locks.specs.Held.{first_graph}
use Rattle.gx_law_locks.specs.Steps.{EachStep, StepAsks}
use Rattle.gx_law_locks.proofs.RoundsAtCoordinators.{AreWorksOfOne, HearsNone, IsQuiet, cancel-quiet, coord-ways}
use Rattle.gx_law_locks.proofs.RoundsAtSegments.{seg-ways}
use Rattle.gx_law_locks.proofs.Heard.{Brings, fits, not-taken, same-count, taken}
use Rattle.gx_law_locks.proofs.Places.{all-is, lacks-within}
use Rattle.gx_law_locks.proofs.Rounded.{AreFirst, AreSame, Rounded, first_now, still-first}
use Rattle.gx_law_locks.proofs.Silent.{AreOfOne, OfOne, Silent}
use Rattle.gx_law_locks.proofs.Walks.{at-steps, coord_step, seg_step}
use Rattle.gx_law_locks.proofs.Steps.{received-is}
use Rattle.gx_law_locks.proofs.RoundsInRuns.{awaited-is, brings-it, running-is, same-steps, silent-again, silent-event, silent-here, turn-rounded}

-- WHAT MARKS ASK
pub collects-append : (xs ys : List Mark) → collects_in (xs ++ ys) ≡ collects_in xs ++ collects_in ys
collects-append [] ys = refl
collects-append (mark.Sent to number (message.Collect round) ∷ xs) ys = ap (λ q. (to, round) ∷ q) (collects-append xs ys)
collects-append (m ∷ xs) ys = collects-append xs ys

pub silent-collects : (ms : List Mark) → Each Silent ms → collects_in ms ≡ []
silent-collects [] e = refl
silent-collects (mark.Sent to number told ∷ ms) e = absurd e.0
silent-collects (m ∷ ms) e = silent-collects ms e.1

-- no request is among the messages
abbrev AsksNone : Message → Type 0
AsksNone (message.Collect round) = ⊥
AsksNone _ = Unit {0}

sent-none : (f : ℕ → ℕ) (outs : List Out) → Each (λ o. AsksNone o.message) outs → collects_in (numbered f outs) ≡ []
sent-none f [] e = refl
sent-none f (o ∷ outs) e = by_message o.message e.0 (sent-none (counted f o) outs e.1)
  where
    by_message : (m : Message) → AsksNone m → collects_in (numbered (counted f o) outs) ≡ [] → collects_in (mark.Sent o.node (f o.node.0 + 1) m ∷ numbered (counted f o) outs) ≡ []
    by_message (message.Collect round) h later = absurd h
    by_message (message.Exec g c level x k y) h later = later
    by_message (message.Prepare g) h later = later
    by_message (message.Commit g) h later = later
    by_message (message.CommitPrepared g) h later = later
    by_message (message.Abort g) h later = later
    by_message (message.Forget g) h later = later
    by_message (message.Answer g r) h later = later
    by_message (message.Graph round graph) h later = later
    by_message message.Up h later = later

of-one-asks-none : (m : Message) → OfOne m → AsksNone m
of-one-asks-none (message.Collect round) e = absurd e
of-one-asks-none (message.Graph round graph) e = absurd e
of-one-asks-none message.Up e = absurd e
of-one-asks-none (message.Exec g c level x k y) e = tt
of-one-asks-none (message.Prepare g) e = tt
of-one-asks-none (message.Commit g) e = tt
of-one-asks-none (message.CommitPrepared g) e = tt
of-one-asks-none (message.Abort g) e = tt
of-one-asks-none (message.Forget g) e = tt
of-one-asks-none (message.Answer g r) e = tt

quiet-collects : (ms : List Mark) (f : ℕ → ℕ) (outs : List Out) → Each Silent ms → AreOfOne outs → collects_in (ms ++ numbered f outs) ≡ []
quiet-collects ms f outs e o =
    collects-append ms (numbered f outs) ∙ ap (λ q. q ++ collects_in (numbered f outs)) (silent-collects ms e)
    ∙ sent-none f outs (each_weaker (λ (x : Out). OfOne x.message) (λ (x : Out). AsksNone x.message) (λ x. of-one-asks-none x.message) outs o)

-- a round's beginning asks each segment
all-asked : (f : ℕ → ℕ) (round k n : ℕ)
    → collects_in (numbered f (map (λ i. record { node = record { 0 = i }; message = message.Collect round }) (range_with_len k n))) ≡ map (λ segment. (segment, round)) (nodes_from k n)
all-asked f round k zero = refl
all-asked f round k (suc n) = ap (λ q. (at k, round) ∷ q) (all-asked (counted f (record { node = at k; message = message.Collect round })) round (k + 1) n)

-- WHICH ROUNDS MARKS END
pub rechecks-append : (xs ys : List Mark) → rechecks_in (xs ++ ys) ≡ rechecks_in xs ++ rechecks_in ys
rechecks-append [] ys = refl
rechecks-append (mark.Recheck round own verdict ∷ xs) ys = ap (λ q. round ∷ q) (rechecks-append xs ys)
rechecks-append (m ∷ xs) ys = rechecks-append xs ys

pub silent-rechecks : (ms : List Mark) → Each Silent ms → rechecks_in ms ≡ []
silent-rechecks [] e = refl
silent-rechecks (mark.Recheck round own verdict ∷ ms) e = absurd e.0
silent-rechecks (m ∷ ms) e = silent-rechecks ms e.1

sent-rechecks : (f : ℕ → ℕ) (outs : List Out) → rechecks_in (numbered f outs) ≡ []
sent-rechecks f [] = refl
sent-rechecks f (o ∷ outs) = sent-rechecks (counted f o) outs

with-sent : (ms : List Mark) (f : ℕ → ℕ) (outs : List Out) → rechecks_in (ms ++ numbered f outs) ≡ rechecks_in ms
with-sent ms f outs = rechecks-append ms (numbered f outs) ∙ ap (λ q. rechecks_in ms ++ q) (sent-rechecks f outs) ∙ append-nil (rechecks_in ms)

-- VICTIMS
-- behind a turn they ask nobody, and end no round
record IsAll (collected : List (Node × ℕ)) (ended : List ℕ) (turn : CoordTurn) : Type 0 where
  asks : collects_in turn.marks ≡ collected
  ends : rechecks_in turn.marks ≡ ended
  works : AreWorksOfOne turn.coord.works

and-all : (collected : List (Node × ℕ)) (ended : List ℕ) (turn : CoordTurn) (g : Gxid) → IsAll collected ended turn → IsAll collected ended (and_cancels turn g)
and-all collected ended turn g a =
    record {
      asks = collects-append turn.marks (cancel_turn turn.coord g).marks ∙ ap (λ x. collects_in turn.marks ++ x) (quiet-collects t.marks t.coord.sent t.outs q.marks q.outs) ∙ append-nil (collects_in turn.marks) ∙ a.asks;
      ends = rechecks-append turn.marks (cancel_turn turn.coord g).marks ∙ ap (λ x. rechecks_in turn.marks ++ x) (with-sent t.marks t.coord.sent t.outs ∙ silent-rechecks t.marks q.marks) ∙ append-nil (rechecks_in turn.marks) ∙ a.ends;
      works = q.coord.works;
    }
  where
    t : CoordTurn
    t = cancels turn.coord g

    q : IsQuiet turn.coord (cancels turn.coord g)
    q = cancel-quiet turn.coord g a.works

victims-all : (collected : List (Node × ℕ)) (ended : List ℕ) (gs : List Gxid) (turn : CoordTurn) → IsAll collected ended turn → IsAll collected ended (and_cancels_all gs turn)
victims-all collected ended gs turn a = cancels_all-each (IsAll collected ended) (and-all collected ended) gs turn a

-- AT THE COORDINATOR
abbrev asked_at : Script → Coord → NodeEvent → List (Node × ℕ)
asked_at script c (here.Resend i None) = (i, c.rounds) ∷ []
asked_at script c here.Round = map (λ segment. (segment, c.rounds + 1)) (segments_of script)
asked_at script c _ = []

none-asked : (script : Script) (c : Coord) (x : NodeEvent) → HearsNone x → asked_at script c x ≡ []
none-asked script c (here.Deliver from envelope) h = refl
none-asked script c (here.Resume g) h = refl
none-asked script c (here.Start s) h = refl
none-asked script c (here.End s) h = refl
none-asked script c (here.Resend i (Some g)) h = refl
none-asked script c (here.Resend i None) h = absurd h
none-asked script c here.Round h = absurd h

module _ (script : Script) (some : 1 ≤ script.segments) (w : World) (good : Well script w) (r : Rounded script w) (e : Event) where
  -- WHETHER A ROUND IS COMPLETE
  module _ (s : Step) where
    abbrev more : List Step
    more = w.steps ++ s ∷ []

    abbrev EndsWith : List ℕ → Type 0
    EndsWith ended = ended ≡ (if is_complete_behind script w.steps s then round_count w.steps ∷ [] else [])

    complete-by : (o : Option (List (Option LocalGraph))) → AreFirst script more o → round_count more ≡ round_count w.steps → is_some o ≡ is_some w.coord.reports → is_complete_behind script w.steps s ≡ are_all o
    complete-by o f count same = ap (λ b. b && list_all received (segments_of script)) (running-is script w r ∙ sym same) ∙ by_reports o f
      where
        received : Node → Bool
        received i = is_graph_received [] i (round_count w.steps) (w.steps ++ s ∷ [])

        received-first : (i : Node) → received i ≡ is_some (first_now more i)
        received-first i = received-is [] i (round_count w.steps) more ∙ ap (λ n. is_some (first_graph [] i n more)) (sym count)

        by_reports : (o : Option (List (Option LocalGraph))) → AreFirst script more o → (is_some o && list_all received (segments_of script)) ≡ are_all o
        by_reports None f = refl
        by_reports (Some reports) f = sym (ap (λ rs. list_all is_some rs) f ∙ all-is (first_now more) received 1 script.segments received-first)

    not-ended : is_complete_behind script w.steps s ≡ false → EndsWith []
    not-ended differs = sym (ap (λ (b : Bool). if b then round_count w.steps ∷ [] else []) differs)

    ended-now : is_complete_behind script w.steps s ≡ true → EndsWith (w.coord.rounds ∷ [])
    ended-now agrees = ap (λ n. n ∷ []) r.coord.rounds ∙ sym (ap (λ (b : Bool). if b then round_count w.steps ∷ [] else []) agrees)

    -- a step that brings no graph ends none
    silent-ends : AreSame w.steps more → EndsWith []
    silent-ends same = not-ended (complete-by w.coord.reports (still-first script w.steps more same w.coord.reports r.coord.reports) same.rounds refl ∙ r.coord.missing)

    idle-ends : is_none w.coord.reports ≡ true → EndsWith []
    idle-ends none = not-ended (ap (λ b. b && list_all (λ i. is_graph_received [] i (round_count w.steps) more) (segments_of script)) (running-is script w r ∙ none-some w.coord.reports none))
      where
        none-some : (o : Option (List (Option LocalGraph))) → is_none o ≡ true → is_some o ≡ false
        none-some None e = refl
        none-some (Some x) e = absurd (cc)

    graph-ends : (from : Node) (round : ℕ) (graph : LocalGraph) → Brings w e from round graph → s.event ≡ e → EndsWith (rechecks_in (on_graph w.coord from round graph).marks)
    graph-ends from round graph b is = by_report (is_report w.coord from round graph) refl
      where
        still-some : (o : Option (List (Option LocalGraph))) → is_some (noted_in o graph) ≡ is_some o
        still-some None = refl
        still-some (Some reports) = refl

        fit : is_report w.coord from round graph ≡ ((round == round_count w.steps) && awaits_graph w.coord from)
        fit = fits script w r e from round graph b s is

        complete : is_report w.coord from round graph ≡ true → is_complete_behind script w.steps s ≡ are_all (with_report w.coord graph).reports
        complete q =
            complete-by (noted_in w.coord.reports graph)
            (taken script w r e from round graph b s is w.coord.reports r.coord.reports (and_parts (round == round_count w.steps) (awaits_graph w.coord from) (sym fit ∙ q)).0)
            (same-count script w r e from round graph b s is) (still-some w.coord.reports)

        by_all : is_report w.coord from round graph ≡ true → (q : Bool) → are_all (with_report w.coord graph).reports ≡ q
            → EndsWith (rechecks_in (if q then rechecks (with_report w.coord graph) else rests (with_report w.coord graph)).marks)
        by_all y true a = ended-now (complete y ∙ a)
        by_all y false a = not-ended (complete y ∙ a)

        by_report : (q : Bool) → is_report w.coord from round graph ≡ q → EndsWith (rechecks_in (if q then once_all (with_report w.coord graph) else rests w.coord).marks)
        by_report true q = by_all q (are_all (with_report w.coord graph).reports) refl
        by_report false q =
            not-ended
            (complete-by w.coord.reports (not-taken script w r e from round graph b s is w.coord.reports r.coord.reports (sym fit ∙ q)) (same-count script w r e from round graph b s is) refl ∙ r.coord.missing)

  -- AN EVENT OF THE COORDINATOR
  module _ (x : NodeEvent) (fails : Bool) (t : IsThere script w e the_coordinator x) (ok : coord_can script w.coord x ≡ true) where
    abbrev clock : ℕ
    clock = clock_after w.coord.clock x

    asks-turn : collects_in (coord_turn script w.coord x fails).marks ≡ asked_at script w.coord x
    asks-turn =
        coord-ways w.coord script (λ turn. collects_in (coord_sends clock turn).marks ≡ asked_at script w.coord x) x fails r.coord.works
        (λ turn h q. quiet-collects turn.marks turn.coord.sent turn.outs q.marks q.outs ∙ sym (none-asked script w.coord x h))
        (λ from envelope round graph is told. graph-asks from round graph ∙ sym (ap (asked_at script w.coord) is))
        (λ i is. again i (ap (coord_can script w.coord) (sym is) ∙ ok) ∙ sym (ap (asked_at script w.coord) is))
        (λ is. all-asked (begins_round script w.coord).coord.sent (w.coord.rounds + 1) 1 script.segments ∙ sym (ap (asked_at script w.coord) is))
      where
        graph-asks : (from : Node) (round : ℕ) (graph : LocalGraph) → collects_in (coord_sends clock (on_graph w.coord from round graph)).marks ≡ []
        graph-asks from round graph = graph-ways (λ turn. collects_in (coord_sends clock turn).marks ≡ []) w.coord from round graph refl (λ q. refl) (λ q a. refl)

        again : (i : Node) → awaits_graph w.coord i ≡ true → collects_in (coord_sends clock (resends w.coord i (awaited_collect w.coord i))).marks ≡ (i, w.coord.rounds) ∷ []
        again i q = ap (λ (b : Bool). collects_in (coord_sends clock (resends w.coord i (if b then Some (message.Collect w.coord.rounds) else None))).marks) q

    ends-turn : (s : Step) → s.event ≡ e → EndsWith s (rechecks_in (coord_turn script w.coord x fails).marks)
    ends-turn s is =
        coord-ways w.coord script (λ turn. EndsWith s (rechecks_in (coord_sends clock turn).marks)) x fails r.coord.works
        (λ turn h q. subst (EndsWith s) (sym (with-sent turn.marks turn.coord.sent turn.outs ∙ silent-rechecks turn.marks q.marks)) (silent-ends s (same-steps script some w good r e s is (silent-event script some w good r e x t h))))
        (λ from envelope round graph there told.
        subst (EndsWith s) (sym (with-sent (on_graph w.coord from round graph).marks (on_graph w.coord from round graph).coord.sent (on_graph w.coord from round graph).outs))
        (graph-ends s from round graph (brings-it script some w good r e x fails t ok from envelope round graph there told) is))
        (λ i there.
        subst (EndsWith s) (sym (resent i))
        (silent-ends s (same-steps script some w good r e s is (silent-again script some w good r e i (subst (IsThere script w e the_coordinator) there t)))))
        (λ there.
        subst (EndsWith s) (sym (with-sent [] (begins_round script w.coord).coord.sent (begins_round script w.coord).outs))
        (idle-ends s (and_parts script.detector (is_none w.coord.reports) (ap (coord_can script w.coord) (sym there) ∙ ok)).1))
      where
        resent : (i : Node) → rechecks_in (coord_sends clock (resends w.coord i (awaited_collect w.coord i))).marks ≡ []
        resent i = by_test (awaits_graph w.coord i)
          where
            by_test : (b : Bool) → rechecks_in (coord_sends clock (resends w.coord i (if b then Some (message.Collect w.coord.rounds) else None))).marks ≡ []
            by_test true = refl
            by_test false = refl

    works-turn : AreWorksOfOne (coord_turn script w.coord x fails).coord.works
    works-turn = (turn-rounded script some w good r e x fails t ok).coord.works

    all-of-it : IsAll (asked_at script w.coord x) (rechecks_in (coord_turn script w.coord x fails).marks) (coord_rule script w.coord x fails)
    all-of-it =
        victims-all (asked_at script w.coord x) (rechecks_in (coord_turn script w.coord x fails).marks) (victims_at w.coord x) (coord_turn script w.coord x fails)
        (record { asks = asks-turn; ends = refl; works = works-turn })

    pub coord-ends : Ends script w.steps (coord_step script w e x fails)
    coord-ends = all-of-it.ends ∙ ends-turn (coord_step script w e x fails) refl

    segment-of : (i : Node) → awaits_graph w.coord i ≡ true → IsSegment script i
    segment-of i = by_reports w.coord.reports r.coord.reports
      where
        within : (a n : ℕ) → a < 1 + n → a ≤ n
        within a n h = omega arith

        by_reports : (o : Option (List (Option LocalGraph))) → AreFirst script w.steps o → lacks o i ≡ true → IsSegment script i
        by_reports None f q = absurd (cc)
        by_reports (Some reports) f q =
            let z = lacks-within (first_now w.steps) i 1 script.segments (sym (ap (λ rs. lacks_from 1 rs i) f) ∙ q) in
            (z.0, within i.0 script.segments z.1)

    pub coord-asks : Asks script w.steps e (coord_rule script w.coord x fails).marks
    coord-asks = by_event x t ok all-of-it.asks
      where
        ms : List Mark
        ms = (coord_rule script w.coord x fails).marks

        by_event : (y : NodeEvent) → IsThere script w e the_coordinator y → coord_can script w.coord y ≡ true → collects_in (coord_rule script w.coord x fails).marks ≡ asked_at script w.coord y
            → Asks script w.steps e (coord_rule script w.coord x fails).marks
        by_event (here.Deliver from envelope) t ok a = subst (λ q. Asks script w.steps q (coord_rule script w.coord x fails).marks) (sym t.received.is) a
        by_event (here.Resume g) t ok a = subst (λ q. Asks script w.steps q (coord_rule script w.coord x fails).marks) (sym t) a
        by_event (here.Start s) t ok a = subst (λ q. Asks script w.steps q (coord_rule script w.coord x fails).marks) (sym t) a
        by_event (here.End s) t ok a = subst (λ q. Asks script w.steps q (coord_rule script w.coord x fails).marks) (sym t) a
        by_event (here.Resend i (Some g)) t ok a = subst (λ q. Asks script w.steps q (coord_rule script w.coord x fails).marks) (sym t) a
        by_event (here.Resend i None) t ok a =
            subst (λ q. Asks script w.steps q (coord_rule script w.coord x fails).marks) (sym t)
            (sym (awaited-is script w r i (segment-of i ok)) ∙ ok, a ∙ ap (λ n. (i, n) ∷ []) r.coord.rounds)
        by_event here.Round t ok a =
            let z = and_parts script.detector (is_none w.coord.reports) ok in
            subst (λ q. Asks script w.steps q (coord_rule script w.coord x fails).marks) (sym t)
            (z.0, running-is script w r ∙ none-some w.coord.reports z.1, a ∙ ap (λ n. map (λ segment. (segment, n + 1)) (segments_of script)) r.coord.rounds)
          where
            none-some : (o : Option (List (Option LocalGraph))) → is_none o ≡ true → is_some o ≡ false
            none-some None e = refl
            none-some (Some x) e = absurd (cc)

  -- AN EVENT OF A SEGMENT
  module _ (x : NodeEvent) (fails : Bool) (i : ℕ) (place : IsSegment script (at i)) (t : IsThere script w e (at i) x) (ok : seg_can script (w.segs i) x ≡ true) where
    abbrev seg_clock : ℕ
    seg_clock = clock_after (w.segs i).clock x

    seg-says : (collects_in (seg_rule script (w.segs i) x fails).marks ≡ []) × (rechecks_in (seg_rule script (w.segs i) x fails).marks ≡ [])
    seg-says =
        seg-ways script (w.segs i) (λ turn. (collects_in (seg_sends seg_clock turn).marks ≡ []) × (rechecks_in (seg_sends seg_clock turn).marks ≡ [])) x fails
        (λ turn q. (
          quiet-collects turn.marks (λ node. turn.seg.sent) turn.outs q.marks q.outs,
          with-sent turn.marks (λ node. turn.seg.sent) turn.outs ∙ silent-rechecks turn.marks q.marks,
        ))
        (λ from envelope round is told.
        collect-ways (λ turn. (collects_in (seg_sends seg_clock turn).marks ≡ []) × (rechecks_in (seg_sends seg_clock turn).marks ≡ [])) (w.segs i) round
        (refl, refl) (λ new. (refl, refl)) (λ same graph kept. (refl, refl)))

    pub seg-asks : Asks script w.steps e (seg_rule script (w.segs i) x fails).marks
    seg-asks = by_event x t ok seg-says.0
      where
        by_event : (y : NodeEvent) → IsThere script w e (at i) y → seg_can script (w.segs i) y ≡ true → collects_in (seg_rule script (w.segs i) x fails).marks ≡ []
            → Asks script w.steps e (seg_rule script (w.segs i) x fails).marks
        by_event (here.Deliver from envelope) t ok a = subst (λ q. Asks script w.steps q (seg_rule script (w.segs i) x fails).marks) (sym t.received.is) a
        by_event (here.Resume g) t ok a = subst (λ q. Asks script w.steps q (seg_rule script (w.segs i) x fails).marks) (sym t) a
        by_event (here.Start s) t ok a = absurd (cc)
        by_event (here.End s) t ok a = absurd (cc)
        by_event (here.Resend j g) t ok a = absurd (cc)
        by_event here.Round t ok a = absurd (cc)

    pub seg-ends : Ends script w.steps (seg_step script w e x fails i)
    seg-ends =
        seg-says.1
        ∙ silent-ends (seg_step script w e x fails i) (same-steps script some w good r e (seg_step script w e x fails i) refl (silent-here script some w good r e x fails i place t ok))

-- ALL STEPS
module _ (script : Script) (some : 1 ≤ script.segments) where
  pub world-asks : (es : List (Event × Bool)) → EachStep (StepAsks script) [] (world_of script es).steps
  world-asks =
      at-steps script some (λ w. Unit {0}) (λ es. tt) (StepAsks script) (λ w good r k e x fails t ok ordered. coord-asks script some w good r e x fails t ok)
      (λ w good r k e x fails i place t ok. seg-asks script some w good r e x fails i place t ok)

  pub world-ends : (es : List (Event × Bool)) → EachStep (Ends script) [] (world_of script es).steps
  world-ends =
      at-steps script some (λ w. Unit {0}) (λ es. tt) (Ends script) (λ w good r k e x fails t ok ordered. coord-ends script some w good r e x fails t ok)
      (λ w good r k e x fails i place t ok. seg-ends script some w good r e x fails i place t ok)
