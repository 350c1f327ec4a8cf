-- What the nodes hold of rounds, as an invariant of the machine, and what a turn has to make for it to hold on.
use Rattle.std.proofs.Common.{◌≡◌, ◌≤◌, ◌<◌, ℕ, ◌+◌, List, [], ◌∷◌, ◌++◌, Option, Some, None, false, sym, subst, ap, ◌∙◌, arith}
use Rattle.std.specs.Prelude.{map}
use Rattle.gx_ids.specs.declared.ids.Node.{Node}
use Rattle.gx_detect.specs.Rounds.{are_all}
use Rattle.gx_meaning.specs.Plan.{nodes_from}
use Rattle.gx_msg.specs.declared.message.Message.{Message}
use Rattle.gx_msg.specs.declared.message.Message.TheVariants as message
use Rattle.gx_msg.specs.declared.message.Out.{Out}
use Rattle.gx_script.specs.declared.Script.{Script}
use Rattle.gx_store.specs.declared.event.Event.{Event}
use Rattle.gx_store.specs.declared.mark.Mark.{Mark}
use Rattle.gx_store.specs.declared.mark.Mark.TheVariants as mark
use Rattle.gx_store.specs.declared.run.Step.{Step}
use Rattle.gx_store.specs.Journals.{is_same_node}
use Rattle.gx_store.specs.Points.{marks_in}
use Rattle.gx_store.specs.Refusals.{the_coordinator}
use Rattle.gx_store.specs.Rounds.{last_report, last_round}
use Rattle.gx_store.specs.Schedule.{recheck_count, round_count}
use Rattle.gx_waits.specs.declared.graph.LocalGraph.{LocalGraph}
use Rattle.gx_rules.specs.AtCoordinator.{coord_sends}
use Rattle.gx_rules.specs.AtSegment.{seg_sends}
use Rattle.gx_rules.specs.Coordinators.{Coord, CoordTurn}
use Rattle.gx_rules.specs.Machine.{Letter, World, posted}
use Rattle.gx_rules.specs.Maps.{with_at}
use Rattle.gx_rules.specs.Segments.{Seg, SegTurn}
use Rattle.gx_rules.specs.Sending.{counted, numbered}
use Rattle.gx_law_order.proofs.Induction.{after_turn}
use Rattle.gx_law_order.proofs.Lists.{each_append, each_weaker}
use Rattle.gx_law_order.specs.Lists.{Each}
use Rattle.gx_law_order.proofs.More.{marks-last}
use Rattle.gx_law_order.proofs.Ordered.{apart-two, at-both}
use Rattle.gx_law_order.proofs.Sent.{at}
use Rattle.gx_law_locks.specs.Held.{first_graph}
use Rattle.gx_law_locks.proofs.RoundsAtCoordinators.{AreWorksOfOne, IsLike}
use Rattle.gx_law_locks.proofs.Places.{map-same}
use Rattle.gx_law_locks.proofs.Silent.{NoRecheck, NoReport, NoSent, OfOne, Silent, no-recheck, no-report, no-sent, sends-no-recheck, sends-no-report}
use Rattle.gx_law_locks.proofs.Steps.{NoReportOf, none-ends, none-of, rechecks-more, report-append, report-same, round-append, round-same}

-- MESSAGES OF ROUNDS
-- of a round that has begun by then; a graph names the node that sends it
abbrev pub IsTold : ℕ → Node → Message → Type 0
IsTold rounds from (message.Collect round) = round ≤ rounds
IsTold rounds from (message.Graph round graph) = (round ≤ rounds) × (graph.node ≡ from)
IsTold rounds from _ = Unit {0}

abbrev pub IsInTime : ℕ → Letter → Type 0
IsInTime rounds l = IsTold rounds l.from l.envelope.message

trans : (a b c : ℕ) → a ≤ b → b ≤ c → a ≤ c
trans a b c h k = omega arith

told-later : (rounds more : ℕ) (from : Node) (m : Message) → rounds ≤ more → IsTold rounds from m → IsTold more from m
told-later rounds more from (message.Collect round) h e = trans round rounds more e h
told-later rounds more from (message.Graph round graph) h e = (trans round rounds more e.0 h, e.1)
told-later rounds more from message.Up h e = tt
told-later rounds more from (message.Exec g c level x k y) h e = tt
told-later rounds more from (message.Prepare g) h e = tt
told-later rounds more from (message.Commit g) h e = tt
told-later rounds more from (message.CommitPrepared g) h e = tt
told-later rounds more from (message.Abort g) h e = tt
told-later rounds more from (message.Forget g) h e = tt
told-later rounds more from (message.Answer g r) h e = tt

pub told-of-one : (rounds : ℕ) (from : Node) (m : Message) → OfOne m → IsTold rounds from m
told-of-one rounds from (message.Collect round) e = absurd e
told-of-one rounds from (message.Graph round graph) e = absurd e
told-of-one rounds from message.Up e = absurd e
told-of-one rounds from (message.Exec g c level x k y) e = tt
told-of-one rounds from (message.Prepare g) e = tt
told-of-one rounds from (message.Commit g) e = tt
told-of-one rounds from (message.CommitPrepared g) e = tt
told-of-one rounds from (message.Abort g) e = tt
told-of-one rounds from (message.Forget g) e = tt
told-of-one rounds from (message.Answer g r) e = tt

abbrev pub AreTold : ℕ → Node → List Out → Type 0
AreTold rounds from outs = Each (λ o. IsTold rounds from o.message) outs

posted-told : (rounds clock : ℕ) (from : Node) (f : ℕ → ℕ) (outs : List Out) (sent : List Letter) → AreTold rounds from outs → Each (IsInTime rounds) sent → Each (IsInTime rounds) (posted from clock (numbered f outs) sent)
posted-told rounds clock from f [] sent e ls = ls
posted-told rounds clock from f (o ∷ outs) sent e ls = posted-told rounds clock from (counted f o) outs _ e.1 (e.0, ls)

posted-all : (rounds clock : ℕ) (from : Node) (ms : List Mark) (f : ℕ → ℕ) (outs : List Out) (sent : List Letter)
    → Each NoSent ms → AreTold rounds from outs → Each (IsInTime rounds) sent → Each (IsInTime rounds) (posted from clock (ms ++ numbered f outs) sent)
posted-all rounds clock from [] f outs sent none e ls = posted-told rounds clock from f outs sent e ls
posted-all rounds clock from (mark.Sent to number told ∷ ms) f outs sent none e ls = absurd none.0
posted-all rounds clock from (m ∷ ms) f outs sent none e ls = posted-all rounds clock from ms f outs sent none.1 e ls

-- THE INVARIANT
abbrev pub running : Option (List (Option LocalGraph)) → ℕ
running None = 0
running (Some reports) = 1

abbrev pub first_now : List Step → Node → Option LocalGraph
first_now steps segment = first_graph [] segment (round_count steps) steps

-- each place has the first graph of its segment
abbrev pub AreFirst : Script → List Step → Option (List (Option LocalGraph)) → Type 0
AreFirst script steps None = Unit {0}
AreFirst script steps (Some reports) = reports ≡ map (first_now steps) (nodes_from 1 script.segments)

abbrev pub IsOwn : Node → Option LocalGraph → Type 0
IsOwn node None = Unit {0}
IsOwn node (Some graph) = graph.node ≡ node

pub record IsNoted (marks : List Mark) (rounds : ℕ) (node : Node) (s : Seg) : Type 0 where
  pub own : s.locks.node ≡ node
  pub within : s.round ≤ rounds
  pub round : s.round ≡ last_round node 0 marks
  pub graph : s.graph ≡ last_report node s.round None marks
  pub kept : IsOwn node s.graph

-- what the coordinator holds of rounds, behind these steps
pub record IsRunning (script : Script) (steps : List Step) (c : Coord) : Type 0 where
  pub rounds : c.rounds ≡ round_count steps
  pub counted : recheck_count steps + running c.reports ≡ round_count steps
  pub reports : AreFirst script steps c.reports
  pub missing : are_all c.reports ≡ false
  pub own : c.locks.node ≡ the_coordinator
  pub works : AreWorksOfOne c.works
  pub ahead : (round i : ℕ) → 1 ≤ i → c.rounds < round → first_graph [] (at i) round steps ≡ None

pub record Rounded (script : Script) (w : World) : Type 0 where
  pub coord : IsRunning script w.steps w.coord
  pub segments : (i : ℕ) → 1 ≤ i → IsNoted (marks_in w.steps) w.coord.rounds (at i) (w.segs i)
  pub letters : Each (IsInTime w.coord.rounds) w.sent

-- A SEGMENT THAT DOES NOTHING OF IT
pub still-noted : (marks more : List Mark) (rounds later : ℕ) (node : Node) (s : Seg) → rounds ≤ later → Each (NoReportOf node) more → IsNoted marks rounds node s → IsNoted (marks ++ more) later node s
still-noted marks more rounds later node s h e k =
    record {
      own = k.own;
      within = trans s.round rounds later k.within h;
      round = k.round ∙ sym (round-append node 0 marks more ∙ round-same node (last_round node 0 marks) more e);
      graph = k.graph ∙ sym (report-append node s.round None marks more ∙ report-same node s.round (last_report node s.round None marks) more e);
      kept = k.kept;
    }

-- THE COORDINATOR'S TURNS
pub record CoordMade (script : Script) (w : World) (steps : List Step) (turn : CoordTurn) : Type 0 where
  pub marks : Each NoReport turn.marks
  pub sends : Each NoSent turn.marks
  pub coord : IsRunning script steps turn.coord
  pub rising : w.coord.rounds ≤ turn.coord.rounds
  pub outs : AreTold turn.coord.rounds the_coordinator turn.outs

pub coord-rounded : (script : Script) (w : World) → Rounded script w → (turn : CoordTurn) (clock : ℕ) (steps : List Step) → marks_in steps ≡ marks_in w.steps ++ (coord_sends clock turn).marks
    → CoordMade script w steps turn → Rounded script (after_turn w clock turn steps)
coord-rounded script w r turn clock steps marks made =
    record {
      coord = record {
        rounds = made.coord.rounds;
        counted = made.coord.counted;
        reports = made.coord.reports;
        missing = made.coord.missing;
        own = made.coord.own;
        works = made.coord.works;
        ahead = made.coord.ahead;
      };
      segments = λ i one.
          subst (λ ms. IsNoted ms turn.coord.rounds (at i) (w.segs i)) (sym marks)
          (still-noted (marks_in w.steps) (coord_sends clock turn).marks w.coord.rounds turn.coord.rounds (at i) (w.segs i) made.rising (none-of (at i) (coord_sends clock turn).marks silent) (r.segments i one));
      letters = posted-all turn.coord.rounds clock the_coordinator turn.marks turn.coord.sent turn.outs w.sent made.sends made.outs
          (each_weaker (IsInTime w.coord.rounds) (IsInTime turn.coord.rounds) (λ l e. told-later w.coord.rounds turn.coord.rounds l.from l.envelope.message made.rising e) w.sent r.letters);
    }
  where
    silent : Each NoReport (coord_sends clock turn).marks
    silent = each_append NoReport turn.marks (numbered turn.coord.sent turn.outs) made.marks (sends-no-report turn.coord.sent turn.outs)

-- steps that tell the same of rounds but for their ends
pub record AreSame (steps more : List Step) : Type 0 where
  pub rounds : round_count more ≡ round_count steps
  pub firsts : (round i : ℕ) → 1 ≤ i → first_graph [] (at i) round more ≡ first_graph [] (at i) round steps

pub firsts-same : (steps more : List Step) → AreSame steps more → (n : ℕ) → map (first_now steps) (nodes_from 1 n) ≡ map (first_now more) (nodes_from 1 n)
firsts-same steps more same n =
    map-same (first_now steps) (first_now more) 1 n (λ i one. sym (same.firsts (round_count more) i one ∙ ap (λ k. first_graph [] (at i) k steps) same.rounds))

pub still-first : (script : Script) (steps more : List Step) → AreSame steps more → (o : Option (List (Option LocalGraph))) → AreFirst script steps o → AreFirst script more o
still-first script steps more same None e = tt
still-first script steps more same (Some reports) e = e ∙ firsts-same steps more same script.segments

-- nothing but messages
module _ (script : Script) (w : World) (r : Rounded script w) (clock : ℕ) (steps : List Step) (turn : CoordTurn) (marks : marks_in steps ≡ marks_in w.steps ++ (coord_sends clock turn).marks) (same : AreSame w.steps steps)
    (like : IsLike w.coord turn.coord) (silent : Each Silent turn.marks) (outs : AreTold w.coord.rounds the_coordinator turn.outs)
  where
    none-end : recheck_count steps ≡ recheck_count w.steps + 0
    none-end =
        rechecks-more w.steps steps (coord_sends clock turn).marks marks
        ∙ ap (λ n. recheck_count w.steps + n)
        (none-ends (coord_sends clock turn).marks (each_append NoRecheck turn.marks (numbered turn.coord.sent turn.outs) (no-recheck turn.marks silent) (sends-no-recheck turn.coord.sent turn.outs)))

    pub quiet-made : CoordMade script w steps turn
    quiet-made =
        record {
          marks = no-report turn.marks silent;
          sends = no-sent turn.marks silent;
          coord = record {
            rounds = like.rounds ∙ r.coord.rounds ∙ sym same.rounds;
            counted = counts (recheck_count w.steps) (running w.coord.reports) (round_count w.steps) none-end (ap running like.reports) r.coord.counted same.rounds;
            reports = subst (AreFirst script steps) (sym like.reports) (still-first script w.steps steps same w.coord.reports r.coord.reports);
            missing = ap are_all like.reports ∙ r.coord.missing;
            own = like.place ∙ r.coord.own;
            works = like.works;
            ahead = λ round i one h. same.firsts round i one ∙ r.coord.ahead round i one (subst (λ n. n < round) like.rounds h);
          };
          rising = least w.coord.rounds turn.coord.rounds like.rounds;
          outs = subst (λ n. AreTold n the_coordinator turn.outs) (sym like.rounds) outs;
        }
      where
        counts : (a x n : ℕ) {b y k : ℕ} → b ≡ a + 0 → y ≡ x → a + x ≡ n → k ≡ n → b + y ≡ k
        counts a x n e f g h = omega arith

        least : (a b : ℕ) → b ≡ a → a ≤ b
        least a b e = omega arith

-- A SEGMENT'S TURNS
pub record SegMade (w : World) (i : ℕ) (turn : SegTurn) : Type 0 where
  pub marks : Each NoRecheck turn.marks
  pub sends : Each NoSent turn.marks
  pub others : (j : ℕ) → is_same_node (at i) (at j) ≡ false → Each (NoReportOf (at j)) turn.marks
  pub seg : (f : ℕ → ℕ) (outs : List Out) → IsNoted (marks_in w.steps ++ (turn.marks ++ numbered f outs)) w.coord.rounds (at i) turn.seg
  pub outs : AreTold w.coord.rounds (at i) turn.outs

pub seg-rounded : (script : Script) (w : World) → Rounded script w → (i : ℕ) (clock : ℕ) (e : Event) (turn : SegTurn) → SegMade w i turn
    → AreSame w.steps (w.steps ++ record { stamp = record { clock = clock; node = at i }; event = e; marks = (seg_sends clock turn).marks } ∷ [])
    → Rounded script
    (record w {
      segs = with_at w.segs i (seg_sends clock turn).seg;
      steps = w.steps ++ record { stamp = record { clock = clock; node = at i }; event = e; marks = (seg_sends clock turn).marks } ∷ [];
      sent = posted (at i) clock (seg_sends clock turn).marks w.sent;
    })
seg-rounded script w r i clock e turn made same =
    record {
      coord = record {
        rounds = r.coord.rounds ∙ sym same.rounds;
        counted = counts (recheck_count w.steps) (running w.coord.reports) (round_count w.steps) none-end r.coord.counted same.rounds;
        reports = still-first script w.steps (w.steps ++ step ∷ []) same w.coord.reports r.coord.reports;
        missing = r.coord.missing;
        own = r.coord.own;
        works = r.coord.works;
        ahead = λ round j one h. same.firsts round j one ∙ r.coord.ahead round j one h;
      };
      segments = λ j one.
          subst (λ m. IsNoted m w.coord.rounds (at j) (with_at w.segs i (seg_sends clock turn).seg j)) (sym (marks-last w.steps step))
          (at-both (λ j (s : Seg). 1 ≤ j → IsNoted (marks_in w.steps ++ ms) w.coord.rounds (at j) s) w.segs i (seg_sends clock turn).seg (λ k. noted) (λ j differs k. others j differs k) j one);
      letters = posted-all w.coord.rounds clock (at i) turn.marks (λ node. turn.seg.sent) turn.outs w.sent made.sends made.outs r.letters;
    }
  where
    ms : List Mark
    ms = (seg_sends clock turn).marks

    step : Step
    step = record { stamp = record { clock = clock; node = at i }; event = e; marks = (seg_sends clock turn).marks }

    sends : List Mark
    sends = numbered (λ node. turn.seg.sent) turn.outs

    none-end : recheck_count (w.steps ++ step ∷ []) ≡ recheck_count w.steps + 0
    none-end =
        rechecks-more w.steps (w.steps ++ step ∷ []) step.marks (marks-last w.steps step)
        ∙ ap (λ n. recheck_count w.steps + n) (none-ends step.marks (each_append NoRecheck turn.marks (numbered (λ node. turn.seg.sent) turn.outs) made.marks (sends-no-recheck (λ node. turn.seg.sent) turn.outs)))

    counts : (a x n : ℕ) {b k : ℕ} → b ≡ a + 0 → a + x ≡ n → k ≡ n → b + x ≡ k
    counts a x n e g h = omega arith

    noted : IsNoted (marks_in w.steps ++ (seg_sends clock turn).marks) w.coord.rounds (at i) (seg_sends clock turn).seg
    noted = let k = made.seg (λ node. turn.seg.sent) turn.outs in record { own = k.own; within = k.within; round = k.round; graph = k.graph; kept = k.kept }

    itself : (n : ℕ) → n ≤ n
    itself n = omega arith

    others : (j : ℕ) → (j ≡ i → ⊥) → 1 ≤ j → IsNoted (marks_in w.steps ++ (seg_sends clock turn).marks) w.coord.rounds (at j) (w.segs j)
    others j differs one =
        still-noted (marks_in w.steps) (seg_sends clock turn).marks w.coord.rounds w.coord.rounds (at j) (w.segs j) (itself w.coord.rounds)
        (each_append (NoReportOf (at j)) turn.marks (numbered (λ node. turn.seg.sent) turn.outs) (made.others j (apart-two i j differs)) (none-of (at j) (numbered (λ node. turn.seg.sent) turn.outs) (sends-no-report (λ node. turn.seg.sent) turn.outs)))
        (r.segments j one)
