-- In every run, what the steps say was asked of a segment is what the coordinator awaits of it.
use Rattle.std.proofs.Common.{◌≡◌, ◌≤◌, ◌<◌, ℕ, ◌+◌, ◌*◌, List, [], ◌∷◌, ◌++◌, Option, Some, None, Bool, true, false, refl, sym, subst, ap, ◌∙◌, if◌then◌else◌, ◌&&◌, arith, eqb, append-nil, length}
use Rattle.std.proofs.lemmas.Bool.{eqb-true}
use Rattle.std.proofs.lemmas.Bool.Decides.{nat_tests}
use Rattle.std.proofs.lemmas.List.{append_assoc}
use Rattle.std.specs.Prelude.{nat_le}
use Rattle.gx_lemmas.proofs.Lists.{length-push}
use Rattle.gx_lemmas.proofs.Tests.{and-first}
use Rattle.gx_ids.specs.declared.ids.Cid.{Cid}
use Rattle.gx_ids.specs.declared.ids.Gxid.{Gxid}
use Rattle.gx_ids.specs.declared.ids.Node.{Node}
use Rattle.gx_dtx.specs.Nodes.{has}
use Rattle.gx_dtx.specs.Rules.{on_abort}
use Rattle.gx_dtx.specs.Table.{find_txn, participants_in}
use Rattle.gx_dtx.specs.declared.phase.Phase.{Phase}
use Rattle.gx_dtx.specs.declared.phase.Phase.TheVariants.{Active, Preparing, CommittingOne, CommittingTwo, Ended, Aborting}
use Rattle.gx_dtx.specs.declared.txn.Txn.{Txn}
use Rattle.gx_msg.specs.declared.message.Envelope.{Envelope}
use Rattle.gx_msg.specs.declared.message.Message.{Message}
use Rattle.gx_msg.specs.declared.message.Message.TheVariants as message
use Rattle.gx_msg.specs.declared.reply.Reply.TheVariants as reply
use Rattle.gx_script.specs.declared.Script.{Script}
use Rattle.gx_store.specs.declared.answer.Refused.TheVariants.{Victim}
use Rattle.gx_store.specs.declared.answer.StmtAnswer.TheVariants as told
use Rattle.gx_store.specs.declared.event.Event.{Event}
use Rattle.gx_store.specs.declared.mark.Mark.{Mark}
use Rattle.gx_store.specs.declared.node.NodeEvent.{NodeEvent}
use Rattle.gx_store.specs.declared.node.NodeEvent.TheVariants as here
use Rattle.gx_store.specs.declared.run.Step.{Step}
use Rattle.gx_store.specs.Journals.{is_same_node}
use Rattle.gx_store.specs.Marks.{is_aborted}
use Rattle.gx_store.specs.Ordered.{IsSegment}
use Rattle.gx_store.specs.Points.{marks_in}
use Rattle.gx_store.specs.Refusals.{the_coordinator}
use Rattle.gx_store.specs.Schedule.{asked, asked_by, asked_from, is_answer_to, unless_answered}
use Rattle.gx_rules.specs.AtCoordinator.{answer_mark, awaited, cancel_turn, cancels, coord_can, coord_sends, coord_turn, is_refused, on_event}
use Rattle.gx_rules.specs.AtSegment.{seg_rule}
use Rattle.gx_rules.specs.Coordinators.{Coord, CoordTurn, work_of}
use Rattle.gx_rules.specs.Locks.{release_marks}
use Rattle.gx_rules.specs.Machine.{World, and_cancelled, coord_did, new_world, seg_did, with_more, world_of}
use Rattle.gx_rules.specs.Rounds.{is_active, is_live}
use Rattle.gx_rules.specs.Sending.{clock_after, counted_all, numbered}
use Rattle.gx_rules.proofs.Rounds.{cancel-ways}
use Rattle.gx_rules.proofs.Turns.{with_more-last}
use Rattle.gx_law_order.specs.Moves.{Move, world_by}
use Rattle.gx_law_order.proofs.AtCoordinators.{CoordStays, cancel_stays, coord_stays}
use Rattle.gx_law_order.proofs.Induction.{IsThere, after_turn, at-moves, marks-by-victim}
use Rattle.gx_law_order.proofs.Letters.{found_is}
use Rattle.gx_law_order.proofs.More.{marks-last}
use Rattle.gx_law_order.proofs.Moves.{HasNamed, moves_after, world-moves}
use Rattle.gx_law_order.proofs.Past.{running-drawn, there-drawn}
use Rattle.gx_law_order.proofs.Sent.{at, counted-all}
use Rattle.gx_law_order.specs.Stages.{is_running, stage, stage_in}
use Rattle.gx_law_order.proofs.Waiting.{going-out}
use Rattle.gx_law_order.proofs.World.{Knows, moves_knows, world_knows}
use Rattle.gx_law_order.specs.Standings.{gx, standing, standing_in}
use Rattle.gx_law_order.specs.Standings.Standing.{Over}
use Rattle.gx_law_order.proofs.Always.{moves-holds}
use Rattle.gx_law_order.proofs.Everywhere.{Holds}
use Rattle.gx_law_runs.specs.Links.{message_of}
use Rattle.gx_law_runs.proofs.Asking.{AreNeat, Asked, Asks, now_asked}
use Rattle.gx_law_runs.proofs.Counts.{abort-first, aborts-front, aborts-most, aborts-new, aborts-next, aborts_in}
use Rattle.gx_law_runs.proofs.Fitted.{AreServed, LetterServes, Served, cancel-served, coord-served, partless, seg-served}
use Rattle.gx_law_runs.proofs.Fitting.{SaysSo}
use Rattle.gx_law_runs.proofs.Neat.{waiting-none}
use Rattle.gx_law_runs.proofs.Replies.{left_by}
use Rattle.gx_law_runs.proofs.Room.{Stays, length-named, moves-stay}
use Rattle.gx_law_runs.proofs.Told.{asked-append, asked-numbered, asked-plain, sends, sent-numbered}
use Rattle.gx_law_runs.proofs.Turning.{FitsEvent, FitsMessage, cancel-asks, event-asks, victim-asks}
use Rattle.gx_law_runs.proofs.World.{DoAllLinksAgree, moves-linked}

-- ONE STEP MORE
abbrev next_asked : List Step → Node → Gxid → Option Message → Step → Option Message
next_asked steps i g a s = if is_same_node s.stamp.node the_coordinator then asked_by i g (unless_answered steps i g a s.event) s.marks else a

asked-more : (before : List Step) (i : Node) (g : Gxid) (a : Option Message) (ss : List Step) (s : Step) → asked_from before i g a (ss ++ s ∷ []) ≡ next_asked (before ++ ss) i g (asked_from before i g a ss) s
asked-more before i g a [] s = ap (λ x. next_asked x i g a s) (sym (append-nil before))
asked-more before i g a (x ∷ ss) s =
    asked-more (before ++ x ∷ []) i g (next_asked before i g a x) ss s ∙ ap (λ y. next_asked y i g (asked_from (before ++ x ∷ []) i g (next_asked before i g a x) ss) s) (append_assoc before (x ∷ []) ss)

pub asked-last : (i : Node) (g : Gxid) (steps : List Step) (s : Step) → asked (steps ++ s ∷ []) i g ≡ next_asked steps i g (asked steps i g) s
asked-last i g steps s = asked-more [] i g None steps s

-- THE SAME STEP, WITH MORE MARKS
asked-longer : (i : Node) (g : Gxid) (before : List Step) (s : Step) (more : List Mark) → s.stamp.node ≡ the_coordinator → asked (with_more (before ++ s ∷ []) more) i g ≡ asked_by i g (asked (before ++ s ∷ []) i g) more
asked-longer i g before s more own =
    ap (λ ss. asked ss i g) (with_more-last before s more) ∙ asked-last i g before (record s { marks = s.marks ++ more }) ∙ by_node (is_same_node s.stamp.node the_coordinator) (ap (λ n. is_same_node n the_coordinator) own)
    ∙ ap (λ a. asked_by i g a more) (sym (asked-last i g before s))
  where
    was : Option Message
    was = asked before i g

    by_node : (b : Bool) → b ≡ true → (if b then asked_by i g (unless_answered before i g was s.event) (s.marks ++ more) else was) ≡ asked_by i g (if b then asked_by i g (unless_answered before i g was s.event) s.marks else was) more
    by_node true e = asked-append i g (unless_answered before i g was s.event) s.marks more
    by_node false e = absurd (cc)

pub asked-named : (i : Node) (g : Gxid) (ss : List Step) (clock round : ℕ) (victim : Gxid) → HasNamed ss clock round victim → (more : List Mark) → asked (with_more ss more) i g ≡ asked_by i g (asked ss i g) more
asked-named i g ss clock round victim h more =
    ap (λ q. asked (with_more q more) i g) h.is ∙ asked-longer i g h.before h.step more h.node ∙ ap (λ q. asked_by i g (asked q i g) more) (sym h.is)

-- WHAT IS KNOWN OF EACH WORLD
pub record IsKnown (script : Script) (w : World) : Type 0 where
  pub knows : Knows script w
  pub holds : Holds script w
  pub links : DoAllLinksAgree w
  pub stays : Stays w

pub moves-known : (script : Script) (some : 1 ≤ script.segments) (ms : List Move) → IsKnown script (world_by script ms)
moves-known script some ms = record { knows = moves_knows script some ms; holds = moves-holds script some ms; links = moves-linked script some ms; stays = moves-stay script some ms }

-- what an event answers, at the node and by the steps
pub left-alike : (script : Script) (w : World) → DoAllLinksAgree w → (i : Node) (g : Gxid) (a : Option Message) (e : Event) (x : NodeEvent) → IsThere script w e the_coordinator x → unless_answered w.steps i g a e ≡ left_by i g a x
left-alike script w links i g a e (here.Deliver from envelope) t =
    ap (unless_answered w.steps i g a) t.event
    ∙ ap (λ m. if is_same_node from i && is_answer_to a g m then None else a) ((links from the_coordinator t.number).message ∙ ap message_of t.found)
left-alike script w links i g a e (here.Resume h) t = ap (unless_answered w.steps i g a) t
left-alike script w links i g a e (here.Start s) t = ap (unless_answered w.steps i g a) t
left-alike script w links i g a e (here.End s) t = ap (unless_answered w.steps i g a) t
left-alike script w links i g a e (here.Resend j h) t = ap (unless_answered w.steps i g a) t
left-alike script w links i g a e here.Round t = ap (unless_answered w.steps i g a) t

-- who may be cancelled runs, and hasn't aborted
live-runs : (t : Option Txn) → is_live t ≡ true → is_running (stage t) ≡ true
live-runs None e = absurd (cc)
live-runs (Some t) e = by_phase t.phase e
  where
    by_phase : (p : Phase) → is_active p ≡ true → is_running (stage_in p) ≡ true
    by_phase Active e = refl
    by_phase (Preparing a b) e = absurd (cc)
    by_phase (CommittingOne a) e = absurd (cc)
    by_phase (CommittingTwo a) e = absurd (cc)
    by_phase (Ended a) e = absurd (cc)
    by_phase (Aborting a) e = absurd (cc)

live-stands : (b : Bool) (t : Option Txn) (i : ℕ) → is_live t ≡ true → standing b t i ≡ Over → ⊥
live-stands b None i e q = absurd (cc)
live-stands b (Some t) i e q = by_phase t.phase e q
  where
    by_phase : (p : Phase) → is_active p ≡ true → standing_in p i ≡ Over → ⊥
    by_phase Active e q = cc
    by_phase (Preparing a b) e q = absurd (cc)
    by_phase (CommittingOne a) e q = absurd (cc)
    by_phase (CommittingTwo a) e q = absurd (cc)
    by_phase (Ended a) e q = absurd (cc)
    by_phase (Aborting a) e q = absurd (cc)

-- IN EVERY WORLD
-- A turn sends one message at most to a segment; a victim's has no step of its own, and an Abort mark.
abbrev pub SendsFew : List Step → (ℕ → ℕ) → Type 0
SendsFew steps sent = (i : ℕ) → sent i ≤ length steps + aborts_in (marks_in steps) (length steps)

pub record DoAsk (w : World) : Type 0 where
  pub asks : (i : Node) (g : ℕ) → asked w.steps i (gx g) ≡ awaited w.coord (gx g) i
  pub neat : AreNeat w.coord
  pub served : AreServed w
  pub sent : SendsFew w.steps w.coord.sent

pub sent-room : (w : World) → DoAsk w → (i : ℕ) → w.coord.sent i ≤ 64 * length w.steps
sent-room w q i = few (w.coord.sent i) (length w.steps) _ (q.sent i) (aborts-most (marks_in w.steps) (length w.steps))
  where
    few : (a n k : ℕ) → a ≤ n + k → k ≤ n → a ≤ 64 * n
    few a n k l h = omega arith

module _ (script : Script) (some : 1 ≤ script.segments) (w : World) (k : IsKnown script w) (q : DoAsk w) where
  abbrev c : Coord
  c = w.coord

  -- A SINGLE TURN OF THE COORDINATOR
  turn-asks : (turn : CoordTurn) (clock : ℕ) (steps : List Step) (A : Asked) → CoordStays script w.coord.sent turn → Asks A turn → AreServed (after_turn w clock turn steps)
      → ((i : Node) (g : ℕ) → asked steps i (gx g) ≡ asked_by i (gx g) (A i g) (coord_sends clock turn).marks) → SendsFew steps (counted_all turn.coord.sent turn.outs) → DoAsk (after_turn w clock turn steps)
  turn-asks turn clock steps A stays f served told few =
      record {
        asks = λ i g. told i g ∙ asked-plain script the_coordinator i (gx g) (A i g) turn.marks (numbered turn.coord.sent turn.outs) stays.marks ∙ asked-numbered i (gx g) (A i g) turn.coord.sent turn.outs ∙ sym (f.asked i g);
        neat = f.neat;
        served = served;
        sent = few;
      }

  -- how much a turn sends
  one-sent : (turn : CoordTurn) (i : ℕ) → turn.coord.sent ≡ w.coord.sent → sends (at i) turn.outs ≤ 1 → counted_all turn.coord.sent turn.outs i ≤ w.coord.sent i + 1
  one-sent turn i same one = adds _ (turn.coord.sent i) (w.coord.sent i) (sends (at i) turn.outs) (counted-all turn.coord.sent turn.outs i ∙ ap (λ m. turn.coord.sent i + m) (sent-numbered (at i) turn.coord.sent turn.outs)) (ap (λ (f : ℕ → ℕ). f i) same) one
    where
      adds : (r a b m : ℕ) → r ≡ a + m → a ≡ b → m ≤ 1 → r ≤ b + 1
      adds r a b m x e l = omega arith

  -- AN EVENT
  -- what is delivered fits
  message-fits : (from : Node) (m : Message) → SaysSo (Served c) (partless c) m → FitsMessage script c k.knows.kept q.neat from m
  message-fits from (message.Answer g (reply.Done cid wrote count part)) f = λ m e waits. f m e (counted m.cid cid (and-first (eqb m.cid.0 cid.0) (has from m.awaited) waits))
    where
      counted : (a b : Cid) → eqb a.0 b.0 ≡ true → a ≡ b
      counted a b e = ap (λ n. let z : Cid = record { 0 = n } in z) (eqb-true a.0 b.0 e)
  message-fits from (message.Answer g (reply.Failed c x)) f = tt
  message-fits from (message.Answer g reply.Prepared) f = tt
  message-fits from (message.Answer g reply.Committed) f = tt
  message-fits from (message.Answer g reply.Jfault) f = tt
  message-fits from (message.Answer g reply.Again) f = tt
  message-fits from (message.Answer g reply.Restarted) f = tt
  message-fits from (message.Answer g reply.Aborted) f = tt
  message-fits from (message.Answer g reply.Forgotten) f = tt
  message-fits from (message.Exec g c l x h s) f = tt
  message-fits from (message.Prepare g) f = tt
  message-fits from (message.Commit g) f = tt
  message-fits from (message.CommitPrepared g) f = tt
  message-fits from (message.Abort g) f = tt
  message-fits from (message.Forget g) f = tt
  message-fits from (message.Collect round) f = tt
  message-fits from (message.Graph round graph) f = tt
  message-fits from message.Up f = tt

  event-fits : (e : Event) (x : NodeEvent) → IsThere script w e the_coordinator x → coord_can script w.coord x ≡ true → FitsEvent script c k.knows.kept q.neat x
  event-fits e (here.Deliver from envelope) t ok =
      let d = found_is (LetterServes w.coord) from the_coordinator t.number w.sent envelope q.served.letters t.found in
      message-fits from envelope.message (subst (λ (y : Envelope). SaysSo (Served c) (partless c) y.message) d.told (d.is.1 (subst (λ (y : Node). 1 ≤ y.0) (sym d.source) (from-one from.0 (and-first (nat_le 1 from.0) (nat_le from.0 script.segments) ok)))))
    where
      from-one : (a : ℕ) → nat_le 1 a ≡ true → 1 ≤ a
      from-one a e = grind (arith, nat_tests)
  event-fits e (here.Resume g) t ok = tt
  event-fits e (here.Start s) t ok = tt
  event-fits e (here.End s) t ok = tt
  event-fits e (here.Resend i g) t ok = tt
  event-fits e here.Round t ok = tt

  pub coord-asks : (e : Event) (x : NodeEvent) (fails : Bool) → IsThere script w e the_coordinator x → coord_can script w.coord x ≡ true → DoAsk (coord_did w e (coord_turn script w.coord x fails))
  coord-asks e x fails t ok =
      turn-asks turn (clock_after w.coord.clock x) (w.steps ++ step ∷ []) (λ i g. left_by i (gx g) (awaited w.coord (gx g) i) x) stays asks (coord-served script some w k.knows k.holds q.served q.neat e x fails ok)
      (λ i g.
      asked-last i (gx g) w.steps step
      ∙ ap (λ a. asked_by i (gx g) a step.marks) (left-alike script w k.links i (gx g) (asked w.steps i (gx g)) e x t ∙ ap (λ a. left_by i (gx g) a x) (q.asks i g)))
      (λ i. grown (w.coord.sent i) (length w.steps) _ _ _ _ (one-sent turn i stays.counts (asks.sends_one (at i))) (q.sent i) longer (more i))
    where
      turn : CoordTurn
      turn = on_event script w.coord x fails

      step : Step
      step = record { stamp = record { clock = clock_after w.coord.clock x; node = the_coordinator }; event = e; marks = (coord_turn script w.coord x fails).marks }

      stays : CoordStays script w.coord.sent (on_event script w.coord x fails)
      stays = coord_stays script some w.coord x fails k.knows.well.coordinator

      asks : Asks (λ i g. left_by i (gx g) (awaited w.coord (gx g) i) x) (on_event script w.coord x fails)
      asks = event-asks script w.coord k.knows.kept q.neat (going-out script w k.knows) x fails ok (event-fits e x t ok)

      longer : length (w.steps ++ step ∷ []) ≡ length w.steps + 1
      longer = length-push w.steps step

      more : (i : ℕ) → aborts_in (marks_in w.steps) (length w.steps) ≤ aborts_in (marks_in (w.steps ++ step ∷ [])) (length (w.steps ++ step ∷ []))
      more i = subst (λ m. aborts_in (marks_in w.steps) (length w.steps) ≤ aborts_in m (length (w.steps ++ step ∷ []))) (sym (marks-last w.steps step)) (aborts-next (marks_in w.steps) step.marks (length w.steps) _ longer)

      grown : (a n x y m r : ℕ) → r ≤ a + 1 → a ≤ n + x → m ≡ n + 1 → x ≤ y → r ≤ m + y
      grown a n x y m r h l e f = omega arith

  -- A VICTIM
  module _ (g : Gxid) (h : HasNamed w.steps w.coord.clock w.coord.rounds g) where
    abbrev more : List Mark
    more = (cancel_turn w.coord g).marks

    abbrev Few : CoordTurn → Type 0
    Few turn = (i : ℕ) → counted_all turn.coord.sent turn.outs i ≤ length w.steps + aborts_in (marks_in w.steps ++ (coord_sends w.coord.clock turn).marks) (length w.steps)

    refused-few : is_live (find_txn w.coord.table g) ≡ true → Few (is_refused w.coord g (on_abort w.coord.table g) [] (Victim w.coord.rounds))
    refused-few live i =
        lets (w.coord.sent i) (length w.steps) _ _ _ (one-sent turn i refl ((victim-asks script w.coord k.knows.kept q.neat g).sends_one (at i))) (q.sent i)
        (aborts-new (marks_in w.steps) (coord_sends w.coord.clock turn).marks g.0 (length w.steps) drawn.0 (within g.0 w.coord.table.next.0 (length w.steps) drawn.1 k.stays.room.next) old (abort-first g.0 later))
      where
        turn : CoordTurn
        turn = is_refused w.coord g (on_abort w.coord.table g) [] (Victim w.coord.rounds)

        later : List Mark
        later = answer_mark w.coord (work_of w.coord g).session (told.Refused (Victim w.coord.rounds)) ∷ (release_marks the_coordinator w.coord.locks g ++ numbered turn.coord.sent turn.outs)

        drawn : (1 ≤ g.0) × (g.0 < w.coord.table.next.0)
        drawn = running-drawn w.coord g.0 k.knows.kept.whole (live-runs (find_txn w.coord.table g) live)

        within : (a b n : ℕ) → a < b → b ≤ n + 1 → a ≤ n
        within a b n l h = omega arith

        old : is_aborted (marks_in w.steps) g ≡ false
        old = by_test (is_aborted (marks_in w.steps) g) refl
          where
            by_test : (b : Bool) → is_aborted (marks_in w.steps) g ≡ b → b ≡ false
            by_test true e = absurd (live-stands (nat_le w.coord.table.next.0 g.0) (find_txn w.coord.table g) 0 live ((k.holds.stands.pairs 0 g.0).aborts e))
            by_test false e = refl

        lets : (a n x y r : ℕ) → r ≤ a + 1 → a ≤ n + x → x + 1 ≤ y → r ≤ n + y
        lets a n x y r e l h = omega arith

    cancel-few : Few (cancels w.coord g)
    cancel-few = cancel-ways Few w.coord g (λ i. kept (w.coord.sent i) (length w.steps) _ _ (q.sent i) (aborts-front (marks_in w.steps) [] (length w.steps))) (λ live busy. refused-few live)
      where
        kept : (a n x y : ℕ) → a ≤ n + x → x ≤ y → a ≤ n + y
        kept a n x y l h = omega arith

    pub victim-asked : DoAsk (and_cancelled w g)
    victim-asked =
        turn-asks (cancels w.coord g) w.coord.clock (and_cancelled w g).steps (now_asked w.coord) (cancel_stays script some w.coord g k.knows.well.coordinator) (cancel-asks script w.coord k.knows.kept q.neat g)
        (cancel-served script some w k.knows k.holds q.served g)
        (λ i j. asked-named i (gx j) w.steps w.coord.clock w.coord.rounds g h more ∙ ap (λ a. asked_by i (gx j) a more) (q.asks i j))
        (λ i. subst (λ n. counted_all turn.coord.sent turn.outs i ≤ n + aborts_in (marks_in (and_cancelled w g).steps) n) (sym same)
        (subst (λ m. counted_all turn.coord.sent turn.outs i ≤ length w.steps + aborts_in m (length w.steps)) (sym (marks-by-victim w g h)) (cancel-few i)))
      where
        turn : CoordTurn
        turn = cancels w.coord g

        same : length (and_cancelled w g).steps ≡ length w.steps
        same = length-named w.steps w.coord.clock w.coord.rounds g h (cancel_turn w.coord g).marks

  -- A STEP OF A SEGMENT
  module _ (e : Event) (x : NodeEvent) (fails : Bool) (i : ℕ) (place : IsSegment script (at i)) where
    abbrev seg_step : Step
    seg_step = record { stamp = record { clock = clock_after (w.segs i).clock x; node = at i }; event = e; marks = (seg_rule script (w.segs i) x fails).marks }

    pub seg-asks : AreServed (seg_did w (at i) e (seg_rule script (w.segs i) x fails)) → DoAsk (seg_did w (at i) e (seg_rule script (w.segs i) x fails))
    seg-asks served =
        record {
          asks = λ j g. asked-last j (gx g) w.steps seg_step ∙ ap (λ (b : Bool). if b then asked_by j (gx g) (unless_answered w.steps j (gx g) (asked w.steps j (gx g)) seg_step.event) seg_step.marks else asked w.steps j (gx g)) (away i place.0) ∙ q.asks j g;
          neat = q.neat;
          served = served;
          sent = λ j. grown (w.coord.sent j) (length w.steps) _ _ _ (q.sent j) longer more;
        }
      where
        away : (a : ℕ) → 1 ≤ a → is_same_node (at a) the_coordinator ≡ false
        away a l = grind (arith, nat_tests)

        longer : length (w.steps ++ seg_step ∷ []) ≡ length w.steps + 1
        longer = length-push w.steps seg_step

        more : aborts_in (marks_in w.steps) (length w.steps) ≤ aborts_in (marks_in (w.steps ++ seg_step ∷ [])) (length (w.steps ++ seg_step ∷ []))
        more = subst (λ m. aborts_in (marks_in w.steps) (length w.steps) ≤ aborts_in m (length (w.steps ++ seg_step ∷ []))) (sym (marks-last w.steps seg_step)) (aborts-next (marks_in w.steps) seg_step.marks (length w.steps) _ longer)

        grown : (a n x y m : ℕ) → a ≤ n + x → m ≡ n + 1 → x ≤ y → a ≤ m + y
        grown a n x y m l e f = omega arith

new-asks : DoAsk new_world
new-asks = record { asks = λ i g. refl; neat = λ g. record { writers = tt; txn = tt; command = tt }; served = record { orders = λ g m e. absurd (cc); locals = λ i h. record { answer = tt; vote = tt }; letters = tt }; sent = λ i. least 0 }
  where
    least : (n : ℕ) → 0 ≤ n
    least n = omega arith

module _ (script : Script) (some : 1 ≤ script.segments) where
  pub moves-ask : (ms : List Move) → DoAsk (world_by script ms)
  moves-ask =
      at-moves script some (IsKnown script) DoAsk (moves-known script some) new-asks (λ w k q e x fails t ok next. coord-asks script some w k q e x fails t ok) (λ w k q g h next. victim-asked script some w k q g h)
      (λ w k q e x fails i place t ok next. seg-asks script some w k q e x fails i place (seg-served script some w k.knows k.holds q.served e x fails i place t ok))

  pub world-asks : (es : List (Event × Bool)) → DoAsk (world_of script es)
  world-asks es = subst DoAsk (sym (world-moves script es)) (moves-ask (moves_after script new_world es))

  -- nothing is awaited of who wasn't drawn
  pub undrawn-none : (es : List (Event × Bool)) (i : Node) (g : ℕ) → ((1 ≤ g) → (g < (world_of script es).coord.table.next.0) → ⊥) → awaited (world_of script es).coord (gx g) i ≡ None
  undrawn-none es i g away = waiting-none g ((world_of script es).coord.works g) (find_txn (world_of script es).coord.table (gx g)) i ((world-asks es).neat g) (ap (λ t. has i (participants_in t)) (by_found (find_txn (world_of script es).coord.table (gx g)) refl))
    where
      by_found : (o : Option Txn) → find_txn (world_of script es).coord.table (gx g) ≡ o → find_txn (world_of script es).coord.table (gx g) ≡ None
      by_found None f = f
      by_found (Some t) f = let d = there-drawn (world_of script es).coord.table.next.0 g (world_of script es).coord.table.txns t (world_knows script some es).kept.whole.drawn f in absurd (away d.0 d.1)
