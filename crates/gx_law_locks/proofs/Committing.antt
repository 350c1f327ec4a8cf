-- Over every run of the machine, who waits somewhere doesn't commit, and isn't asked to prepare or to commit.
use Rattle.std.proofs.Common.{◌≡◌, ◌==◌, ◌≤◌, ◌+◌, ◌⊎◌, inl, inr, ⊎_elim, ℕ, List, [], ◌∷◌, ◌++◌, Option, Some, None, Bool, true, false, refl, sym, subst, ap, ◌∙◌, arith}
use Rattle.std.proofs.lemmas.Bool.{false_from_ne_true, or_left, or_right}
use Rattle.std.proofs.lemmas.Bool.Decides.{nat_tests}
use Rattle.std.specs.List.{list_any}
use Rattle.std.specs.Prelude.{is_some}
use Rattle.gx_lemmas.proofs.Numbers.{one-le-zero}
use Rattle.gx_lemmas.proofs.Tests.{or-false, true-false}
use Rattle.gx_ids.specs.declared.ids.Gxid.{Gxid}
use Rattle.gx_ids.specs.declared.ids.Node.{Node}
use Rattle.gx_dtx.specs.Table.{find_txn}
use Rattle.gx_dtx.specs.declared.phase.Phase.{Phase as Status}
use Rattle.gx_dtx.specs.declared.phase.Phase.TheVariants as status
use Rattle.gx_dtx.specs.declared.txn.Txn.{Txn}
use Rattle.gx_waits.specs.declared.claim.Claim.{Claim}
use Rattle.gx_waits.specs.Claims.{is_of}
use Rattle.gx_locks.specs.Locks.{Locks, wait_of}
use Rattle.gx_msg.specs.declared.message.Message.{Message}
use Rattle.gx_msg.specs.declared.message.Message.TheVariants as message
use Rattle.gx_msg.specs.declared.message.Out.{Out}
use Rattle.gx_script.specs.declared.Script.{Script}
use Rattle.gx_store.specs.declared.event.Event.{Event}
use Rattle.gx_store.specs.declared.mark.Mark.{Mark}
use Rattle.gx_store.specs.declared.mark.Mark.TheVariants as mark
use Rattle.gx_store.specs.declared.node.NodeEvent.{NodeEvent}
use Rattle.gx_store.specs.declared.node.NodeEvent.TheVariants as here
use Rattle.gx_store.specs.declared.run.Step.{Step}
use Rattle.gx_store.specs.Journals.{is_same_node}
use Rattle.gx_store.specs.Marks.{is_aborted, is_committed, is_same_gxid}
use Rattle.gx_store.specs.Ordered.{IsAtNode, IsSegment}
use Rattle.gx_store.specs.Points.{marks_in}
use Rattle.gx_store.specs.Refusals.{the_coordinator}
use Rattle.gx_store.specs.Waits.{waits_at, waits_from}
use Rattle.gx_rules.specs.AtCoordinator.{cancels, coord_can, coord_sends, coord_turn, on_event}
use Rattle.gx_rules.specs.AtSegment.{seg_rule}
use Rattle.gx_rules.specs.AtSegment as segment
use Rattle.gx_rules.specs.Coordinators.{Coord, CoordTurn}
use Rattle.gx_rules.specs.Machine.{World, and_cancelled, coord_did, new_world, seg_did, world_of}
use Rattle.gx_rules.specs.Segments.{SegTurn, Suspended, local_of}
use Rattle.gx_rules.specs.Sending.{clock_after, counted, numbered}
use Rattle.gx_law_order.specs.Moves.{Move, world_by}
use Rattle.gx_law_order.proofs.AtCoordinators.{CoordStays, cancel_stays, coord_stays}
use Rattle.gx_law_order.proofs.AtSegments.{PlainAt, seg_stays}
use Rattle.gx_law_order.proofs.Induction.{after_turn, marks-by-event, marks-by-victim}
use Rattle.gx_law_order.specs.Lists.{Each}
use Rattle.gx_law_order.proofs.More.{marks-last}
use Rattle.gx_law_order.proofs.Moves.{HasNamed}
use Rattle.gx_law_order.proofs.Ordered.{sends-at}
use Rattle.gx_law_order.proofs.Past.{aborted-append, committed-append}
use Rattle.gx_law_order.proofs.Replies.{cancel-good, event-good}
use Rattle.gx_law_order.proofs.Sent.{at}
use Rattle.gx_law_order.specs.Sessions.{Kept}
use Rattle.gx_law_order.specs.Stages.{stage, stage_in, stage_of}
use Rattle.gx_law_order.specs.Stages.Stage.{Live as LiveStage}
use Rattle.gx_law_order.proofs.Turns.{Good}
use Rattle.gx_law_order.proofs.Waiting.{statement-of}
use Rattle.gx_law_order.proofs.World.{Knows}
use Rattle.gx_law_order.specs.Pairs.{Pair}
use Rattle.gx_law_order.specs.Said.{Said, gxid_in, is_answer}
use Rattle.gx_law_order.specs.Standings.{Known, Part, gx, known_at, standing, standing_in}
use Rattle.gx_law_order.specs.Standings.Standing.{Live, One, Over, Preparing}
use Rattle.gx_law_order.proofs.Always.{HeardAt, SaidTo}
use Rattle.gx_law_order.proofs.Dispatching.{live-at-all}
use Rattle.gx_law_order.proofs.Events.{live-stage}
use Rattle.gx_law_order.proofs.Everywhere.{Holds, parts_in}
use Rattle.gx_law_order.proofs.Raised.{OfHorizon, SegKeeps, message_keeps, resume_keeps}
use Rattle.gx_law_order.proofs.Steps.{cancel-leads, event-leads, moves-keep, world-keeps}
use Rattle.gx_law_order.proofs.Ways.{Led, SaidOut, Stands}
use Rattle.gx_law_locks.specs.Waiting.{EachBehind, is_waiting}
use Rattle.gx_law_locks.proofs.Legal.{none-listed}
use Rattle.gx_law_locks.proofs.Lets.{LetsWait, behind-append, behind-front, behind-rest}
use Rattle.gx_law_locks.proofs.Marks.{other-waits, waits_from-append}
use Rattle.gx_law_locks.proofs.HoldsAtCoordinators.{Holding, cancel-locks, event-holds}
use Rattle.gx_law_locks.proofs.Single.{single-here, single-there}
use Rattle.gx_law_locks.proofs.HoldsInRuns.{Locked, cancel-keeps, coord-keeps, new-locked, seg-keeps}
use Rattle.gx_law_locks.specs.Committing.{CommitsUnlessWaiting, WaitsNowhere}

-- WHO ISN'T LIVE
-- has no slice that waits, unless it has aborted
rests : (k : Known) (p : Part) → Pair k p → (k.at ≡ Live → ⊥) → k.aborted ≡ false → p.waits ≡ false
rests k p pair away runs = false_from_ne_true p.waits (λ w. by_place (pair.waits w).2)
  where
    by_place : (k.at ≡ Live) ⊎ (k.aborted ≡ true) → ⊥
    by_place (inl l) = away l
    by_place (inr a) = true-false k.aborted a runs

-- so it is of who has committed
over-rests : (k : Known) (p : Part) → Pair k p → k.committed ≡ true → p.waits ≡ false
over-rests k p pair c = rests k p pair (λ l. apart (sym (pair.ends c) ∙ l)) (pair.either c)
  where
    apart : Over ≡ Live → ⊥
    apart q = cc

-- and of who is asked to prepare, or to commit
asked-away : (k : Known) (p : Part) → Pair k p → k.aborted ≡ false → (p.vote ≡ None → (k.at ≡ Preparing true) ⊎ (k.at ≡ One true) ⊎ (k.aborted ≡ true)) → k.at ≡ Live → ⊥
asked-away k p pair runs says l = by_way (says (pair.live l).1)
  where
    no-preparing : k.at ≡ Preparing true → ⊥
    no-preparing q = apart (sym l ∙ q)
      where
        apart : Live ≡ Preparing true → ⊥
        apart q = cc

    no-one : k.at ≡ One true → ⊥
    no-one q = apart (sym l ∙ q)
      where
        apart : Live ≡ One true → ⊥
        apart q = cc

    by_way : (k.at ≡ Preparing true) ⊎ (k.at ≡ One true) ⊎ (k.aborted ≡ true) → ⊥
    by_way (inl q) = no-preparing q
    by_way (inr (inl q)) = no-one q
    by_way (inr (inr a)) = true-false k.aborted a runs

stage-live : (undrawn : Bool) (t : Option Txn) (i : ℕ) → standing undrawn t i ≡ Live → stage t ≡ LiveStage
stage-live true None i e = absurd (cc)
stage-live false None i e = absurd (cc)
stage-live undrawn (Some t) i e = by_phase t.phase e
  where
    by_phase : (p : Status) → standing_in p i ≡ Live → stage_in p ≡ LiveStage
    by_phase status.Active e = refl
    by_phase (status.Preparing ws a) e = absurd (cc)
    by_phase (status.CommittingOne w) e = absurd (cc)
    by_phase (status.CommittingTwo a) e = absurd (cc)
    by_phase (status.Ended a) e = absurd (cc)
    by_phase (status.Aborting a) e = absurd (cc)

no-slice : (o : Option Suspended) → is_some o ≡ false → o ≡ None
no-slice None e = refl
no-slice (Some x) e = absurd (cc)

unwaited : (l : Locks) (g : Gxid) → ((wanted : Claim) → wait_of l g ≡ Some wanted → ⊥) → wait_of l g ≡ None
unwaited l g f = by_wait (wait_of l g) refl
  where
    by_wait : (o : Option Claim) → wait_of l g ≡ o → wait_of l g ≡ None
    by_wait None e = e
    by_wait (Some wanted) e = absurd (f wanted e)

each-front : {A : Type 0} (P : A → Type 0) (xs ys : List A) → Each P (xs ++ ys) → Each P xs
each-front P [] ys e = tt
each-front P (x ∷ xs) ys e = (e.0, each-front P xs ys e.1)

each-rest : {A : Type 0} (P : A → Type 0) (xs ys : List A) → Each P (xs ++ ys) → Each P ys
each-rest P [] ys e = e
each-rest P (x ∷ xs) ys e = each-rest P xs ys e.1

-- A STEP OF THE COORDINATOR
module _ (script : Script) (w : World) (n : Knows script w) (q : Locked script w) where
  -- the segments wait as before it
  abbrev Elsewhere : List Mark → Type 0
  Elsewhere before = (node : Node) → is_same_node the_coordinator node ≡ false → waits_at before node ≡ (w.segs node.0).locks.waits

  elsewhere-first : Elsewhere (marks_in w.steps)
  elsewhere-first node away = sym (q.marked.segments node.0 (positive node.0 away)).waits
    where
      positive : (i : ℕ) → (0 == i) ≡ false → 1 ≤ i
      positive i e = grind (arith, nat_tests)

  elsewhere-on : (before ms : List Mark) → Each (IsAtNode script the_coordinator) ms → Elsewhere before → Elsewhere (before ++ ms)
  elsewhere-on before ms e old node away = waits_from-append node [] before ms ∙ other-waits script the_coordinator node (waits_at before node) ms away e ∙ old node away

  -- who has no slice that waits, and doesn't wait here, waits nowhere
  nowhere : (before : List Mark) → Elsewhere before → (g : Gxid) → is_waiting before the_coordinator g ≡ false → ((i : ℕ) → (local_of (w.segs i) g).suspended ≡ None) → WaitsNowhere before g
  nowhere before there g here none node = by_node (is_same_node the_coordinator node) refl
    where
      same : (k : Node) → (0 == k.0) ≡ true → the_coordinator ≡ k
      same k e = grind (arith, nat_tests)

      by_node : (b : Bool) → is_same_node the_coordinator node ≡ b → is_waiting before node g ≡ false
      by_node true e = subst (λ k. is_waiting before k g ≡ false) (same node e) here
      by_node false e = subst (λ waits. list_any (is_of g) waits ≡ false) (sym (there node e)) (none-listed g (w.segs node.0).locks.waits ((single-there script w n node.0).none g (none node.0)))

  -- its Commit marks
  commits-free : (before ms : List Mark) → Elsewhere before → Each (PlainAt script the_coordinator) ms → Each (IsAtNode script the_coordinator) ms → EachBehind LetsWait before ms
      → ((g : Gxid) → is_committed ms g ≡ true → (i : ℕ) → (local_of (w.segs i) g).suspended ≡ None) → EachBehind CommitsUnlessWaiting before ms
  commits-free before [] there plain at_here lets f = tt
  commits-free before (mark.Commit g ∷ ms) there plain at_here lets f = (
    nowhere before there g lets.0 (f g (or_left (is_same_gxid g g) (is_committed ms g) (itself g))),
    commits-free (before ++ mark.Commit g ∷ []) ms (elsewhere-on before (mark.Commit g ∷ []) (at_here.0, tt) there) plain.1 at_here.1 lets.1 (λ h e. f h (or_right (is_same_gxid g h) (is_committed ms h) e)),
  )
    where
      itself : (g : Gxid) → is_same_gxid g g ≡ true
      itself g = grind (arith, nat_tests)
  commits-free before (mark.Sent to number told ∷ ms) there plain at_here lets f = absurd plain.0
  commits-free before (m ∷ ms) there plain at_here lets f = (tt, commits-free (before ++ m ∷ []) ms (elsewhere-on before (m ∷ []) (at_here.0, tt) there) plain.1 at_here.1 lets.1 f)

  -- What it sends, where it stands at d behind these marks.
  module _ (v : Holds script w) (d : Coord) (marks : List Mark) (k : Kept script d) (st : Stands script (parts_in w) d marks) where
    part-rests : (g : Gxid) (i : ℕ) → (parts_in w i g.0).waits ≡ false → (local_of (w.segs i) g).suspended ≡ None
    part-rests g i e = no-slice (local_of (w.segs i) g).suspended e

    pub committed-rests : (g : Gxid) → is_committed marks g ≡ true → (i : ℕ) → (local_of (w.segs i) g).suspended ≡ None
    committed-rests g c i = part-rests g i (over-rests (known_at d marks i g.0) (parts_in w i g.0) (st.pairs i g.0) c)

    asked-frees : (before : List Mark) → Elsewhere before → waits_at before the_coordinator ≡ d.locks.waits → (g : Gxid) (i : ℕ) → is_aborted marks g ≡ false
        → ((parts_in w i g.0).vote ≡ None → ((known_at d marks i g.0).at ≡ Preparing true) ⊎ ((known_at d marks i g.0).at ≡ One true) ⊎ ((known_at d marks i g.0).aborted ≡ true)) → WaitsNowhere before g
    asked-frees before there here g i runs says =
        nowhere before there g (subst (λ waits. list_any (is_of g) waits ≡ false) (sym here) (none-listed g d.locks.waits (unwaited d.locks g (λ wanted e. not-live (statement-of d k g wanted e).live))))
        (λ j. part-rests g j (rests (known_at d marks j g.0) (parts_in w j g.0) (st.pairs j g.0) (λ l. not-live (stage-live _ (find_txn d.table (gx g.0)) j l)) runs))
      where
        not-live : stage_of d g.0 ≡ LiveStage → ⊥
        not-live l = asked-away (known_at d marks i g.0) (parts_in w i g.0) (st.pairs i g.0) runs says (live-at-all script (parts_in w) d marks st k.whole g.0 (live-stage d g.0 l) i)

    one-frees : (before : List Mark) → Elsewhere before → waits_at before the_coordinator ≡ d.locks.waits → ((g : Gxid) → is_aborted before g ≡ false → is_aborted marks g ≡ false)
        → (o : Out) (number : ℕ) → SaidOut script (parts_in w) d marks o → CommitsUnlessWaiting before (mark.Sent o.node number o.message)
    one-frees before there here older o number said = by_message o.message said.1
      where
        by_message : (m : Message) → Said (known_at d marks o.node.0 (gxid_in m)) (parts_in w o.node.0 (gxid_in m)) m → CommitsUnlessWaiting before (mark.Sent o.node number m)
        by_message (message.Prepare g) f = λ runs. asked-frees before there here g o.node.0 (older g runs) (λ e. ⊎_elim (λ (p : (known_at d marks o.node.0 g.0).at ≡ Preparing true). inl p) (λ a. inr (inr a)) (f.1 e))
        by_message (message.Commit g) f = λ runs. asked-frees before there here g o.node.0 (older g runs) (λ e. inr (inl (f e)))
        by_message m f = tt

    sent-frees : (before : List Mark) → Elsewhere before → waits_at before the_coordinator ≡ d.locks.waits → ((g : Gxid) → is_aborted before g ≡ false → is_aborted marks g ≡ false)
        → (f : ℕ → ℕ) (outs : List Out) → Each (IsAtNode script the_coordinator) (numbered f outs) → Each (SaidOut script (parts_in w) d marks) outs → EachBehind CommitsUnlessWaiting before (numbered f outs)
    sent-frees before there here older f [] at_here said = tt
    sent-frees before there here older f (o ∷ outs) at_here said =
        let sent : Mark = mark.Sent o.node (f o.node.0 + 1) o.message in (
          one-frees before there here older o (f o.node.0 + 1) said.0,
          sent-frees (before ++ sent ∷ []) (elsewhere-on before (sent ∷ []) (at_here.0, tt) there) (waits_from-append the_coordinator [] before (sent ∷ []) ∙ here)
              (λ g e. older g (sym (aborted-append before (sent ∷ []) g ∙ or-false (is_aborted before g)) ∙ e)) (counted f o) outs at_here.1 said.1,
        )

-- A STEP OF A SEGMENT
-- commits nothing, and sends answers alone
plain-frees : (script : Script) (i : ℕ) → 1 ≤ i → (before ms : List Mark) → Each (PlainAt script (at i)) ms → EachBehind CommitsUnlessWaiting before ms
plain-frees script i one before [] e = tt
plain-frees script i one before (mark.Commit g ∷ ms) e = absurd (one-le-zero i one (ap (λ (k : Node). k.0) e.0))
plain-frees script i one before (mark.Sent to number told ∷ ms) e = absurd e.0
plain-frees script i one before (m ∷ ms) e = (tt, plain-frees script i one (before ++ m ∷ []) ms e.1)

answer-frees : (before : List Mark) (to : Node) (number : ℕ) (m : Message) → is_answer m ≡ true → CommitsUnlessWaiting before (mark.Sent to number m)
answer-frees before to number (message.Prepare g) e = absurd (cc)
answer-frees before to number (message.Commit g) e = absurd (cc)
answer-frees before to number m e = tt

answers-free : (before : List Mark) (f : ℕ → ℕ) (outs : List Out) → Each (λ (o : Out). is_answer o.message ≡ true) outs → EachBehind CommitsUnlessWaiting before (numbered f outs)
answers-free before f [] e = tt
answers-free before f (o ∷ outs) e =
    (answer-frees before o.node (f o.node.0 + 1) o.message e.0, answers-free (before ++ mark.Sent o.node (f o.node.0 + 1) o.message ∷ []) (counted f o) outs e.1)

any-horizon : (m : Message) → OfHorizon (λ h. Unit {0}) m
any-horizon (message.Exec g c level snapshot h x) = tt
any-horizon m = tt

answers-alone : (script : Script) (w : World) (e : Event) (i : ℕ) (x : NodeEvent) (fails : Bool) → HeardAt script w e i x → SegKeeps script (w.segs i) (λ h. Unit {0}) tt (segment.on_event script (w.segs i) x fails)
answers-alone script w e i (here.Deliver from envelope) fails h = message_keeps script (w.segs i) (λ h. Unit {0}) tt fails envelope.message (any-horizon envelope.message)
answers-alone script w e i (here.Resume g) fails h = resume_keeps script (w.segs i) (λ h. Unit {0}) tt g (wait_of (w.segs i).locks g) (local_of (w.segs i) g).suspended
answers-alone script w e i (here.Start s) fails h = absurd h
answers-alone script w e i (here.End s) fails h = absurd h
answers-alone script w e i (here.Resend j g) fails h = absurd h
answers-alone script w e i here.Round fails h = absurd h

-- ALL STEPS
pub record Free (script : Script) (w : World) : Type 0 where
  pub locked : Locked script w
  pub commits : EachBehind CommitsUnlessWaiting [] (marks_in w.steps)

module _ (script : Script) (some : 1 ≤ script.segments) where
  pushed : (w : World) (s : Step) → EachBehind CommitsUnlessWaiting [] (marks_in w.steps) → EachBehind CommitsUnlessWaiting (marks_in w.steps) s.marks → EachBehind CommitsUnlessWaiting [] (marks_in (w.steps ++ s ∷ []))
  pushed w s old now = subst (EachBehind CommitsUnlessWaiting []) (sym (marks-last w.steps s)) (behind-append CommitsUnlessWaiting [] (marks_in w.steps) s.marks old now)

  -- a single turn of the coordinator, with what it sends
  turn-frees : (w : World) → Knows script w → Holds script w → Free script w → (turn : CoordTurn) (clock : ℕ) (steps : List Step) → marks_in steps ≡ marks_in w.steps ++ (coord_sends clock turn).marks
      → CoordStays script w.coord.sent turn → Good script (marks_in w.steps) turn → Led script (parts_in w) w.coord (marks_in w.steps) turn → Holding (marks_in w.steps) w.coord turn
      → Locked script (after_turn w clock turn steps) → Free script (after_turn w clock turn steps)
  turn-frees w n v q turn clock steps same stays good led holding locked =
      record {
        locked = locked;
        commits = subst (EachBehind CommitsUnlessWaiting []) (sym same) (behind-append CommitsUnlessWaiting [] marks (turn.marks ++ sent) q.commits (behind-append CommitsUnlessWaiting marks turn.marks sent
            (commits-free script w n q.locked marks turn.marks first stays.marks at_turn (behind-front LetsWait marks turn.marks sent lets)
            (λ g c. committed-rests script w n q.locked v turn.coord (marks ++ turn.marks) good.kept led.way.stands g (committed-append marks turn.marks g ∙ or_right (is_committed marks g) (is_committed turn.marks g) c)))
            (sent-frees script w n q.locked v turn.coord (marks ++ turn.marks) good.kept led.way.stands (marks ++ turn.marks) (elsewhere-on script w n q.locked marks turn.marks at_turn first) waits (λ g runs. runs) turn.coord.sent turn.outs
            at_sent led.outs)));
      }
    where
      marks : List Mark
      marks = marks_in w.steps

      sent : List Mark
      sent = numbered turn.coord.sent turn.outs

      first : Elsewhere script w n q.locked marks
      first = elsewhere-first script w n q.locked

      there : Each (IsAtNode script the_coordinator) (turn.marks ++ sent)
      there = sends-at script w.coord.sent turn clock stays

      at_turn : Each (IsAtNode script the_coordinator) turn.marks
      at_turn = each-front (IsAtNode script the_coordinator) turn.marks sent there

      at_sent : Each (IsAtNode script the_coordinator) sent
      at_sent = each-rest (IsAtNode script the_coordinator) turn.marks sent there

      lets : EachBehind LetsWait marks (turn.marks ++ sent)
      lets = behind-rest LetsWait [] marks (turn.marks ++ sent) (subst (EachBehind LetsWait []) same locked.lets)

      waits : waits_at (marks ++ turn.marks) the_coordinator ≡ turn.coord.locks.waits
      waits = waits_from-append the_coordinator [] marks turn.marks ∙ ap (λ ws. waits_from the_coordinator ws turn.marks) (sym q.locked.marked.coordinator.waits) ∙ holding.waits

  coord-frees : (w : World) → Knows script w → Holds script w → Free script w → (e : Event) (x : NodeEvent) (fails : Bool) → coord_can script w.coord x ≡ true → SaidTo w x
      → Free script (coord_did w e (coord_turn script w.coord x fails))
  coord-frees w n v q e x fails ok said =
      turn-frees w n v q (on_event script w.coord x fails) (clock_after w.coord.clock x) (coord_did w e (coord_turn script w.coord x fails)).steps (marks-by-event script w e x fails)
      (coord_stays script some w.coord x fails n.well.coordinator) (event-good script w.coord (marks_in w.steps) n.kept n.past x fails ok) (event-leads script w n v x fails ok said)
      (event-holds script (marks_in w.steps) w.coord (single-here script w n) x fails ok) (coord-keeps script some w n v q.locked e x fails ok said)

  cancel-frees : (w : World) → Knows script w → Holds script w → Free script w → (g : Gxid) → HasNamed w.steps w.coord.clock w.coord.rounds g → Free script (and_cancelled w g)
  cancel-frees w n v q g h =
      turn-frees w n v q (cancels w.coord g) w.coord.clock (and_cancelled w g).steps (marks-by-victim w g h) (cancel_stays script some w.coord g n.well.coordinator)
      (cancel-good w.coord (marks_in w.steps) n.kept n.past g.0) (cancel-leads script w n v g) (cancel-locks (marks_in w.steps) w.coord g) (cancel-keeps script some w n v q.locked g h)

  seg-frees : (w : World) → Knows script w → Holds script w → Free script w → (e : Event) (x : NodeEvent) (fails : Bool) (i : ℕ) → IsSegment script (at i) → HeardAt script w e i x
      → Free script (seg_did w (at i) e (seg_rule script (w.segs i) x fails))
  seg-frees w n v q e x fails i place h =
      record {
        locked = seg-keeps script some w n v q.locked e x fails i place h;
        commits = pushed w step q.commits (behind-append CommitsUnlessWaiting (marks_in w.steps) turn.marks (numbered (λ node. turn.seg.sent) turn.outs)
            (plain-frees script i place.0 (marks_in w.steps) turn.marks plain)
            (answers-free (marks_in w.steps ++ turn.marks) (λ node. turn.seg.sent) turn.outs (answers-alone script w e i x fails h).outs));
      }
    where
      turn : SegTurn
      turn = segment.on_event script (w.segs i) x fails

      step : Step
      step = record { stamp = record { clock = clock_after (w.segs i).clock x; node = at i }; event = e; marks = (seg_rule script (w.segs i) x fails).marks }

      plain : Each (PlainAt script (at i)) turn.marks
      plain = subst (λ node. Each (PlainAt script node) turn.marks) (n.well.names i) (seg_stays script (w.segs i) (subst (IsSegment script) (sym (n.well.names i)) place) x fails).marks

  new-free : Free script new_world
  new-free = record { locked = new-locked script some; commits = tt }

  pub moves-free : (ms : List Move) → Free script (world_by script ms)
  moves-free = moves-keep script some (Free script) coord-frees cancel-frees seg-frees new-free

  pub world-free : (es : List (Event × Bool)) → Free script (world_of script es)
  world-free = world-keeps script some (Free script) coord-frees cancel-frees seg-frees new-free
