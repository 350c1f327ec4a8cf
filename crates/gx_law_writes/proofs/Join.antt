-- Over every run of a script that only inserts: the history is legal.
use Rattle.std.proofs.Common.{◌≡◌, ◌≤◌, inl, inr, ℕ, List, [], ◌∷◌, ◌++◌, Option, Some, None, Bool, true, false, refl, sym, subst, ap, ◌∙◌, if◌then◌else◌, ◌&&◌, arith, append-nil}
use Rattle.std.proofs.lemmas.Bool.Decides.{nat_tests}
use Rattle.std.proofs.lemmas.List.{append_assoc}
use Rattle.std.specs.Prelude.{nat_le}
use Rattle.gx_lemmas.proofs.Numbers.{one-le-zero}
use Rattle.gx_ids.specs.declared.ids.Cid.{Cid}
use Rattle.gx_ids.specs.declared.ids.Gxid.{Gxid}
use Rattle.gx_ids.specs.declared.ids.Node.{Node}
use Rattle.gx_ids.specs.declared.ids.SessionId.{SessionId}
use Rattle.gx_ids.specs.declared.ids.Table.{Table}
use Rattle.gx_tree.specs.declared.expr.Expr.{Expr}
use Rattle.gx_tree.specs.declared.part.Part.{Part as QueryPart}
use Rattle.gx_tree.specs.declared.slice.Slice.TheVariants as slice
use Rattle.gx_tree.specs.declared.stmt.Stmt.TheVariants as stmt
use Rattle.gx_msg.specs.declared.message.Envelope.{Envelope}
use Rattle.gx_msg.specs.declared.message.Message.{Message}
use Rattle.gx_msg.specs.declared.message.Message.TheVariants as message
use Rattle.gx_msg.specs.declared.message.Out.{Out}
use Rattle.gx_msg.specs.declared.reply.Cause.{Cause}
use Rattle.gx_msg.specs.declared.reply.Reply.TheVariants as reply
use Rattle.gx_script.specs.declared.Script.{Script}
use Rattle.gx_store.specs.declared.answer.Refused.{Refused}
use Rattle.gx_store.specs.declared.answer.Refused.TheVariants as refused
use Rattle.gx_store.specs.declared.answer.StmtAnswer.{StmtAnswer}
use Rattle.gx_store.specs.declared.answer.StmtAnswer.TheVariants as told
use Rattle.gx_store.specs.declared.event.Event.{Event}
use Rattle.gx_store.specs.declared.event.Event.TheVariants as event
use Rattle.gx_store.specs.declared.mark.Mark.{Mark}
use Rattle.gx_store.specs.declared.mark.Mark.TheVariants as mark
use Rattle.gx_store.specs.declared.node.NodeEvent.{NodeEvent}
use Rattle.gx_store.specs.declared.node.NodeEvent.TheVariants as here
use Rattle.gx_store.specs.declared.run.Step.{Step}
use Rattle.gx_store.specs.Faults.{LegalFault}
use Rattle.gx_store.specs.Legal.{AreLegalSteps}
use Rattle.gx_store.specs.Messages.{Receives}
use Rattle.gx_store.specs.Ordered.{IsAtNode, IsSegment}
use Rattle.gx_store.specs.Points.{Point, marks_in, starts_by}
use Rattle.gx_store.specs.Refusals.{the_coordinator}
use Rattle.gx_rules.specs.AtCoordinator.{command_answer, coord_can, coord_turn, on_event}
use Rattle.gx_rules.specs.AtSegment as segment
use Rattle.gx_rules.specs.AtSegment.{seg_rule}
use Rattle.gx_rules.specs.Changes.{Change, change_of}
use Rattle.gx_rules.specs.Coordinators.{Coord}
use Rattle.gx_rules.specs.Machine.{Letter, World, coord_did, new_world, seg_can, seg_did, world_of}
use Rattle.gx_rules.specs.Segments.{Seg, SegTurn, Suspended}
use Rattle.gx_rules.specs.Sending.{clock_after, counted, numbered}
use Rattle.gx_law_order.proofs.Changing.{change-parts}
use Rattle.gx_law_order.specs.Moves.{Move, world_by}
use Rattle.gx_law_order.proofs.Induction.{IsThere, at-moves, from-coordinator}
use Rattle.gx_law_order.proofs.Letters.{IsLetter, found_is}
use Rattle.gx_law_order.proofs.Moves.{moves_after, world-moves}
use Rattle.gx_law_order.proofs.Lists.{each_append}
use Rattle.gx_law_order.specs.Lists.{Each}
use Rattle.gx_law_order.proofs.Ordered.{seg_marks}
use Rattle.gx_law_order.proofs.Waiting.{GoesOn, each-among, going-on, going-out}
use Rattle.gx_store.specs.Language.{AreLinesNumbered}
use Rattle.gx_law_order.specs.Orders.{IsOrder}
use Rattle.gx_law_order.specs.Finish.{AreVerdictsLegal, IsVerdictLegal}
use Rattle.gx_law_order.specs.Rest.{AreRestLegal, EachMark, IsCaused, Rest, RestAnswer, RestRefusal, UnlessStart, is_going_out}
use Rattle.gx_law_order.proofs.Given.{marks-append}
use Rattle.gx_law_order.proofs.Outs.{MessageIs}
use Rattle.gx_law_order.proofs.Legality.{legal-with-rest}
use Rattle.gx_law_order.specs.Standings.{at, gx}
use Rattle.gx_law_writes.specs.Inserting.{AreInserting}
use Rattle.gx_law_writes.specs.Writes.{AreWritesLegal, WriteLegal}
use Rattle.gx_law_writes.proofs.Answers.{answered, tells}
use Rattle.gx_law_writes.proofs.Always.{AreAlways, IsOfVictim, always-push, always-victim}
use Rattle.gx_law_writes.proofs.Counted.{Counted, Known, Reports, StartsNone, moves-counted, moves-known, reports-so, starts-none}
use Rattle.gx_law_writes.proofs.Inserting.{insert-only, no-failing-order, stmt-inserting}
use Rattle.gx_law_writes.proofs.Moves.{change-fails}
use Rattle.gx_law_writes.proofs.Rows.{insert-no-fault, resumption-no-fault}
use Rattle.gx_law_writes.proofs.Told.{IsReport, IsWordOf, may_fail, sending-told}
use Rattle.gx_law_writes.proofs.Turns.{Continues, NoFault, Turns, message-turns, resumption-turns, row-no-fault}
use Rattle.gx_law_writes.proofs.Walk.{AnswerAt, AnswerOk, AnswersOk, Completes, IsGoingOut, event-walk}
use Rattle.gx_law_writes.proofs.World.{locals_in, world-holds}

-- what is left of a history besides the writes and the verdicts
abbrev pub Others : Script → Point → Mark → Type 0
Others script point (mark.Fault g c rid image) = UnlessStart point.event (LegalFault script point g c rid image)
Others script point (mark.Answer s n a) = RestAnswer script point s a
Others script point _ = Unit {0}

-- all three are all that is left
all-one : (script : Script) (point : Point) (m : Mark) → WriteLegal script point m → Others script point m → IsVerdictLegal point m → Rest script point m
all-one script point (mark.Write g c n t r x) a o v = a
all-one script point (mark.Skip g c r) a o v = a
all-one script point (mark.Fault g c r x) a o v = o
all-one script point (mark.Answer s n y) a o v = o
all-one script point (mark.Recheck x y z) a o v = v
all-one script point m a o v = tt

all-marks : (script : Script) (steps : List Step) (e : Event) (earlier ms later : List Mark) → EachMark (WriteLegal script) steps e earlier ms later → EachMark (Others script) steps e earlier ms later → EachMark IsVerdictLegal steps e earlier ms later → EachMark (Rest script) steps e earlier ms later
all-marks script steps e earlier [] later a o v = tt
all-marks script steps e earlier (m ∷ ms) later a o v = (all-one script (record { steps = steps; event = e; earlier = earlier; later = ms ++ later }) m a.0 o.0 v.0, all-marks script steps e (earlier ++ m ∷ []) ms later a.1 o.1 v.1)

all-steps : (script : Script) (before ss : List Step) → AreWritesLegal script before ss → AreAlways (Others script) before ss → AreVerdictsLegal before ss → AreRestLegal script before ss
all-steps script before [] a o v = tt
all-steps script before (s ∷ ss) a o v = (all-marks script before s.event [] s.marks [] a.0 (o.0 []) v.0, all-steps script (before ++ s ∷ []) ss a.1 o.1 v.1)

sent-others : (script : Script) (steps : List Step) (e : Event) (f : ℕ → ℕ) (outs : List Out) (earlier later : List Mark) → EachMark (Others script) steps e earlier (numbered f outs) later
sent-others script steps e f [] earlier later = tt
sent-others script steps e f (o ∷ outs) earlier later = (tt, sent-others script steps e (counted f o) outs _ later)

victim-others : (script : Script) (point : Point) (m : Mark) → IsOfVictim m → Others script point m
victim-others script point (mark.Answer s n (told.Refused (refused.Victim round))) h = tt
victim-others script point (mark.Abort g) h = tt
victim-others script point (mark.Release n g object mode) h = tt
victim-others script point (mark.Sent to number message) h = tt
victim-others script point m h = absurd h

-- AT A SEGMENT

away-others : (script : Script) (i : ℕ) → 1 ≤ i → (steps : List Step) (e : Event) (earlier ms later : List Mark) → Each (IsAtNode script (at i)) ms → Each NoFault ms → EachMark (Others script) steps e earlier ms later
away-others script i one steps e earlier [] later h n = tt
away-others script i one steps e earlier (mark.Answer s k a ∷ ms) later h n = absurd (one-le-zero i one (ap (λ (x : Node). x.0) h.0))
away-others script i one steps e earlier (mark.Fault g c r x ∷ ms) later h n = absurd n.0
away-others script i one steps e earlier (m ∷ ms) later h n = (tt, away-others script i one steps e (earlier ++ m ∷ []) ms later h.1 n.1)

sent-no-fault : (f : ℕ → ℕ) (outs : List Out) → Each NoFault (numbered f outs)
sent-no-fault f [] = tt
sent-no-fault f (o ∷ outs) = (tt, sent-no-fault (counted f o) outs)

unless : (e : Event) (A : Type 0) → A → UnlessStart e A
unless e A a = by_test (is_going_out e)
  where
    by_test : (b : Bool) → Rattle.gx_law_order.specs.Rest.unless b A
    by_test true = tt
    by_test false = a

module _ (script : Script) (some : 1 ≤ script.segments) (numbered_lines : AreLinesNumbered [] script.lines) (inserting : AreInserting script.lines) where
  no-faults : (ms : List Mark) (i : ℕ) (s : Seg) (m : Message) (turn : SegTurn) → MessageIs script ms (at i) m → Turns script s m turn → Each NoFault turn.marks
  no-faults ms i s m turn o (inl q) = row-no-fault turn.marks q.marks
  no-faults ms i s m turn o (inr (inl x)) = absurd (no-failing-order script inserting ms (at i) x.g x.c x.level (Some x.snapshot) (slice.Select x.query) (subst (λ (y : Message). MessageIs script ms (at i) y) x.is o numbered_lines) refl)
  no-faults ms i s m turn o (inr (inr (inl x))) = insert-no-fault script s m turn x
  no-faults ms i s m turn o (inr (inr (inr (inl x)))) = subst (λ (y : SegTurn). Each NoFault y.marks) (sym x.ran) (tt, tt)
  no-faults ms i s m turn o (inr (inr (inr (inr (inl x))))) = subst (λ (y : SegTurn). Each NoFault y.marks) (sym x.ran) (tt, tt)
  no-faults ms i s m turn o (inr (inr (inr (inr (inr x))))) =
      absurd (no-failing-order script inserting ms (at i) x.g x.change.cid x.change.level (Some x.change.snapshot) x.change.slice (subst (λ (y : Message). MessageIs script ms (at i) y) x.is o numbered_lines) (change-fails x.change x.changes))

  -- who goes on inserts or locks
  no-change : (ms : List Mark) (i : ℕ) (g : Gxid) (x : Suspended) (k : Change) → change_of x.cid x.level x.snapshot x.slice ≡ Some k → IsOrder script ms (at i) g x.cid x.level x.snapshot x.slice → ⊥
  no-change ms i g x k e o =
      let p = change-parts x.cid x.level x.snapshot x.slice k e in
      no-failing-order script inserting ms (at i) g x.cid x.level x.snapshot x.slice o (subst (λ y. may_fail y ≡ true) p.slice (change-fails k p.again))

  resumption-faults : (ms : List Mark) (i : ℕ) (s : Seg) (g : Gxid) (x : Suspended) (horizon : Gxid) (turn : SegTurn) → MessageIs script ms (at i) (message.Exec g x.cid x.level x.snapshot horizon x.slice) → Continues s g x turn → Each NoFault turn.marks
  resumption-faults ms i s g x horizon turn o (inl y) = absurd (no-failing-order script inserting ms (at i) g x.cid x.level x.snapshot (slice.Select y.query) (subst (IsOrder script ms (at i) g x.cid x.level x.snapshot) y.is (o numbered_lines)) refl)
  resumption-faults ms i s g x horizon turn o (inr (inl y)) = resumption-no-fault s g x turn y
  resumption-faults ms i s g x horizon turn o (inr (inr (inl y))) = subst (λ (z : SegTurn). Each NoFault z.marks) (sym y.ran) (tt, tt)
  resumption-faults ms i s g x horizon turn o (inr (inr (inr (inl y)))) = absurd (no-change ms i g x y.change y.changes (o numbered_lines))
  resumption-faults ms i s g x horizon turn o (inr (inr (inr (inr y)))) = absurd (no-change ms i g x y.goes.at.change y.goes.at.changes (o numbered_lines))

  module _ (w : World) (k : Known script some w) (n : Counted script w) where
    -- A TURN OF THE COORDINATOR
    module _ (e : Event) (x : NodeEvent) (there : IsThere script w e the_coordinator x) (can : coord_can script w.coord x ≡ true) where
      abbrev c : Coord
      c = w.coord

      report : Reports script w x
      report = reports-so script some w k e x there can

      quiet : StartsNone e x
      quiet = starts-none script some w k e x there

      -- constants fault where a command goes out
      starts : IsGoingOut script c x x → (A : Type 0) → UnlessStart e A
      starts = by_event x there
        where
          by_event : (y : NodeEvent) → IsThere script w e the_coordinator y → IsGoingOut script c x y → (A : Type 0) → UnlessStart e A
          by_event (here.Start s) r z A = subst (λ q. UnlessStart q A) (sym r) tt
          by_event (here.Resume g) r z A = subst (λ q. UnlessStart q A) (sym r) tt
          by_event (here.Deliver from envelope) r z A = absurd z
          by_event (here.End s) r z A = absurd z
          by_event (here.Resend j g) r z A = absurd z
          by_event here.Round r z A = absurd z

      -- what comes is of a segment
      heard : (from : Node) (number : ℕ) → e ≡ event.Receive from the_coordinator number → 1 ≤ from.0
      heard = by_event x there can
        where
          at-least : (a n : ℕ) → (nat_le 1 a && nat_le a n) ≡ true → 1 ≤ a
          at-least a n q = grind (arith, nat_tests)

          receive-same : (from a : Node) (number m : ℕ) → event.Receive from the_coordinator number ≡ event.Receive a the_coordinator m → from ≡ a
          receive-same from a number m q = cc

          started-no : (s : SessionId) (a : Node) (m : ℕ) → event.Start s ≡ event.Receive a the_coordinator m → ⊥
          started-no s a m q = cc

          ended-no : (s : SessionId) (a : Node) (m : ℕ) → event.End s ≡ event.Receive a the_coordinator m → ⊥
          ended-no s a m q = cc

          resent-no : (j : Node) (g : Option Gxid) (a : Node) (m : ℕ) → event.Resend j g ≡ event.Receive a the_coordinator m → ⊥
          resent-no j g a m q = cc

          resumed-no : (j : Node) (g : Gxid) (a : Node) (m : ℕ) → event.Resume j g ≡ event.Receive a the_coordinator m → ⊥
          resumed-no j g a m q = cc

          rounds-no : (a : Node) (m : ℕ) → event.Round ≡ event.Receive a the_coordinator m → ⊥
          rounds-no a m q = cc

          by_event : (y : NodeEvent) → IsThere script w e the_coordinator y → coord_can script w.coord y ≡ true → (from : Node) (number : ℕ) → e ≡ event.Receive from the_coordinator number → 1 ≤ from.0
          by_event (here.Deliver from envelope) r ok a m q = subst (λ (y : Node). 1 ≤ y.0) (receive-same from a r.number m (sym r.event ∙ q)) (at-least from.0 script.segments ok)
          by_event (here.Start s) r ok a m q = absurd (started-no s a m (sym r ∙ q))
          by_event (here.End s) r ok a m q = absurd (ended-no s a m (sym r ∙ q))
          by_event (here.Resend j g) r ok a m q = absurd (resent-no j g a m (sym r ∙ q))
          by_event (here.Resume g) r ok a m q = absurd (resumed-no the_coordinator g a m (sym r ∙ q))
          by_event here.Round r ok a m q = absurd (rounds-no a m (sym r ∙ q))

      -- a segment's word that a command has failed never comes
      no-failed : (from : Node) (g : Gxid) (cid : Cid) (cause : Cause) → Receives w.steps e from the_coordinator (message.Answer g (reply.Failed cid cause)) → ⊥
      no-failed from g cid cause r =
          let f = (sending-told script (marks_in w.steps) (locals_in w.segs) w.steps r.sent.step r.sent.mark from the_coordinator r.number (message.Answer g (reply.Failed cid cause)) (heard from r.number r.is) k.written.told r.sent.sending).1 in
          no-failing-order script inserting (marks_in w.steps) from g cid f.level f.snapshot f.slice f.order f.kind

      caused : (earlier later : List Mark) (s : SessionId) (reason : Refused) → IsCaused script (record { steps = w.steps; event = e; earlier = earlier; later = later }) s reason
      caused earlier later s reason asked level g cid from cause runs r is = absurd (no-failed from g cid cause r)

      refused-rest : (earlier later : List Mark) (s : SessionId) (reason : Refused) → RestRefusal script (record { steps = w.steps; event = e; earlier = earlier; later = later }) s reason
      refused-rest earlier later s (refused.JournalFault node) = tt
      refused-rest earlier later s refused.InFailedBlock = tt
      refused-rest earlier later s refused.NotInBlock = tt
      refused-rest earlier later s (refused.Restarted node) = unless e _ (caused earlier later s (refused.Restarted node))
      refused-rest earlier later s (refused.Serialization rid g) = unless e _ (caused earlier later s (refused.Serialization rid g))
      refused-rest earlier later s (refused.Victim round) = tt
      refused-rest earlier later s refused.Overflow = unless e _ (caused earlier later s refused.Overflow)
      refused-rest earlier later s refused.DivisionByZero = unless e _ (caused earlier later s refused.DivisionByZero)

      -- a command that is answered is an INSERT
      of-insert : (s : SessionId) (a : StmtAnswer) (q : Completes script c x s a) → (t : Table) × (tuples : List (List Expr)) × (a ≡ command_answer q.m (stmt.Insert t tuples))
      of-insert s a q =
          let r = answered script some numbered_lines w k.both.knows.kept k.stands.sessions x n.commands report e quiet s a q in
          let i = insert-only _ r.run.command.stmt (stmt-inserting _ _ script.lines r.run.command.stmt inserting r.run.line) r.run.is_one in
          (i.0, i.1, sym q.says ∙ ap (command_answer q.m) (r.line ∙ i.2))

      no-other : (s : SessionId) (a : StmtAnswer) → ((count : ℕ) → a ≡ told.Inserted count → ⊥) → Completes script c x s a → ⊥
      no-other s a f q = let i = of-insert s a q in f q.m.count i.2

      answer-rest : (earlier later : List Mark) (s : SessionId) (a : StmtAnswer) → AnswerOk script c x earlier s a → RestAnswer script (record { steps = w.steps; event = e; earlier = earlier; later = later }) s a
      answer-rest earlier later s told.Begin q = tt
      answer-rest earlier later s told.Commit q = tt
      answer-rest earlier later s told.Rollback q = tt
      answer-rest earlier later s (told.Refused reason) q = refused-rest earlier later s reason
      answer-rest earlier later s (told.Inserted m) q = λ line level g cid runs gathered. tells script some numbered_lines w k.both.knows.kept k.stands.sessions x n.commands report e quiet earlier later s m q.0 q.1 (answered script some numbered_lines w k.both.knows.kept k.stands.sessions x n.commands report e quiet s (told.Inserted m) q.0) line level g cid runs
      answer-rest earlier later s told.Locked q = absurd (no-other s told.Locked (λ m z. differ m z) q.0)
        where
          differ : (m : ℕ) → told.Locked ≡ told.Inserted m → ⊥
          differ m z = cc
      answer-rest earlier later s (told.Updated d) q = absurd (no-other s (told.Updated d) (λ m z. differ m z) q.0)
        where
          differ : (m : ℕ) → told.Updated d ≡ told.Inserted m → ⊥
          differ m z = cc
      answer-rest earlier later s (told.Deleted d) q = absurd (no-other s (told.Deleted d) (λ m z. differ m z) q.0)
        where
          differ : (m : ℕ) → told.Deleted d ≡ told.Inserted m → ⊥
          differ m z = cc
      answer-rest earlier later s (told.Rows d) q = absurd (no-other s (told.Rows d) (λ m z. differ m z) q.0)
        where
          differ : (m : ℕ) → told.Rows d ≡ told.Inserted m → ⊥
          differ m z = cc

      mark-others : (earlier later : List Mark) (m : Mark) → AnswerAt script c x earlier m → Others script (record { steps = w.steps; event = e; earlier = earlier; later = later }) m
      mark-others earlier later (mark.Answer s i a) q = answer-rest earlier later s a q
      mark-others earlier later (mark.Fault g d r i) q = starts q _
      mark-others earlier later m q = tt

      marks-others : (earlier ns later : List Mark) → AnswersOk script c x earlier ns → EachMark (Others script) w.steps e earlier ns later
      marks-others earlier [] later q = tt
      marks-others earlier (m ∷ ns) later q = (mark-others earlier (ns ++ later) m q.0, marks-others (earlier ++ m ∷ []) ns later q.1)

      coord-others : (fails : Bool) → AreAlways (Others script) [] w.steps → AreAlways (Others script) [] (coord_did w e (coord_turn script w.coord x fails)).steps
      coord-others fails o =
          always-push (Others script) [] w.steps step o
          (λ later. marks-append (Others script) w.steps e [] (on_event script w.coord x fails).marks _ later
          (marks-others [] (on_event script w.coord x fails).marks _ (event-walk script w.coord x k.both.knows.kept (going-out script w k.both.knows) x refl fails can).answers)
          (sent-others script w.steps e (on_event script w.coord x fails).coord.sent (on_event script w.coord x fails).outs (on_event script w.coord x fails).marks later))
        where
          step : Step
          step = record { stamp = record { clock = clock_after w.coord.clock x; node = the_coordinator }; event = e; marks = (coord_turn script w.coord x fails).marks }

    -- A STEP OF A SEGMENT
    seg-others : (e : Event) (x : NodeEvent) (fails : Bool) (i : ℕ) → IsSegment script (at i) → Each NoFault (seg_rule script (w.segs i) x fails).marks → AreAlways (Others script) [] w.steps → AreAlways (Others script) [] (seg_did w (at i) e (seg_rule script (w.segs i) x fails)).steps
    seg-others e x fails i place none o =
        always-push (Others script) [] w.steps (record { stamp = record { clock = clock_after (w.segs i).clock x; node = at i }; event = e; marks = (seg_rule script (w.segs i) x fails).marks }) o
        (λ later. away-others script i place.0 w.steps e [] (seg_rule script (w.segs i) x fails).marks later (seg_marks script w k.both.knows.well e x fails i place) none)

    -- a message of the coordinator makes no fault there
    none-faults : (from : Node) (envelope : Envelope) (fails : Bool) (i : ℕ) → MessageIs script (marks_in w.steps) (at i) envelope.message → Each NoFault (seg_rule script (w.segs i) (here.Deliver from envelope) fails).marks
    none-faults from envelope fails i o =
        each_append NoFault (segment.on_message script (w.segs i) fails envelope.message).marks _ (no-faults (marks_in w.steps) i (w.segs i) envelope.message (segment.on_message script (w.segs i) fails envelope.message) o (message-turns script (w.segs i) fails envelope.message)) (sent-no-fault (λ node. (segment.on_message script (w.segs i) fails envelope.message).seg.sent) (segment.on_message script (w.segs i) fails envelope.message).outs)

    abbrev IsPost : Letter → Type 0
    IsPost l = IsLetter script w.steps l × (l.from ≡ the_coordinator → MessageIs script (marks_in w.steps) l.to l.envelope.message)

    each-both : (P Q : Letter → Type 0) (ls : List Letter) → Each P ls → Each Q ls → Each (λ l. P l × Q l) ls
    each-both P Q [] e f = tt
    each-both P Q (l ∷ ls) e f = ((e.0, f.0), each-both P Q ls e.1 f.1)

    goes-on-faults : (i : ℕ) (g : Gxid) (fails : Bool) → GoesOn script w i g → Each NoFault (seg_rule script (w.segs i) (here.Resume g) fails).marks
    goes-on-faults i g fails o =
        each_append NoFault (segment.on_event script (w.segs i) (here.Resume g) fails).marks _
        (resumption-faults (marks_in w.steps) i (w.segs i) g o.slice o.waits.horizon _ order (resumption-turns script w i g o))
        (sent-no-fault (λ node. (segment.on_event script (w.segs i) (here.Resume g) fails).seg.sent) (segment.on_event script (w.segs i) (here.Resume g) fails).outs)
      where
        post : IsPost o.waits.come.letter
        post = each-among IsPost w.sent o.waits.come.letter (each-both (IsLetter script w.steps) _ w.sent k.both.knows.well.letters k.stands.orders) o.waits.come.among

        order : MessageIs script (marks_in w.steps) (at i) (message.Exec g o.slice.cid o.slice.level o.slice.snapshot o.waits.horizon o.slice.slice)
        order = subst (MessageIs script (marks_in w.steps) (at i)) o.waits.come.told (subst (λ n. MessageIs script (marks_in w.steps) n o.waits.come.letter.envelope.message) o.waits.come.target (post.1 o.waits.come.source))

    -- what comes there from the coordinator
    order-is : (e : Event) (from : Node) (envelope : Envelope) (i : ℕ) → 1 ≤ i → IsThere script w e (at i) (here.Deliver from envelope) → MessageIs script (marks_in w.steps) (at i) envelope.message
    order-is e from envelope i one r =
        let d = found_is IsPost from (at i) r.number w.sent envelope (each-both (IsLetter script w.steps) _ w.sent k.both.knows.well.letters k.stands.orders) r.found in
        subst (λ a. MessageIs script (marks_in w.steps) a envelope.message) d.target (subst (λ (a : Envelope). MessageIs script (marks_in w.steps) d.letter.to a.message) d.told (d.is.1 (d.source ∙ from-coordinator script i from one r.link)))

    serve-others : (e : Event) (x : NodeEvent) (fails : Bool) (i : ℕ) → IsSegment script (at i) → IsThere script w e (at i) x → seg_can script (w.segs i) x ≡ true → AreAlways (Others script) [] w.steps
        → AreAlways (Others script) [] (seg_did w (at i) e (seg_rule script (w.segs i) x fails)).steps
    serve-others e (here.Deliver from envelope) fails i place r ok o = seg-others e (here.Deliver from envelope) fails i place (none-faults from envelope fails i (order-is e from envelope i place.0 r)) o
    serve-others e (here.Resume g) fails i place r ok o = seg-others e (here.Resume g) fails i place (goes-on-faults i g fails (going-on script w k.both.knows.well i g ok)) o
    serve-others e (here.Start s) fails i place r ok o = absurd (cc)
    serve-others e (here.End s) fails i place r ok o = absurd (cc)
    serve-others e (here.Resend j g) fails i place r ok o = absurd (cc)
    serve-others e here.Round fails i place r ok o = absurd (cc)

  -- ALL EVENTS
  record IsKnown (w : World) : Type 0 where
    known : Known script some w
    counts : Counted script w

  moves-others : (ms : List Move) → AreAlways (Others script) [] (world_by script ms).steps
  moves-others =
      at-moves script some IsKnown (λ w. AreAlways (Others script) [] w.steps) (λ ms. record { known = moves-known script some numbered_lines ms; counts = moves-counted script some numbered_lines ms }) tt
      (λ w k o e x fails r ok next. coord-others w k.known k.counts e x r ok fails o) (λ w k o g a next. always-victim (Others script) (victim-others script) w g a o)
      (λ w k o e x fails i place r ok next. serve-others w k.known k.counts e x fails i place r ok o)

  pub inserts-legal : (es : List (Event × Bool)) → AreVerdictsLegal [] (world_of script es).steps → AreLegalSteps script [] (world_of script es).steps
  inserts-legal es verdicts =
      legal-with-rest script some es
      (all-steps script [] (world_of script es).steps (world-holds script some numbered_lines es).legal
      (subst (λ (w : World). AreAlways (Others script) [] w.steps) (sym (world-moves script es)) (moves-others (moves_after script new_world es))) verdicts)
