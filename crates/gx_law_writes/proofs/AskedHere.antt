-- What is asked for at the coordinator: the table of the command under way.
use Rattle.std.proofs.Common.{◌≡◌, ◌≤◌, ◌&&◌, inl, inr, ℕ, ◌+◌, List, [], ◌∷◌, ◌++◌, Option, Some, None, Result, Ok, Err, Bool, true, false, refl, sym, subst, ap, ◌∙◌, if◌then◌else◌, ◌==◌, arith, append-nil}
use Rattle.std.proofs.lemmas.Bool.{and_parts}
use Rattle.gx_lemmas.proofs.Options.{some-same}
use Rattle.gx_ids.specs.declared.ids.Cid.{Cid}
use Rattle.gx_ids.specs.declared.ids.Gxid.{Gxid}
use Rattle.gx_ids.specs.declared.ids.Node.{Node}
use Rattle.gx_ids.specs.declared.ids.SessionId.{SessionId}
use Rattle.gx_tree.specs.declared.part.Part.{Part}
use Rattle.gx_tree.specs.declared.stmt.Level.{Level}
use Rattle.gx_tree.specs.declared.stmt.Level.TheVariants.{ReadCommitted}
use Rattle.gx_tree.specs.declared.stmt.Stmt.{Stmt}
use Rattle.gx_tree.specs.declared.stmt.Stmt.TheVariants as stmt
use Rattle.gx_dsnap.specs.declared.snapshot.Snapshot.{Snapshot}
use Rattle.gx_dtx.specs.Rules.{Turn, on_abort, on_commit, on_reply}
use Rattle.gx_dtx.specs.declared.outcome.Outcome.{Outcome}
use Rattle.gx_dtx.specs.declared.outcome.Outcome.TheVariants as outcome
use Rattle.gx_locks.specs.Locks.{wait_of}
use Rattle.gx_meaning.specs.Plan.{plan_of}
use Rattle.gx_meaning.specs.declared.fault.ArithFault.{ArithFault}
use Rattle.gx_meaning.specs.declared.piece.Piece.{Piece}
use Rattle.gx_msg.specs.declared.message.Message.{Message}
use Rattle.gx_msg.specs.declared.message.Message.TheVariants as message
use Rattle.gx_msg.specs.declared.reply.Cause.{Cause}
use Rattle.gx_msg.specs.declared.reply.Reply.{Reply}
use Rattle.gx_msg.specs.declared.reply.Reply.TheVariants as reply
use Rattle.gx_script.specs.Session.{line_step}
use Rattle.gx_script.specs.declared.Script.{Script}
use Rattle.gx_script.specs.declared.line_step.LineStep.{LineStep}
use Rattle.gx_script.specs.declared.line_step.LineStep.TheVariants as step
use Rattle.gx_script.specs.declared.state.Block.{Block}
use Rattle.gx_script.specs.declared.state.Block.TheVariants as block
use Rattle.gx_script.specs.declared.state.Pending.{Pending}
use Rattle.gx_script.specs.declared.state.Pending.TheVariants as pending
use Rattle.gx_waits.specs.declared.claim.Claim.{Claim}
use Rattle.gx_store.specs.Asking.{AsksHere, IsAsked, NeedsTable}
use Rattle.gx_store.specs.Commands.{IsUnderWay}
use Rattle.gx_store.specs.Lines.{cid_of, is_command, level_of, stmt_of}
use Rattle.gx_store.specs.Marks.{answer_count, is_ended, started_after}
use Rattle.gx_store.specs.Points.{Point, ends_in, marks_in, starts_by, starts_in}
use Rattle.gx_store.specs.Refusals.{the_coordinator}
use Rattle.gx_store.specs.Writes.{dist_of}
use Rattle.gx_store.specs.declared.answer.Refused.{Refused}
use Rattle.gx_store.specs.declared.event.Event.{Event}
use Rattle.gx_store.specs.declared.event.Event.TheVariants as event
use Rattle.gx_store.specs.declared.mark.Mark.{Mark}
use Rattle.gx_store.specs.declared.mark.Mark.TheVariants as mark
use Rattle.gx_store.specs.declared.node.NodeEvent.{NodeEvent}
use Rattle.gx_store.specs.declared.node.NodeEvent.TheVariants as here
use Rattle.gx_store.specs.declared.run.Step.{Step}
use Rattle.gx_rules.specs.AtCoordinator.{Reading, awaited, awaited_collect, begins, behind, completes, coord_can, coord_turn, dispatches, ends_in as ends_session, failure_marks, fault_mark, follows, goes, goes_on, goes_on_locked, is_awaited, is_idle, is_left, is_nothing, is_refused, next_cid, next_line, on_answer, on_done, on_event, on_failed, on_line, on_message, on_status, reads_by, reads_for, reason_of, resends, starts, starts_line, table_of, takes_done, with_done, writers_with}
use Rattle.gx_store.specs.Locks.{table_lock}
use Rattle.gx_rules.specs.Coordinators.{Command, Coord, CoordTurn, Session, Work, rests, session_of, with_work, work_of}
use Rattle.gx_rules.specs.Fits.{fits_part}
use Rattle.gx_rules.specs.Locks.{hold_mark, wait_mark, with_hold}
use Rattle.gx_rules.specs.Machine.{World}
use Rattle.gx_rules.proofs.Rounds.{graph-ways}
use Rattle.gx_law_order.proofs.AtLine.{AtLine, at-start, has_txn, under-way}
use Rattle.gx_law_order.proofs.Dispatches.{dispatch-ways, out_of_wait, resume-ways, without_wait}
use Rattle.gx_law_order.proofs.Given.{marks-append}
use Rattle.gx_law_order.proofs.Induction.{IsThere}
use Rattle.gx_law_order.proofs.Lists.{each_append}
use Rattle.gx_law_order.specs.Lists.{Each}
use Rattle.gx_law_order.proofs.Others.{ended-more}
use Rattle.gx_law_order.proofs.Queued.{lock-of, statement-waits}
use Rattle.gx_law_order.specs.Sessions.{is_live_in, is_nothing_in, is_working_in}
use Rattle.gx_law_order.proofs.Releases.{each-released}
use Rattle.gx_law_order.proofs.SegAnswers.{same-gxid, stand}
use Rattle.gx_law_order.specs.Stages.{stage_of}
use Rattle.gx_law_order.proofs.Starting.{at-zero, session-now, st}
use Rattle.gx_law_order.specs.Stages.Stage.{Live}
use Rattle.gx_law_order.proofs.Stepping as stepping
use Rattle.gx_law_order.proofs.World.{Knows}
use Rattle.gx_law_order.specs.Rest.{EachMark}
use Rattle.gx_law_order.specs.Standing.{IsLineOf, Owns, Stands, is_alone, is_busy, state_in}
use Rattle.gx_law_writes.proofs.AskedMarks.{NoAsk, none-asked, sent-no-ask}
use Rattle.gx_law_order.proofs.Said.{Said}

-- TURNS THAT ASK FOR NOTHING
abbrev pub Quiet : CoordTurn → Type 0
Quiet turn = Each NoAsk turn.marks

failure-quiet : (i : Node) (g : Gxid) → Each NoAsk (failure_marks i g)
failure-quiet i g = by_test (i.0 == 0)
  where
    by_test : (b : Bool) → Each NoAsk (if b then mark.JournalFailed the_coordinator g ∷ [] else [])
    by_test true = (tt, tt)
    by_test false = tt

refused : (c : Coord) (g : Gxid) (turn : Turn) (why : List Mark) (reason : Refused) → Each NoAsk why → Quiet (is_refused c g turn why reason)
refused c g turn why reason n = each_append NoAsk why _ n (tt, (tt, each-released NoAsk the_coordinator c.locks g (λ claim. tt)))

follow : (c : Coord) (g : Gxid) (turn : Turn) (o : Outcome) → Quiet (follows c g turn o)
follow c g turn outcome.Pending = tt
follow c g turn outcome.Decided = (tt, tt)
follow c g turn outcome.Committed = (tt, (tt, each-released NoAsk the_coordinator c.locks g (λ claim. tt)))
follow c g turn (outcome.Refused i) = refused c g turn (failure_marks i g) _ (failure-quiet i g)
follow c g turn outcome.Ended = tt

complete : (c : Coord) (g : Gxid) (b : Block) → Quiet (completes c g b)
complete c g block.Outside = follow c g (on_commit c.table g (work_of c g).writers) (on_commit c.table g (work_of c g).writers).out.outcome
complete c g (block.Open level) = (tt, tt)
complete c g block.Failed = (tt, tt)

go-on : (c : Coord) (g : Gxid) (left : List Node) → Quiet (goes_on c g left)
go-on c g [] = complete c g (session_of c (work_of c g).session).state.block
go-on c g (i ∷ is) = tt

either : (b : Bool) (x y : CoordTurn) → Quiet x → Quiet y → Quiet (if b then x else y)
either true x y e f = e
either false x y e f = f

done : (c : Coord) (g : Gxid) (i : Node) (cid : Cid) (wrote : Bool) (count : ℕ) (part : Part) (m : Option Command) → Quiet (on_done c g i cid wrote count part m)
done c g i cid wrote count part None = tt
done c g i cid wrote count part (Some m) =
    either (is_awaited m i cid && fits_part m.stmt part) (takes_done c g i wrote count part m) (rests c)
    (go-on (with_work c g (record (work_of c g) { writers = writers_with wrote i (work_of c g).writers; command = Some (with_done m i count part) })) g (with_done m i count part).awaited) tt

failed : (c : Coord) (g : Gxid) (i : Node) (cid : Cid) (cause : Cause) (m : Option Command) → Quiet (on_failed c g i cid cause m)
failed c g i cid cause None = tt
failed c g i cid cause (Some m) = either (is_awaited m i cid) (is_refused c g (on_abort c.table g) [] (reason_of cause)) (rests c) (refused c g (on_abort c.table g) [] (reason_of cause) tt) tt

status : (c : Coord) (g : Gxid) (i : Node) (r : Reply) (fails : Bool) → Quiet (on_status c g i r fails)
status c g i r fails = follow c g (on_reply c.table g i r fails) (on_reply c.table g i r fails).out.outcome

answered : (c : Coord) (g : Gxid) (i : Node) (fails : Bool) (r : Reply) → Quiet (on_answer c g i fails r)
answered c g i fails (reply.Done cid wrote count part) = done c g i cid wrote count part (work_of c g).command
answered c g i fails (reply.Failed cid cause) = failed c g i cid cause (work_of c g).command
answered c g i fails reply.Prepared = status c g i reply.Prepared fails
answered c g i fails reply.Committed = status c g i reply.Committed fails
answered c g i fails reply.Jfault = status c g i reply.Jfault fails
answered c g i fails reply.Again = status c g i reply.Again fails
answered c g i fails reply.Restarted = status c g i reply.Restarted fails
answered c g i fails reply.Aborted = status c g i reply.Aborted fails
answered c g i fails reply.Forgotten = status c g i reply.Forgotten fails

message-quiet : (c : Coord) (from : Node) (fails : Bool) (m : Message) → Quiet (on_message c from fails m)
message-quiet c from fails (message.Answer g r) = answered c g from fails r
message-quiet c from fails (message.Exec g cid level x h y) = tt
message-quiet c from fails (message.Prepare g) = tt
message-quiet c from fails (message.Commit g) = tt
message-quiet c from fails (message.CommitPrepared g) = tt
message-quiet c from fails (message.Abort g) = tt
message-quiet c from fails (message.Forget g) = tt
message-quiet c from fails (message.Collect round) = tt
message-quiet c from fails (message.Graph round graph) = graph-ways (λ (turn : CoordTurn). Quiet turn) c from round graph tt (λ r. tt) (λ r a. (tt, tt))
message-quiet c from fails message.Up = tt

-- a command that goes out, with its lock or without
read-quiet : (c : Coord) (g : Gxid) (cid : Cid) (w : Work) (x : Option Snapshot) → Each NoAsk (reads_by c g cid w x).marks
read-quiet c g cid w None = (tt, tt)
read-quiet c g cid w (Some x) = tt

reading-quiet : (c : Coord) (g : Gxid) (cid : Cid) (w : Work) (l : Stmt) → Each NoAsk (reads_for c g cid w l).marks
reading-quiet c g cid w (stmt.Lock table mode) = tt
reading-quiet c g cid w (stmt.Begin level) = read-quiet c g cid w w.snapshot
reading-quiet c g cid w stmt.Commit = read-quiet c g cid w w.snapshot
reading-quiet c g cid w stmt.Rollback = read-quiet c g cid w w.snapshot
reading-quiet c g cid w (stmt.Select q) = read-quiet c g cid w w.snapshot
reading-quiet c g cid w (stmt.Insert t x) = read-quiet c g cid w w.snapshot
reading-quiet c g cid w (stmt.Update t x y) = read-quiet c g cid w w.snapshot
reading-quiet c g cid w (stmt.Delete t x) = read-quiet c g cid w w.snapshot

fault-quiet : (g : Gxid) (cid : Cid) (l : Stmt) → Each NoAsk (fault_mark g cid l)
fault-quiet g cid (stmt.Insert t x) = (tt, tt)
fault-quiet g cid (stmt.Begin level) = tt
fault-quiet g cid stmt.Commit = tt
fault-quiet g cid stmt.Rollback = tt
fault-quiet g cid (stmt.Select q) = tt
fault-quiet g cid (stmt.Update t x y) = tt
fault-quiet g cid (stmt.Delete t x) = tt
fault-quiet g cid (stmt.Lock t m) = tt

went : (g : Gxid) (cid : Cid) (l : Stmt) (r : Reading) (plan : Result (List Piece) ArithFault) → Each NoAsk r.marks → Quiet (goes g cid l r plan)
went g cid l r (Ok pieces) n = n
went g cid l r (Err f) n = refused r.coord g (on_abort r.coord.table g) (r.marks ++ fault_mark g cid l) _ (each_append NoAsk r.marks (fault_mark g cid l) n (fault-quiet g cid l))

out-quiet : (script : Script) (c : Coord) (g : Gxid) (l : Stmt) → Quiet (goes_on_locked script c g l)
out-quiet script c g l =
    went g (next_cid (work_of c g)) l (reads_for c g (next_cid (work_of c g)) (work_of c g) l) (plan_of script.segments (dist_of script.tables (table_of l)) g (next_cid (work_of c g)) l)
    (reading-quiet c g (next_cid (work_of c g)) (work_of c g) l)

end-quiet : (c : Coord) (s : SessionId) (b : Block) → Quiet (ends_session c s b)
end-quiet c s (block.Open level) = (tt, each-released NoAsk the_coordinator c.locks (session_of c s).transaction (λ claim. tt))
end-quiet c s block.Failed = tt
end-quiet c s block.Outside = tt

again-quiet : (c : Coord) (i : Node) (m : Option Message) → Quiet (resends c i m)
again-quiet c i None = tt
again-quiet c i (Some m) = tt

-- WHAT A STATEMENT ASKS FOR
needs-of : (script : Script) (g : Gxid) (line : Stmt) (wanted : Claim) → table_lock script g line ≡ Some wanted → NeedsTable script g line wanted.object wanted.mode
needs-of script g (stmt.Select query) wanted e = subst (λ (c : Claim). NeedsTable script g (stmt.Select query) c.object c.mode) (some-same _ wanted e) refl
needs-of script g (stmt.Insert table tuples) wanted e = subst (λ (c : Claim). NeedsTable script g (stmt.Insert table tuples) c.object c.mode) (some-same _ wanted e) refl
needs-of script g (stmt.Update table assigns cond) wanted e = subst (λ (c : Claim). NeedsTable script g (stmt.Update table assigns cond) c.object c.mode) (some-same _ wanted e) refl
needs-of script g (stmt.Delete table cond) wanted e = subst (λ (c : Claim). NeedsTable script g (stmt.Delete table cond) c.object c.mode) (some-same _ wanted e) refl
needs-of script g (stmt.Lock table mode) wanted e = subst (λ (c : Claim). NeedsTable script g (stmt.Lock table mode) c.object c.mode) (some-same _ wanted e) refl
needs-of script g (stmt.Begin level) wanted e = absurd (cc)
needs-of script g stmt.Commit wanted e = absurd (cc)
needs-of script g stmt.Rollback wanted e = absurd (cc)

-- at a point at which it is under way, behind marks that ask for nothing
module _ (script : Script) (steps : List Step) (e : Event) (s : SessionId) (g : Gxid) (line : Stmt) (level : Level) (cid : Cid) (earlier : List Mark) (none : Each NoAsk earlier)
    (runs : (later : List Mark) → IsUnderWay script (record { steps = steps; event = e; earlier = earlier; later = later }) s line level g cid) where
  abbrev Goes : List Mark → Type 0
  Goes ms = (later : List Mark) → EachMark (IsAsked script) steps e [] (earlier ++ ms) later

  asks : (wanted : Claim) → table_lock script g line ≡ Some wanted → (later : List Mark) → AsksHere script (record { steps = steps; event = e; earlier = earlier; later = later }) the_coordinator wanted.gxid wanted.object wanted.mode
  asks wanted is later =
      subst (λ h. AsksHere script (record { steps = steps; event = e; earlier = earlier; later = later }) the_coordinator h wanted.object wanted.mode) (sym (lock-of script g line wanted is))
      (record { here = refl; session = s; line = line; level = level; cid = cid; under_way = runs later; needs = needs-of script g line wanted is })

  alone : (ms : List Mark) → Each NoAsk ms → Goes ms
  alone ms n later = none-asked script steps e [] (earlier ++ ms) later (each_append NoAsk earlier ms none n)

  granted : (wanted : Claim) (ms : List Mark) → table_lock script g line ≡ Some wanted → Each NoAsk ms → Goes (hold_mark the_coordinator wanted ∷ ms)
  granted wanted ms is n later =
      marks-append (IsAsked script) steps e [] earlier (hold_mark the_coordinator wanted ∷ ms) later (none-asked script steps e [] earlier _ none)
      (inl (inl (asks wanted is (ms ++ later))), none-asked script steps e (earlier ++ hold_mark the_coordinator wanted ∷ []) ms later n)

  waiting : (wanted : Claim) → table_lock script g line ≡ Some wanted → Goes (wait_mark the_coordinator wanted ∷ [])
  waiting wanted is later = marks-append (IsAsked script) steps e [] earlier (wait_mark the_coordinator wanted ∷ []) later (none-asked script steps e [] earlier _ none) (inl (asks wanted is later), tt)

  pub dispatched : (c : Coord) → (later : List Mark) → EachMark (IsAsked script) steps e [] (earlier ++ (dispatches script c g line).marks) later
  dispatched c =
      dispatch-ways (λ (turn : CoordTurn). Goes turn.marks) script c g line (λ is. alone (goes_on_locked script c g line).marks (out-quiet script c g line))
      (λ wanted is free. granted wanted (goes_on_locked script (record c { locks = with_hold c.locks wanted }) g line).marks is (out-quiet script (record c { locks = with_hold c.locks wanted }) g line))
      (λ wanted is met. waiting wanted is)

-- LINES
idle-so : (q : Pending) → is_nothing q ≡ true → is_nothing_in q ≡ true
idle-so q e = grind arith

alone-step : (b : Block) (line : Stmt) → line_step b line ≡ step.Command true → (block.Outside ≡ b) × (is_command (state_in block.Outside 0) line ≡ true)
alone-step block.Outside (stmt.Select q) e = (refl, refl)
alone-step block.Outside (stmt.Insert t x) e = (refl, refl)
alone-step block.Outside (stmt.Update t x y) e = (refl, refl)
alone-step block.Outside (stmt.Delete t x) e = (refl, refl)
alone-step block.Outside (stmt.Begin level) e = absurd (cc)
alone-step block.Outside stmt.Commit e = absurd (cc)
alone-step block.Outside stmt.Rollback e = absurd (cc)
alone-step block.Outside (stmt.Lock t m) e = absurd (cc)
alone-step (block.Open l) (stmt.Begin level) e = absurd (cc)
alone-step (block.Open l) stmt.Commit e = absurd (cc)
alone-step (block.Open l) stmt.Rollback e = absurd (cc)
alone-step (block.Open l) (stmt.Lock t m) e = absurd (cc)
alone-step (block.Open l) (stmt.Select q) e = absurd (cc)
alone-step (block.Open l) (stmt.Insert t x) e = absurd (cc)
alone-step (block.Open l) (stmt.Update t x y) e = absurd (cc)
alone-step (block.Open l) (stmt.Delete t x) e = absurd (cc)
alone-step block.Failed (stmt.Begin level) e = absurd (cc)
alone-step block.Failed stmt.Commit e = absurd (cc)
alone-step block.Failed stmt.Rollback e = absurd (cc)
alone-step block.Failed (stmt.Lock t m) e = absurd (cc)
alone-step block.Failed (stmt.Select q) e = absurd (cc)
alone-step block.Failed (stmt.Insert t x) e = absurd (cc)
alone-step block.Failed (stmt.Update t x y) e = absurd (cc)
alone-step block.Failed (stmt.Delete t x) e = absurd (cc)

inside-step : (b : Block) (line : Stmt) (n : ℕ) → line_step b line ≡ step.Command false → (is_busy b pending.Nothing ≡ true) × (is_command (state_in b n) line ≡ true) × (has_txn (state_in b n) false ≡ true)
inside-step (block.Open l) (stmt.Lock t m) n e = (refl, refl, refl)
inside-step (block.Open l) (stmt.Select q) n e = (refl, refl, refl)
inside-step (block.Open l) (stmt.Insert t x) n e = (refl, refl, refl)
inside-step (block.Open l) (stmt.Update t x y) n e = (refl, refl, refl)
inside-step (block.Open l) (stmt.Delete t x) n e = (refl, refl, refl)
inside-step (block.Open l) (stmt.Begin level) n e = absurd (cc)
inside-step (block.Open l) stmt.Commit n e = absurd (cc)
inside-step (block.Open l) stmt.Rollback n e = absurd (cc)
inside-step block.Outside (stmt.Select q) n e = absurd (cc)
inside-step block.Outside (stmt.Insert t x) n e = absurd (cc)
inside-step block.Outside (stmt.Update t x y) n e = absurd (cc)
inside-step block.Outside (stmt.Delete t x) n e = absurd (cc)
inside-step block.Outside (stmt.Begin level) n e = absurd (cc)
inside-step block.Outside stmt.Commit n e = absurd (cc)
inside-step block.Outside stmt.Rollback n e = absurd (cc)
inside-step block.Outside (stmt.Lock t m) n e = absurd (cc)
inside-step block.Failed (stmt.Begin level) n e = absurd (cc)
inside-step block.Failed stmt.Commit n e = absurd (cc)
inside-step block.Failed stmt.Rollback n e = absurd (cc)
inside-step block.Failed (stmt.Lock t m) n e = absurd (cc)
inside-step block.Failed (stmt.Select q) n e = absurd (cc)
inside-step block.Failed (stmt.Insert t x) n e = absurd (cc)
inside-step block.Failed (stmt.Update t x y) n e = absurd (cc)
inside-step block.Failed (stmt.Delete t x) n e = absurd (cc)

-- THE COORDINATOR'S EVENTS
module _ (script : Script) (w : World) (n : Knows script w) (k : stepping.Holds script w) where
  abbrev ms : List Mark
  ms = marks_in w.steps

  abbrev Turns : Event → CoordTurn → Type 0
  Turns e turn = (later : List Mark) → EachMark (IsAsked script) w.steps e [] turn.marks later

  quiet : (e : Event) (turn : CoordTurn) → Quiet turn → Turns e turn
  quiet e turn q later = none-asked script w.steps e [] turn.marks later q

  -- a line starts
  module _ (s : SessionId) (idle : is_nothing_in (session_of w.coord s).state.pending ≡ true) (line : Stmt) (next : next_line script w.coord s ≡ Some line) where
    abbrev y : Session
    y = session_of w.coord s

    abbrev e : Event
    e = event.Start s

    abbrev asked : LineStep
    asked = line_step y.state.block line

    abbrev stood : (ends_in s w.steps ≡ 0) × Stands script s ms w.coord.table.next.0 y.state.block pending.Nothing y.lines y.transaction (work_of w.coord y.transaction)
    stood = st script w.steps w.coord n.kept n.past k.fresh k.numbers s (k.sessions s) idle line next

    zero : AtLine script w.steps e s line y.lines (state_in y.state.block stood.1.commands) false (started_after s None ms) []
    zero = at-zero script w.steps w.coord n.kept n.past k.fresh k.numbers s (k.sessions s) idle line next

    -- its own transaction
    le-same : (a : ℕ) → a ≤ a
    le-same a = omega arith

    alone-line : asked ≡ step.Command true → Turns e (behind (mark.Start w.coord.table.next s ∷ []) (dispatches script (begins (starts_line w.coord s (step.Command true)) s ReadCommitted) w.coord.table.next line))
    alone-line is =
        dispatched script w.steps e s w.coord.table.next line (level_of (state_in block.Outside stood.1.commands)) (cid_of (state_in block.Outside stood.1.commands)) (mark.Start w.coord.table.next s ∷ []) (tt, tt)
        (λ later. under-way script w.steps e s line y.lines (state_in block.Outside stood.1.commands) true (Some w.coord.table.next) (mark.Start w.coord.table.next s ∷ []) begun later w.coord.table.next refl refl o.1
        (ended-more ms (mark.Start w.coord.table.next s ∷ []) w.coord.table.next (k.fresh.unended w.coord.table.next (le-same w.coord.table.next.0)) refl))
        (begins (starts_line w.coord s (step.Command true)) s ReadCommitted)
      where
        o : (block.Outside ≡ y.state.block) × (is_command (state_in block.Outside 0) line ≡ true)
        o = alone-step y.state.block line is

        begun : AtLine script w.steps e s line y.lines (state_in block.Outside stood.1.commands) true (Some w.coord.table.next) (mark.Start w.coord.table.next s ∷ [])
        begun =
            subst (λ q. AtLine script w.steps e s line y.lines (state_in q stood.1.commands) true (Some w.coord.table.next) (mark.Start w.coord.table.next s ∷ [])) (sym o.0)
            (at-start script w.steps e s line y.lines (state_in y.state.block stood.1.commands) false (started_after s None ms) w.coord.table.next [] zero)

    -- its block's
    inside-line : asked ≡ step.Command false → Turns e (dispatches script (starts_line w.coord s (step.Command false)) y.transaction line)
    inside-line is =
        dispatched script w.steps e s y.transaction line (level_of (state_in y.state.block stood.1.commands)) (cid_of (state_in y.state.block stood.1.commands)) [] tt
        (λ later. under-way script w.steps e s line y.lines (state_in y.state.block stood.1.commands) false (started_after s None ms) [] zero later y.transaction o.2 own.started o.1
        (subst (λ m. is_ended m y.transaction ≡ false) (sym (append-nil ms)) own.running))
        (starts_line w.coord s (step.Command false))
      where
        o : (is_busy y.state.block pending.Nothing ≡ true) × (is_command (state_in y.state.block stood.1.commands) line ≡ true) × (has_txn (state_in y.state.block stood.1.commands) false ≡ true)
        o = inside-step y.state.block line stood.1.commands is

        own : Owns s stood.1.commands ms w.coord.table.next.0 y.state.block y.transaction (work_of w.coord y.transaction)
        own = (stood.1.owns o.0).0

    line-turns : (a : LineStep) → asked ≡ a → Turns e (on_line script (starts_line w.coord s a) s line a)
    line-turns (step.Answer plain) is = quiet e (on_line script (starts_line w.coord s (step.Answer plain)) s line (step.Answer plain)) (tt, tt)
    line-turns step.InFailedBlock is = quiet e (on_line script (starts_line w.coord s step.InFailedBlock) s line step.InFailedBlock) (tt, tt)
    line-turns step.NotInBlock is = quiet e (on_line script (starts_line w.coord s step.NotInBlock) s line step.NotInBlock) (tt, tt)
    line-turns (step.BeginBlock level) is = quiet e (on_line script (starts_line w.coord s (step.BeginBlock level)) s line (step.BeginBlock level)) (tt, (tt, tt))
    line-turns step.CommitBlock is =
        let c : Coord = starts_line w.coord s step.CommitBlock in
        let g : Gxid = (session_of c s).transaction in
        quiet e (on_line script c s line step.CommitBlock) (follow c g (on_commit c.table g (work_of c g).writers) (on_commit c.table g (work_of c g).writers).out.outcome)
    line-turns step.RollbackBlock is =
        let c : Coord = starts_line w.coord s step.RollbackBlock in
        quiet e (on_line script c s line step.RollbackBlock) (tt, (tt, each-released NoAsk the_coordinator c.locks (session_of c s).transaction (λ claim. tt)))
    line-turns (step.Command true) is = alone-line is
    line-turns (step.Command false) is =
        subst (λ (g : Gxid). Turns e (dispatches script (starts_line w.coord s (step.Command false)) g line))
        (sym (ap (λ (z : Session). z.transaction) (session-now script w.steps w.coord n.kept n.past k.fresh k.numbers s (k.sessions s) idle line next (step.Command false)))) (inside-line is)

  starts-turns : (s : SessionId) → is_nothing_in (session_of w.coord s).state.pending ≡ true → (o : Option Stmt) → next_line script w.coord s ≡ o → Turns (event.Start s) (starts script w.coord s o)
  starts-turns s idle None next = quiet (event.Start s) (rests w.coord) tt
  starts-turns s idle (Some line) next = line-turns s idle line next (line_step (session_of w.coord s).state.block line) refl

  -- a statement that has waited
  module _ (g : Gxid) (wanted : Claim) (line : Stmt) (claims : wait_of w.coord.locks g ≡ Some wanted) (held : (work_of w.coord g).waiting ≡ Some line) where
    abbrev s : SessionId
    s = (work_of w.coord g).session

    abbrev z : Session
    z = session_of w.coord s

    abbrev r : Event
    r = event.Resume the_coordinator g

    live : (stage_of w.coord g.0 ≡ Live) × ((work_of w.coord g).command ≡ None) × (is_working_in z.state.pending ≡ true)
    live = (n.kept.tied g.0).waits line held

    its : (z.transaction.0 ≡ g.0) × (is_live_in z.state.block z.state.pending ≡ true)
    its = (n.kept.tied g.0).live live.0

    same : z.transaction ≡ g
    same = same-gxid script w.steps w.coord n.kept k.sessions k.gathers the_coordinator the_coordinator 0 g its.0

    working : z.state.pending ≡ pending.Command
    working = by_pending z.state.pending live.2
      where
        by_pending : (q : Pending) → is_working_in q ≡ true → q ≡ pending.Command
        by_pending q h = grind arith

    lock : table_lock script g line ≡ Some wanted
    lock = sym (statement-waits g.0 (work_of w.coord g).waiting w.coord.locks (n.kept.queued g.0) line held) ∙ claims

    module _ (B : Block) (eb : z.state.block ≡ B) (busy : is_busy B pending.Command ≡ true) (has : (m : ℕ) → has_txn (state_in B m) (is_alone B pending.Command) ≡ true) where
      abbrev there : (ends_in s w.steps ≡ 0) × Stands script s ms w.coord.table.next.0 B pending.Command z.lines g (work_of w.coord g)
      there = stand script w.steps w.coord n.kept k.sessions k.gathers the_coordinator the_coordinator 0 g B pending.Command eb working busy same

      own-there : Owns s there.1.commands ms w.coord.table.next.0 B g (work_of w.coord g)
      own-there = (there.1.owns busy).0

      at-resume : stmt_of s z.lines script.lines ≡ Some line → AtLine script w.steps r s line (answer_count s ms) (state_in B there.1.commands) (is_alone B pending.Command) (Some g) []
      at-resume is =
          record {
            said = subst (λ m. Said script s m (answer_count s ms) (state_in B there.1.commands) (is_alone B pending.Command) (Some g)) (sym (append-nil ms))
                (record { answered = refl; state = there.1.state; begun = there.1.begun; started = own-there.started });
            starts = sum (starts_in s w.steps) (answer_count s ms) (k.sessions s).starts there.1.answered;
            is_line = ap (λ i. stmt_of s i script.lines) there.1.answered ∙ is;
          }
        where
          sum : (a b : ℕ) {c : ℕ} → a ≡ c → b + 1 ≡ c → a + 0 ≡ b + 1
          sum a b p q = omega arith

      by-line : IsLineOf script s z.lines B there.1.commands (work_of w.coord g) pending.Command → Turns r (out_of_wait script w.coord g line wanted)
      by-line (inl l) = absurd (nothing (work_of w.coord g).command live.1 l.1)
        where
          nothing : (o : Option Command) → o ≡ None → o ≡ Some l.0 → ⊥
          nothing o e f = cc
      by-line (inr l) =
          let a : l.0 ≡ line = some-same l.0 line (sym l.1 ∙ held) in
          granted script w.steps r s g line (level_of (state_in B there.1.commands)) (cid_of (state_in B there.1.commands)) [] tt
          (λ later. under-way script w.steps r s line (answer_count s ms) (state_in B there.1.commands) (is_alone B pending.Command) (Some g) [] (at-resume (l.3 ∙ ap (λ q. Some q) a)) later g (has there.1.commands) refl
          (subst (λ q. is_command (state_in B there.1.commands) q ≡ true) a l.4) (subst (λ m. is_ended m g ≡ false) (sym (append-nil ms)) own-there.running))
          wanted (goes_on_locked script (without_wait w.coord g wanted) g line).marks lock (out-quiet script (without_wait w.coord g wanted) g line)

      in-block : Turns r (out_of_wait script w.coord g line wanted)
      in-block = by-line (there.1.owns busy).1

    out-turns : Turns r (out_of_wait script w.coord g line wanted)
    out-turns = by_block z.state.block refl
      where
        not-failed : (q : Block) (p : Pending) → q ≡ block.Failed → is_live_in q p ≡ true → ⊥
        not-failed q p h l = grind arith

        by_block : (q : Block) → z.state.block ≡ q → Turns r (out_of_wait script w.coord g line wanted)
        by_block block.Outside eb = in-block block.Outside eb refl (λ m. refl)
        by_block (block.Open l) eb = in-block (block.Open l) eb refl (λ m. refl)
        by_block block.Failed eb = absurd (not-failed z.state.block z.state.pending eb its.1)

  event-turns : (e : Event) (x : NodeEvent) (fails : Bool) → IsThere script w e the_coordinator x → coord_can script w.coord x ≡ true → Turns e (on_event script w.coord x fails)
  event-turns e (here.Deliver from envelope) fails t ok = quiet e (on_message w.coord from fails envelope.message) (message-quiet w.coord from fails envelope.message)
  event-turns e (here.Resume g) fails t ok =
      subst (λ (q : Event). Turns q (on_event script w.coord (here.Resume g) fails)) (sym t)
      (resume-ways (λ (turn : CoordTurn). Turns (event.Resume the_coordinator g) turn) script w.coord g (quiet (event.Resume the_coordinator g) (rests w.coord) tt) (λ wanted line claims held. out-turns g wanted line claims held))
  event-turns e (here.Start s) fails t ok =
      subst (λ (q : Event). Turns q (on_event script w.coord (here.Start s) fails)) (sym t)
      (starts-turns s (idle-so (session_of w.coord s).state.pending (and_parts (is_idle (session_of w.coord s)) (is_left (next_line script w.coord s)) ok).0) (next_line script w.coord s) refl)
  event-turns e (here.End s) fails t ok = quiet e (ends_session w.coord s (session_of w.coord s).state.block) (end-quiet w.coord s (session_of w.coord s).state.block)
  event-turns e (here.Resend i (Some g)) fails t ok = quiet e (resends w.coord i (awaited w.coord g i)) (again-quiet w.coord i (awaited w.coord g i))
  event-turns e (here.Resend i None) fails t ok = quiet e (resends w.coord i (awaited_collect w.coord i)) (again-quiet w.coord i (awaited_collect w.coord i))
  event-turns e here.Round fails t ok = quiet e (on_event script w.coord here.Round fails) tt

  pub coord-asked : (e : Event) (x : NodeEvent) (fails : Bool) → IsThere script w e the_coordinator x → coord_can script w.coord x ≡ true → (later : List Mark) → EachMark (IsAsked script) w.steps e [] (coord_turn script w.coord x fails).marks later
  coord-asked e x fails t ok later =
      let turn : CoordTurn = on_event script w.coord x fails in
      marks-append (IsAsked script) w.steps e [] turn.marks _ later (event-turns e x fails t ok _) (none-asked script w.steps e ([] ++ turn.marks) _ later (sent-no-ask turn.coord.sent turn.outs))
