-- What the coordinator's event makes of its holds.
use Rattle.std.proofs.Common.{◌≡◌, ◌==◌, ◌&&◌, ◌||◌, inl, inr, List, [], ◌∷◌, ◌++◌, Option, Some, None, Result, Ok, Err, Bool, true, false, refl, sym, subst, ap, ◌∙◌, ℕ, ◌+◌, if◌then◌else◌, arith}
use Rattle.std.proofs.lemmas.Bool.{or_left, or_right}
use Rattle.std.proofs.lemmas.Bool.Decides.{nat_tests}
use Rattle.std.specs.Prelude.{filter}
use Rattle.gx_lemmas.proofs.Numbers.{eqb-self}
use Rattle.gx_lemmas.proofs.Options.{some-same}
use Rattle.gx_lemmas.proofs.Tests.{and-first}
use Rattle.gx_ids.specs.declared.ids.Cid.{Cid}
use Rattle.gx_ids.specs.declared.ids.Gxid.{Gxid}
use Rattle.gx_ids.specs.declared.ids.Node.{Node}
use Rattle.gx_ids.specs.declared.ids.SessionId.{SessionId}
use Rattle.gx_tree.specs.declared.part.Part.{Part}
use Rattle.gx_tree.specs.declared.stmt.Level.TheVariants.{ReadCommitted}
use Rattle.gx_tree.specs.declared.stmt.Stmt.{Stmt}
use Rattle.gx_tree.specs.declared.stmt.Stmt.TheVariants as stmt
use Rattle.gx_dsnap.specs.declared.snapshot.Snapshot.{Snapshot}
use Rattle.gx_dtx.specs.Rules.{Turn, on_abort, on_commit, on_reply}
use Rattle.gx_dtx.specs.declared.outcome.Outcome.{Outcome}
use Rattle.gx_dtx.specs.declared.outcome.Outcome.TheVariants as outcome
use Rattle.gx_waits.specs.Claims.{is_clear, is_of}
use Rattle.gx_locks.specs.Locks.{Locks, is_ready, resumed, wait_of}
use Rattle.gx_meaning.specs.declared.fault.ArithFault.{ArithFault}
use Rattle.gx_meaning.specs.declared.piece.Piece.{Piece}
use Rattle.gx_msg.specs.declared.message.Message.{Message}
use Rattle.gx_msg.specs.declared.message.Message.TheVariants as message
use Rattle.gx_msg.specs.declared.reply.Cause.{Cause}
use Rattle.gx_msg.specs.declared.reply.Reply.{Reply}
use Rattle.gx_msg.specs.declared.reply.Reply.TheVariants as reply
use Rattle.gx_script.specs.declared.Script.{Script}
use Rattle.gx_script.specs.Session.{after_line, idle_outside, line_step}
use Rattle.gx_script.specs.declared.line_step.LineStep.{LineStep}
use Rattle.gx_script.specs.declared.line_step.LineStep.TheVariants as step
use Rattle.gx_script.specs.declared.state.Block.{Block}
use Rattle.gx_script.specs.declared.state.Block.TheVariants as block
use Rattle.gx_store.specs.declared.answer.Refused.{Refused}
use Rattle.gx_store.specs.declared.answer.Refused.TheVariants.{Victim}
use Rattle.gx_store.specs.declared.answer.StmtAnswer.TheVariants as told
use Rattle.gx_store.specs.declared.mark.Mark.{Mark}
use Rattle.gx_store.specs.declared.mark.Mark.TheVariants as mark
use Rattle.gx_store.specs.declared.node.NodeEvent.{NodeEvent}
use Rattle.gx_store.specs.declared.node.NodeEvent.TheVariants as event
use Rattle.gx_store.specs.Marks.{is_aborted, is_ended, is_same_gxid}
use Rattle.gx_store.specs.Marks as marks
use Rattle.gx_store.specs.Refusals.{the_coordinator}
use Rattle.gx_store.specs.Writes.{dist_of}
use Rattle.gx_rules.specs.AtCoordinator.{Reading, answer_at_commit, answer_mark, awaited, awaited_collect, begins, cancels, behind, commits, completes, coord_can, dispatches, ends_in, failure_marks, fault_mark, follows, goes, goes_on, goes_out, goes_on_locked, if_granted, is_awaited, is_idle, is_committed, is_refused, next_cid, next_line, on_answer, on_done, on_event, on_failed, on_line, on_message, on_status, reads_by, reads_for, reason_of, requests, resends, resumes, rolls_back, starts, starts_line, table_of, takes_done, with_done, writers_with}
use Rattle.gx_store.specs.Locks.{table_lock}
use Rattle.gx_meaning.specs.Plan.{plan_of}
use Rattle.gx_rules.specs.Coordinators.{Command, Coord, CoordTurn, Work, rests, session_of, with_state, with_work, work_of}
use Rattle.gx_rules.specs.Fits.{fits_part}
use Rattle.gx_rules.specs.Locks.{hold_mark, release_marks, released, with_hold}
use Rattle.gx_waits.specs.declared.claim.Claim.{Claim}
use Rattle.gx_rules.proofs.Rounds.{cancel-ways, graph-ways}
use Rattle.gx_law_order.proofs.Lists.{each_append}
use Rattle.gx_law_order.specs.Lists.{Each}
use Rattle.gx_law_order.proofs.Lines.{Asks as Admits, asks as admits}
use Rattle.gx_law_order.proofs.Queued.{lock-of}
use Rattle.gx_law_order.specs.Sessions.{is_open_in}
use Rattle.gx_law_order.specs.Stages.{IsWhole, stage, stage_of}
use Rattle.gx_law_order.proofs.Statuses.{Moves, Turned, reply-turns}
use Rattle.gx_law_order.specs.Stages.Stage.{Closing}
use Rattle.gx_law_locks.specs.Waiting.{IsForEnd}
use Rattle.gx_law_locks.proofs.Marks.{Locking, MayGive, NoLock, aborted-behind, both, ended-behind, grant, no-lock, resumption, wait}
use Rattle.gx_law_locks.proofs.Marks.{commit as commit-mark}
use Rattle.gx_law_locks.proofs.Released.{gives-back}

-- what the turn's marks make of the coordinator's locks, behind those before
abbrev pub Holding : List Mark → Coord → CoordTurn → Type 0
Holding before c turn = Locking the_coordinator before c.locks turn.marks turn.coord.locks

still : (before : List Mark) (c : Coord) (turn : CoordTurn) → turn.coord.locks ≡ c.locks → Each NoLock turn.marks → Holding before c turn
still before c turn e f = subst (Locking the_coordinator before c.locks turn.marks) (sym e) (no-lock the_coordinator before c.locks turn.marks f)

rest : (before : List Mark) (c : Coord) → Holding before c (rests c)
rest before c = no-lock the_coordinator before c.locks [] tt

-- behind marks that tell of no lock
pushed : (before : List Mark) (c : Coord) (ms : List Mark) (turn : CoordTurn) → Each NoLock ms → Holding (before ++ ms) c turn → Holding before c (behind ms turn)
pushed before c ms turn e f = both the_coordinator before c.locks ms c.locks turn.marks turn.coord.locks (no-lock the_coordinator before c.locks ms e) f

either : (before : List Mark) (c : Coord) (b : Bool) (x y : CoordTurn) → Holding before c x → Holding before c y → Holding before c (if b then x else y)
either before c true x y e f = e
either before c false x y e f = f

-- ENDS
gxid-itself : (g : Gxid) → is_same_gxid g g ≡ true
gxid-itself g = grind (arith, nat_tests)

or-ended : (ms : List Mark) (g : Gxid) → is_aborted ms g ≡ true → is_ended ms g ≡ true
or-ended ms g e = or_right (marks.is_committed ms g) (is_aborted ms g) e

abbrev GivesBack : List Mark → Coord → Gxid → List Mark → Type 0
GivesBack before c g ms = Locking the_coordinator before c.locks (ms ++ release_marks the_coordinator c.locks g) (released c.locks g)

back : (before : List Mark) (c : Coord) (g : Gxid) (ms : List Mark) → Locking the_coordinator before c.locks ms c.locks → is_ended ms g ≡ true → MayGive (before ++ ms) c.locks.waits g → GivesBack before c g ms
back before c g ms e f may =
    both the_coordinator before c.locks ms c.locks (release_marks the_coordinator c.locks g) (released c.locks g) e (gives-back c.locks g the_coordinator (before ++ ms) (ended-behind before ms g f) may)

aborted-back : (before : List Mark) (c : Coord) (g : Gxid) (ms : List Mark) → Each NoLock ms → is_aborted ms g ≡ true → GivesBack before c g ms
aborted-back before c g ms e f = back before c g ms (no-lock the_coordinator before c.locks ms e) (or-ended ms g f) (inr (aborted-behind before ms g f))

committed : (before : List Mark) (c : Coord) (g : Gxid) (turn : Turn) → wait_of c.locks g ≡ None → Holding before c (is_committed c g turn)
committed before c g turn none =
    back before c g (mark.Commit g ∷ answer ∷ [])
    (both the_coordinator before c.locks (mark.Commit g ∷ []) c.locks (answer ∷ []) c.locks (commit-mark the_coordinator before c.locks g none) (no-lock the_coordinator (before ++ mark.Commit g ∷ []) c.locks (answer ∷ []) (tt, tt)))
    (commit-ends (is_same_gxid g g) (gxid-itself g)) (inl none)
  where
    answer : Mark
    answer = answer_mark c (work_of c g).session (answer_at_commit (work_of c g) (session_of c (work_of c g).session).state.pending)

    commit-ends : (b : Bool) → b ≡ true → ((b || false) || false) ≡ true
    commit-ends b e = grind arith

abort-ends : (b : Bool) → b ≡ true → (b || false) ≡ true
abort-ends b e = grind arith

refused : (before : List Mark) (c : Coord) (g : Gxid) (turn : Turn) (why : List Mark) (reason : Refused) → Each NoLock why → Holding before c (is_refused c g turn why reason)
refused before c g turn why reason e =
    pushed before c why (record (is_refused c g turn why reason) { marks = mark.Abort g ∷ answer_mark c (work_of c g).session (told.Refused reason) ∷ release_marks the_coordinator c.locks g }) e
    (aborted-back (before ++ why) c g (mark.Abort g ∷ answer_mark c (work_of c g).session (told.Refused reason) ∷ []) (tt, (tt, tt)) (abort-ends (is_same_gxid g g) (gxid-itself g)))

failure_quiet : (i : Node) (g : Gxid) → Each NoLock (failure_marks i g)
failure_quiet i g = by_test (i.0 == 0)
  where
    by_test : (b : Bool) → Each NoLock (if b then mark.JournalFailed the_coordinator g ∷ [] else [])
    by_test true = (tt, tt)
    by_test false = tt

follow : (before : List Mark) (c : Coord) (g : Gxid) (turn : Turn) (o : Outcome) → (o ≡ outcome.Committed → wait_of c.locks g ≡ None) → Holding before c (follows c g turn o)
follow before c g turn outcome.Pending none = no-lock the_coordinator before c.locks _ tt
follow before c g turn outcome.Decided none = no-lock the_coordinator before c.locks _ (tt, tt)
follow before c g turn outcome.Committed none = committed before c g turn (none refl)
follow before c g turn (outcome.Refused i) none = refused before c g turn (failure_marks i g) _ (failure_quiet i g)
follow before c g turn outcome.Ended none = no-lock the_coordinator before c.locks _ tt

commit : (before : List Mark) (c : Coord) (g : Gxid) → wait_of c.locks g ≡ None → Holding before c (commits c g)
commit before c g none = follow before c g (on_commit c.table g (work_of c g).writers) _ (λ e. none)

-- COMMANDS
pub record ReadsStill (l : Locks) (r : Reading) : Type 0 where
  pub locks : r.coord.locks ≡ l
  pub marks : Each NoLock r.marks

read_by : (c : Coord) (g : Gxid) (cid : Cid) (w : Work) (x : Option Snapshot) → ReadsStill c.locks (reads_by c g cid w x)
read_by c g cid w None = record { locks = refl; marks = (tt, tt) }
read_by c g cid w (Some x) = record { locks = refl; marks = tt }

read_for : (c : Coord) (g : Gxid) (cid : Cid) (w : Work) (line : Stmt) → ReadsStill c.locks (reads_for c g cid w line)
read_for c g cid w (stmt.Lock table mode) = record { locks = refl; marks = tt }
read_for c g cid w (stmt.Begin level) = read_by c g cid w w.snapshot
read_for c g cid w stmt.Commit = read_by c g cid w w.snapshot
read_for c g cid w stmt.Rollback = read_by c g cid w w.snapshot
read_for c g cid w (stmt.Select q) = read_by c g cid w w.snapshot
read_for c g cid w (stmt.Insert t x) = read_by c g cid w w.snapshot
read_for c g cid w (stmt.Update t x y) = read_by c g cid w w.snapshot
read_for c g cid w (stmt.Delete t x) = read_by c g cid w w.snapshot

fault_quiet : (g : Gxid) (cid : Cid) (line : Stmt) → Each NoLock (fault_mark g cid line)
fault_quiet g cid (stmt.Insert t x) = (tt, tt)
fault_quiet g cid (stmt.Begin level) = tt
fault_quiet g cid stmt.Commit = tt
fault_quiet g cid stmt.Rollback = tt
fault_quiet g cid (stmt.Select q) = tt
fault_quiet g cid (stmt.Update t x y) = tt
fault_quiet g cid (stmt.Delete t x) = tt
fault_quiet g cid (stmt.Lock t m) = tt

go : (before : List Mark) (c : Coord) (g : Gxid) (cid : Cid) (line : Stmt) (r : Reading) (plan : Result (List Piece) ArithFault) → ReadsStill c.locks r → Holding before c (goes g cid line r plan)
go before c g cid line r (Ok pieces) e = still before c (goes_out g cid line pieces r) e.locks e.marks
go before c g cid line r (Err f) e =
    subst (λ (l : Locks). Locking the_coordinator before l (goes g cid line r (Err f)).marks (goes g cid line r (Err f)).coord.locks) e.locks
    (refused before r.coord g (on_abort r.coord.table g) (r.marks ++ fault_mark g cid line) _ (each_append NoLock r.marks (fault_mark g cid line) e.marks (fault_quiet g cid line)))

go_locked : (script : Script) (before : List Mark) (c : Coord) (g : Gxid) (line : Stmt) → Holding before c (goes_on_locked script c g line)
go_locked script before c g line =
    go before c g (next_cid (work_of c g)) line _ (plan_of script.segments (dist_of script.tables (table_of line)) g (next_cid (work_of c g)) line) (read_for c g (next_cid (work_of c g)) (work_of c g) line)

-- with its table's lock
go_held : (script : Script) (before : List Mark) (c d : Coord) (g : Gxid) (line : Stmt) (wanted : Claim) → Locking the_coordinator before c.locks (hold_mark the_coordinator wanted ∷ []) d.locks
    → Holding before c (behind (hold_mark the_coordinator wanted ∷ []) (goes_on_locked script d g line))
go_held script before c d g line wanted e =
    both the_coordinator before c.locks (hold_mark the_coordinator wanted ∷ []) d.locks (goes_on_locked script d g line).marks _ e (go_locked script (before ++ hold_mark the_coordinator wanted ∷ []) d g line)

-- what a statement waits for is its table
for-table : (script : Script) (g : Gxid) (line : Stmt) (wanted : Claim) → table_lock script g line ≡ Some wanted → IsForEnd wanted.object wanted.mode
for-table script g (stmt.Select q) wanted e = subst (λ (c : Claim). IsForEnd c.object c.mode) (some-same _ wanted e) tt
for-table script g (stmt.Insert table tuples) wanted e = subst (λ (c : Claim). IsForEnd c.object c.mode) (some-same _ wanted e) tt
for-table script g (stmt.Update table assigns cond) wanted e = subst (λ (c : Claim). IsForEnd c.object c.mode) (some-same _ wanted e) tt
for-table script g (stmt.Delete table cond) wanted e = subst (λ (c : Claim). IsForEnd c.object c.mode) (some-same _ wanted e) tt
for-table script g (stmt.Lock table mode) wanted e = subst (λ (c : Claim). IsForEnd c.object c.mode) (some-same _ wanted e) tt
for-table script g (stmt.Begin level) wanted e = absurd (cc)
for-table script g stmt.Commit wanted e = absurd (cc)
for-table script g stmt.Rollback wanted e = absurd (cc)

-- whose transaction has no wait here
request : (script : Script) (before : List Mark) (c : Coord) (g : Gxid) (line : Stmt) → wait_of c.locks g ≡ None → (o : Option Claim) → table_lock script g line ≡ o
    → Holding before c (requests script c g line o)
request script before c g line none None e = go_locked script before c g line
request script before c g line none (Some wanted) e = by_test (is_clear c.locks.holds c.locks.waits wanted) refl
  where
    none-own : wait_of c.locks wanted.gxid ≡ None
    none-own = ap (wait_of c.locks) (lock-of script g line wanted e) ∙ none

    by_test : (b : Bool) → is_clear c.locks.holds c.locks.waits wanted ≡ b → Holding before c (if_granted script c g line wanted b)
    by_test true f = go_held script before c (record c { locks = with_hold c.locks wanted }) g line wanted (grant the_coordinator before c.locks wanted f none-own)
    by_test false f = wait the_coordinator before c.locks wanted (for-table script g line wanted e) f none-own

dispatch : (script : Script) (before : List Mark) (c : Coord) (g : Gxid) (line : Stmt) → wait_of c.locks g ≡ None → Holding before c (dispatches script c g line)
dispatch script before c g line none = request script before c g line none (table_lock script g line) refl

-- whose transaction has one wait here
resume : (script : Script) (before : List Mark) (c : Coord) (g : Gxid) (w : Option Claim) (line : Option Stmt)
    → ((wanted : Claim) → w ≡ Some wanted → filter (is_of g) c.locks.waits ≡ wanted ∷ []) → is_ready c.locks w ≡ true
    → Holding before c (resumes script c g w line)
resume script before c g (Some wanted) (Some line) e free =
    go_held script before c (with_work (record c { locks = resumed c.locks g (Some wanted) }) g (record (work_of c g) { waiting = None })) g line wanted (resumption the_coordinator before c.locks g wanted free (e wanted refl))
resume script before c g (Some wanted) None e free = rest before c
resume script before c g None line e free = rest before c

-- LINES
rolled : (before : List Mark) (c : Coord) (g : Gxid) (marks : List Mark) (turn : Turn) → Each NoLock marks → Holding before c (rolls_back c g marks turn)
rolled before c g marks turn e = aborted-back before c g (mark.Abort g ∷ marks) (tt, e) (or_left (is_same_gxid g g) _ (gxid-itself g))

end : (before : List Mark) (c : Coord) (s : SessionId) (b : Block) → Holding before c (ends_in c s b)
end before c s (block.Open level) = rolled before (with_state c s idle_outside) (session_of c s).transaction [] (on_abort c.table (session_of c s).transaction) tt
end before c s block.Failed = no-lock the_coordinator before c.locks _ tt
end before c s block.Outside = rest before c

-- ANSWERS OF SEGMENTS
complete : (before : List Mark) (c : Coord) (g : Gxid) (b : Block) → wait_of c.locks g ≡ None → Holding before c (completes c g b)
complete before c g block.Outside none = commit before c g none
complete before c g (block.Open level) none = no-lock the_coordinator before c.locks _ (tt, tt)
complete before c g block.Failed none = no-lock the_coordinator before c.locks _ (tt, tt)

go_on : (before : List Mark) (c : Coord) (g : Gxid) (left : List Node) → wait_of c.locks g ≡ None → Holding before c (goes_on c g left)
go_on before c g [] none = complete before c g (session_of c (work_of c g).session).state.block none
go_on before c g (i ∷ is) none = rest before c

failed : (before : List Mark) (c : Coord) (g : Gxid) (i : Node) (cid : Cid) (cause : Cause) (k : Option Command) → Holding before c (on_failed c g i cid cause k)
failed before c g i cid cause None = rest before c
failed before c g i cid cause (Some k) = either before c (is_awaited k i cid) (is_refused c g (on_abort c.table g) [] (reason_of cause)) (rests c) (refused before c g (on_abort c.table g) [] (reason_of cause) tt) (rest before c)

again : (before : List Mark) (c : Coord) (i : Node) (m : Option Message) → Holding before c (resends c i m)
again before c i None = rest before c
again before c i (Some told) = no-lock the_coordinator before c.locks _ tt

-- who is idle in its block, and who is to begin, has no wait here, nor has who has a command under way, or is on its way to a commit;
-- and nobody has two
pub record AreSingle (c : Coord) : Type 0 where
  pub whole : IsWhole c.table
  pub new : wait_of c.locks c.table.next ≡ None
  pub idle : (s : SessionId) → is_idle (session_of c s) ≡ true → is_open_in (session_of c s).state.block ≡ true → wait_of c.locks (session_of c s).transaction ≡ None
  pub busy : (g : Gxid) (k : Command) → (work_of c g).command ≡ Some k → wait_of c.locks g ≡ None
  pub closing : (g : Gxid) → stage_of c g.0 ≡ Closing → wait_of c.locks g ≡ None
  pub once : (g : Gxid) (wanted : Claim) → wait_of c.locks g ≡ Some wanted → filter (is_of g) c.locks.waits ≡ wanted ∷ []

module _ (script : Script) (before : List Mark) (c : Coord) (single : AreSingle c) where
  done : (g : Gxid) (i : Node) (cid : Cid) (wrote : Bool) (count : ℕ) (part : Part) (k : Option Command) → (work_of c g).command ≡ k → Holding before c (on_done c g i cid wrote count part k)
  done g i cid wrote count part None e = rest before c
  done g i cid wrote count part (Some k) e =
      either before c (is_awaited k i cid && fits_part k.stmt part) (takes_done c g i wrote count part k) (rests c)
      (go_on before (with_work c g (record (work_of c g) { writers = writers_with wrote i (work_of c g).writers; command = Some (with_done k i count part) })) g (with_done k i count part).awaited (single.busy g k e)) (rest before c)

  status : (g : Gxid) (i : Node) (r : Reply) (fails : Bool) → Holding before c (on_status c g i r fails)
  status g i r fails =
      let turned : Turned c.table g.0 (on_reply c.table g i r fails) Moves = reply-turns c.table g.0 i r fails single.whole in
      follow before c g (on_reply c.table g i r fails) (on_reply c.table g i r fails).out.outcome
      (λ e. single.closing g (subst (λ o. Moves (stage_of c g.0) (stage turned.now) o) e turned.how).0)

  answered : (g : Gxid) (i : Node) (fails : Bool) (r : Reply) → Holding before c (on_answer c g i fails r)
  answered g i fails (reply.Done cid wrote count part) = done g i cid wrote count part (work_of c g).command refl
  answered g i fails (reply.Failed cid cause) = failed before c g i cid cause (work_of c g).command
  answered g i fails reply.Prepared = status g i reply.Prepared fails
  answered g i fails reply.Committed = status g i reply.Committed fails
  answered g i fails reply.Jfault = status g i reply.Jfault fails
  answered g i fails reply.Again = status g i reply.Again fails
  answered g i fails reply.Restarted = status g i reply.Restarted fails
  answered g i fails reply.Aborted = status g i reply.Aborted fails
  answered g i fails reply.Forgotten = status g i reply.Forgotten fails

  message_taken : (from : Node) (fails : Bool) (m : Message) → Holding before c (on_message c from fails m)
  message_taken from fails (message.Answer g r) = answered g from fails r
  message_taken from fails (message.Exec g cid level x h y) = rest before c
  message_taken from fails (message.Prepare g) = rest before c
  message_taken from fails (message.Commit g) = rest before c
  message_taken from fails (message.CommitPrepared g) = rest before c
  message_taken from fails (message.Abort g) = rest before c
  message_taken from fails (message.Forget g) = rest before c
  message_taken from fails (message.Collect round) = rest before c
  message_taken from fails (message.Graph round graph) =
      graph-ways (Holding before c) c from round graph (rest before c) (λ taken. no-lock the_coordinator before c.locks [] tt) (λ taken all. no-lock the_coordinator before c.locks _ (tt, tt))
  message_taken from fails message.Up = rest before c

  transaction-now : (s : SessionId) (asked : LineStep) → (session_of (starts_line c s asked) s).transaction ≡ (session_of c s).transaction
  transaction-now s asked = ap (λ (q : Bool). (if q then record (session_of c s) { lines = (session_of c s).lines + 1; state = after_line (session_of c s).state.block asked } else session_of c s).transaction) (eqb-self s.0)

  line-done : (s : SessionId) → is_idle (session_of c s) ≡ true → (line : Stmt) (asked : LineStep) → Admits (session_of c s).state.block asked
      → Holding before c (on_line script (starts_line c s asked) s line asked)
  line-done s idle line (step.Answer plain) a = no-lock the_coordinator before c.locks _ (tt, tt)
  line-done s idle line step.InFailedBlock a = no-lock the_coordinator before c.locks _ (tt, tt)
  line-done s idle line step.NotInBlock a = no-lock the_coordinator before c.locks _ (tt, tt)
  line-done s idle line (step.BeginBlock level) a = no-lock the_coordinator before c.locks _ (tt, (tt, tt))
  line-done s idle line step.CommitBlock a =
      commit before (starts_line c s step.CommitBlock) (session_of (starts_line c s step.CommitBlock) s).transaction (ap (wait_of c.locks) (transaction-now s step.CommitBlock) ∙ single.idle s idle a)
  line-done s idle line step.RollbackBlock a =
      rolled before (starts_line c s step.RollbackBlock) (session_of (starts_line c s step.RollbackBlock) s).transaction (answer_mark (starts_line c s step.RollbackBlock) s told.Rollback ∷ [])
      (on_abort c.table (session_of (starts_line c s step.RollbackBlock) s).transaction) (tt, tt)
  line-done s idle line (step.Command true) a =
      pushed before c (mark.Start c.table.next s ∷ []) (dispatches script (begins (starts_line c s (step.Command true)) s ReadCommitted) c.table.next line) (tt, tt)
      (dispatch script (before ++ mark.Start c.table.next s ∷ []) (begins (starts_line c s (step.Command true)) s ReadCommitted) c.table.next line single.new)
  line-done s idle line (step.Command false) a =
      dispatch script before (starts_line c s (step.Command false)) (session_of (starts_line c s (step.Command false)) s).transaction line (ap (wait_of c.locks) (transaction-now s (step.Command false)) ∙ single.idle s idle a)

  start : (s : SessionId) → is_idle (session_of c s) ≡ true → (line : Option Stmt) → Holding before c (starts script c s line)
  start s idle None = rest before c
  start s idle (Some line) = line-done s idle line (line_step (session_of c s).state.block line) (admits (session_of c s).state.block line)

  pub event-holds : (e : NodeEvent) (fails : Bool) → coord_can script c e ≡ true → Holding before c (on_event script c e fails)
  event-holds (event.Deliver from envelope) fails ok = message_taken from fails envelope.message
  event-holds (event.Start s) fails ok = start s (and-first _ _ ok) (next_line script c s)
  event-holds (event.End s) fails ok = end before c s (session_of c s).state.block
  event-holds (event.Resend i (Some g)) fails ok = again before c i (awaited c g i)
  event-holds (event.Resend i None) fails ok = again before c i (awaited_collect c i)
  event-holds (event.Resume g) fails ok = resume script before c g (wait_of c.locks g) (work_of c g).waiting (single.once g) ok
  event-holds event.Round fails ok = no-lock the_coordinator before c.locks [] tt

-- a victim gives its locks back
pub cancel-locks : (before : List Mark) (c : Coord) (g : Gxid) → Holding before c (cancels c g)
cancel-locks before c g = cancel-ways (Holding before c) c g (rest before c) (λ live busy. refused before c g (on_abort c.table g) [] (Victim c.rounds) tt)
