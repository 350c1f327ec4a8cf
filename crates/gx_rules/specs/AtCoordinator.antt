-- What the coordinator does when a session's line starts, when an answer or a graph comes, when a session ends, when a message is to
-- be sent again, when a statement that has waited goes on, and when a round of the detector begins.
use Rattle.std.specs.Prelude.{ℕ, ◌+◌, ◌==◌, nat_le, Bool, true, false, not, if◌then◌else◌, ◌&&◌, ◌||◌, List, [], ◌∷◌, ◌++◌, map, fold, is_some, option_map, Some, None, Result, Ok, Err}
use Rattle.std.specs.declared.option.Option.{Option}
use Rattle.gx_ids.specs.declared.ids.Cid.{Cid}
use Rattle.gx_ids.specs.declared.ids.Gxid.{Gxid}
use Rattle.gx_ids.specs.declared.ids.Node.{Node}
use Rattle.gx_ids.specs.declared.ids.SessionId.{SessionId}
use Rattle.gx_tree.specs.declared.expr.Expr.{Expr}
use Rattle.gx_tree.specs.declared.part.Part.{Part}
use Rattle.gx_tree.specs.declared.stmt.Level.{Level}
use Rattle.gx_tree.specs.declared.stmt.Level.TheVariants.{ReadCommitted, RepeatableRead}
use Rattle.gx_tree.specs.declared.stmt.Stmt.{Stmt}
use Rattle.gx_tree.specs.declared.stmt.Stmt.TheVariants as stmt
use Rattle.gx_tree.specs.declared.value.Value.{Value}
use Rattle.gx_dsnap.specs.declared.snapshot.Snapshot.{Snapshot}
use Rattle.gx_dtx.specs.Nodes.{has, with_node, without}
use Rattle.gx_dtx.specs.Rules.{Turn, awaited_order, begun, enlisted, is_deciding, on_abort, on_commit, on_reply, with_live}
use Rattle.gx_dtx.specs.Table.{Table, find_txn, horizon_of, xmin_of}
use Rattle.gx_dtx.specs.Orders.{message_of}
use Rattle.gx_dtx.specs.declared.order.Order.{Order}
use Rattle.gx_dtx.specs.declared.outcome.Outcome.{Outcome}
use Rattle.gx_dtx.specs.declared.outcome.Outcome.TheVariants as outcome
use Rattle.gx_meaning.specs.declared.fault.ArithFault.{ArithFault}
use Rattle.gx_meaning.specs.declared.fault.ArithFault.TheVariants as arith
use Rattle.gx_msg.specs.declared.item.JournalItem.{JournalItem}
use Rattle.gx_msg.specs.declared.item.JournalItem.TheVariants as item
use Rattle.gx_msg.specs.declared.message.Message.{Message}
use Rattle.gx_msg.specs.declared.message.Message.TheVariants as message
use Rattle.gx_msg.specs.declared.message.Out.{Out}
use Rattle.gx_msg.specs.declared.reply.Cause.{Cause}
use Rattle.gx_msg.specs.declared.reply.Cause.TheVariants as cause
use Rattle.gx_msg.specs.declared.reply.Reply.{Reply}
use Rattle.gx_msg.specs.declared.reply.Reply.TheVariants as answer
use Rattle.gx_meaning.specs.Constants.{values_of}
use Rattle.gx_meaning.specs.Plan.{plan_of}
use Rattle.gx_meaning.specs.declared.piece.Piece.{Piece}
use Rattle.gx_script.specs.declared.Script.{Script}
use Rattle.gx_script.specs.Session.{after_done, after_line, after_refused, idle_outside, line_step}
use Rattle.gx_script.specs.declared.line_step.LineStep.{LineStep}
use Rattle.gx_script.specs.declared.line_step.LineStep.TheVariants as step
use Rattle.gx_script.specs.declared.line_step.Plain.{Plain}
use Rattle.gx_script.specs.declared.line_step.Plain.TheVariants as plain
use Rattle.gx_script.specs.declared.state.Block.{Block}
use Rattle.gx_script.specs.declared.state.Block.TheVariants as block
use Rattle.gx_script.specs.declared.state.Pending.{Pending}
use Rattle.gx_script.specs.declared.state.Pending.TheVariants as pending
use Rattle.gx_store.specs.declared.answer.Refused.{Refused}
use Rattle.gx_store.specs.declared.answer.Refused.TheVariants as refused
use Rattle.gx_store.specs.declared.answer.StmtAnswer.{StmtAnswer}
use Rattle.gx_store.specs.declared.answer.StmtAnswer.TheVariants as told
use Rattle.gx_store.specs.declared.mark.Mark.{Mark}
use Rattle.gx_store.specs.declared.mark.Mark.TheVariants as mark
use Rattle.gx_store.specs.declared.node.NodeEvent.{NodeEvent}
use Rattle.gx_store.specs.declared.node.NodeEvent.TheVariants as node
use Rattle.gx_store.specs.Lines.{stmt_of}
use Rattle.gx_store.specs.Locks.{table_lock}
use Rattle.gx_store.specs.Refusals.{the_coordinator}
use Rattle.gx_store.specs.Writes.{dist_of}
use Rattle.gx_locks.specs.Locks.{may_take, resumed, wait_of}
use Rattle.gx_waits.specs.Claims.{is_clear}
use Rattle.gx_waits.specs.declared.claim.Claim.{Claim}
use Rattle.gx_rules.specs.Coordinators.{Command, Coord, CoordTurn, Session, Work, joined, new_work, no_work, rests, session_of, with_session, with_state, with_work, work_of}
use Rattle.gx_rules.specs.Fits.{fits_part}
use Rattle.gx_rules.specs.Locks.{hold_mark, release_marks, released, wait_mark, with_hold, with_wait}
use Rattle.gx_rules.specs.Rounds.{awaits_graph, begins_round, can_begin, is_live, on_graph, victims_at}
use Rattle.gx_meaning.specs.Merged.{merged_answer}
use Rattle.gx_rules.specs.Sending.{clock_after, counted_all, numbered}
use Rattle.gx_rules.specs.Snapshots.{snapshot_of}

-- ANSWERS TO LINES
-- the answer to the line under way of a session
abbrev pub answer_mark : Coord → SessionId → StmtAnswer → Mark
answer_mark c s told = mark.Answer s (session_of c s).lines told

-- what a command answers that every segment has done
abbrev pub command_answer : Command → Stmt → StmtAnswer
command_answer k (stmt.Select query) = told.Rows (merged_answer query k.parts)
command_answer k (stmt.Insert table tuples) = told.Inserted k.count
command_answer k (stmt.Update table assigns cond) = told.Updated k.count
command_answer k (stmt.Delete table cond) = told.Deleted k.count
command_answer k _ = told.Locked

abbrev pub answer_of_command : Option Command → StmtAnswer
answer_of_command None = told.Commit
answer_of_command (Some k) = command_answer k k.stmt

-- what the session's line is answered when its transaction commits: COMMIT, or its only command
abbrev pub answer_at_commit : Work → Pending → StmtAnswer
answer_at_commit w pending.Command = answer_of_command w.command
answer_at_commit w _ = told.Commit

-- THE ENDS OF TRANSACTIONS
-- it commits: its Commit mark, the answer, its locks, and then what is sent for it
abbrev pub is_committed : Coord → Gxid → Turn → CoordTurn
is_committed c g turn =
    let s = (work_of c g).session in
    record {
      coord = record (with_state (with_work c g no_work) s (after_done (session_of c s).state)) { table = turn.table; locks = released c.locks g };
      marks = mark.Commit g ∷ answer_mark c s (answer_at_commit (work_of c g) (session_of c s).state.pending) ∷ release_marks the_coordinator c.locks g;
      outs = turn.out.outs;
      item = None;
    }

-- it aborts with its line's refusal, behind marks that say why
abbrev pub is_refused : Coord → Gxid → Turn → List Mark → Refused → CoordTurn
is_refused c g turn why reason =
    let s = (work_of c g).session in
    record {
      coord = record (with_state (with_work c g no_work) s (after_refused (session_of c s).state)) { table = turn.table; locks = released c.locks g };
      marks = why ++ mark.Abort g ∷ answer_mark c s (told.Refused reason) ∷ release_marks the_coordinator c.locks g;
      outs = turn.out.outs;
      item = None;
    }

-- the coordinator's own journal leaves a mark
abbrev pub failure_marks : Node → Gxid → List Mark
failure_marks i g = if i.0 == 0 then mark.JournalFailed the_coordinator g ∷ [] else []

-- what a call on the transactions has come to
abbrev pub follows : Coord → Gxid → Turn → Outcome → CoordTurn
follows c g turn outcome.Pending = record { coord = record c { table = turn.table }; marks = []; outs = turn.out.outs; item = None }
follows c g turn outcome.Decided = record { coord = record c { table = turn.table }; marks = mark.Decided g ∷ []; outs = turn.out.outs; item = None }
follows c g turn outcome.Committed = is_committed c g turn
follows c g turn (outcome.Refused i) = is_refused c g turn (failure_marks i g) (refused.JournalFault i)
follows c g turn outcome.Ended = record { coord = record c { table = turn.table }; marks = []; outs = turn.out.outs; item = None }

abbrev pub commits : Coord → Gxid → CoordTurn
commits c g = follows c g (on_commit c.table g (work_of c g).writers) (on_commit c.table g (work_of c g).writers).out.outcome

abbrev pub behind : List Mark → CoordTurn → CoordTurn
behind marks turn = record turn { marks = marks ++ turn.marks }

-- COMMANDS
-- with the snapshot by which the command reads
pub record Reading : Type 0 where
  pub coord : Coord
  pub snapshot : Option Snapshot
  pub marks : List Mark

-- a snapshot is taken, and lives; a repeatable-read block keeps it
abbrev pub kept_at : Level → Snapshot → Option Snapshot
kept_at ReadCommitted snapshot = None
kept_at RepeatableRead snapshot = Some snapshot

abbrev pub takes_snapshot : Coord → Gxid → Cid → Work → Reading
takes_snapshot c g cid w =
    let snapshot = snapshot_of c.table in
    record {
      coord = with_work (record c { table = with_live c.table g (Some (xmin_of c.table)) }) g (record w { snapshot = kept_at w.level snapshot });
      snapshot = Some snapshot;
      marks = mark.Snap g cid snapshot ∷ [];
    }

abbrev pub reads_by : Coord → Gxid → Cid → Work → Option Snapshot → Reading
reads_by c g cid w None = takes_snapshot c g cid w
reads_by c g cid w (Some snapshot) = record { coord = c; snapshot = Some snapshot; marks = [] }

-- LOCK TABLE reads nothing
abbrev pub reads_for : Coord → Gxid → Cid → Work → Stmt → Reading
reads_for c g cid w (stmt.Lock table mode) = record { coord = c; snapshot = None; marks = [] }
reads_for c g cid w line = reads_by c g cid w w.snapshot

-- the row to be of the first tuple whose constants fault
abbrev pub faulting_from : ℕ → List (List Expr) → ℕ
faulting_from ordinal [] = ordinal
faulting_from ordinal (tuple ∷ tuples) = if is_ok (values_of tuple) then faulting_from (ordinal + 1) tuples else ordinal
  where
    is_ok : Result (List Value) ArithFault → Bool
    is_ok (Ok values) = true
    is_ok (Err fault) = false

abbrev pub fault_mark : Gxid → Cid → Stmt → List Mark
fault_mark g cid (stmt.Insert table tuples) = mark.Fault g cid (record { gxid = g; cid = cid; ordinal = faulting_from 1 tuples }) None ∷ []
fault_mark g cid _ = []

abbrev pub refusal_of : ArithFault → Refused
refusal_of arith.Overflow = refused.Overflow
refusal_of arith.DivisionByZero = refused.DivisionByZero

-- the EXEC of a piece
abbrev pub order_of : Gxid → Cid → Level → Option Snapshot → Gxid → Piece → Out
order_of g cid level snapshot horizon piece = record { node = piece.node; message = message.Exec g cid level snapshot horizon piece.slice }

abbrev pub orders_of : Gxid → Cid → Level → Option Snapshot → Gxid → List Piece → List Out
orders_of g cid level snapshot horizon pieces = map (order_of g cid level snapshot horizon) pieces

abbrev pub nodes_in : List Piece → List Node
nodes_in pieces = map (λ piece. piece.node) pieces

abbrev pub enlisted_all : Table → Gxid → List Node → Table
enlisted_all d g nodes = fold (λ t i. enlisted t g i) d nodes

-- the pieces go out, by segment; the horizon is that of a moment at which the snapshot lives
abbrev pub goes_out : Gxid → Cid → Stmt → List Piece → Reading → CoordTurn
goes_out g cid line pieces r =
    let w = work_of r.coord g in
    let orders = orders_of g cid w.level r.snapshot (horizon_of r.coord.table) pieces in
    record {
      coord =
          with_work (record r.coord { table = enlisted_all r.coord.table g (nodes_in pieces) }) g
          (record w { last = cid.0; command = Some (record { stmt = line; cid = cid; orders = orders; awaited = nodes_in pieces; count = 0; parts = [] }) });
      marks = r.marks;
      outs = orders;
      item = None;
    }

-- or a constant faults before anything is sent
abbrev pub goes : Gxid → Cid → Stmt → Reading → Result (List Piece) ArithFault → CoordTurn
goes g cid line r (Ok pieces) = goes_out g cid line pieces r
goes g cid line r (Err fault) = is_refused r.coord g (on_abort r.coord.table g) (r.marks ++ fault_mark g cid line) (refusal_of fault)

-- the table that a command is on
abbrev pub table_of : Stmt → ℕ
table_of (stmt.Select query) = query.table.0
table_of (stmt.Insert table tuples) = table.0
table_of (stmt.Update table assigns cond) = table.0
table_of (stmt.Delete table cond) = table.0
table_of (stmt.Lock table mode) = table.0
table_of _ = 0

abbrev pub next_cid : Work → Cid
next_cid w = record { 0 = w.last + 1 }

-- with its table's lock a command takes its snapshot, is cut into pieces, and goes out
abbrev pub goes_on_locked : Script → Coord → Gxid → Stmt → CoordTurn
goes_on_locked script c g line =
    let cid = next_cid (work_of c g) in
    goes g cid line (reads_for c g cid (work_of c g) line) (plan_of script.segments (dist_of script.tables (table_of line)) g cid line)

abbrev pub waits_for : Coord → Gxid → Stmt → Claim → CoordTurn
waits_for c g line wanted =
    record {
      coord = with_work (record c { locks = with_wait c.locks wanted }) g (record (work_of c g) { waiting = Some line });
      marks = wait_mark the_coordinator wanted ∷ [];
      outs = [];
      item = None;
    }

abbrev pub if_granted : Script → Coord → Gxid → Stmt → Claim → Bool → CoordTurn
if_granted script c g line wanted true = behind (hold_mark the_coordinator wanted ∷ []) (goes_on_locked script (record c { locks = with_hold c.locks wanted }) g line)
if_granted script c g line wanted false = waits_for c g line wanted

abbrev pub requests : Script → Coord → Gxid → Stmt → Option Claim → CoordTurn
requests script c g line None = goes_on_locked script c g line
requests script c g line (Some wanted) = if_granted script c g line wanted (is_clear c.locks.holds c.locks.waits wanted)

abbrev pub dispatches : Script → Coord → Gxid → Stmt → CoordTurn
dispatches script c g line = requests script c g line (table_lock script g line)

-- LINES
-- a transaction of a session begins
abbrev pub begins : Coord → SessionId → Level → Coord
begins c s level =
    with_session (with_work (record c { table = begun c.table }) c.table.next (new_work s level)) s (record (session_of c s) { transaction = c.table.next })

abbrev pub answers_at_once : Coord → SessionId → StmtAnswer → CoordTurn
answers_at_once c s told = record { coord = c; marks = answer_mark c s told ∷ []; outs = []; item = None }

abbrev pub plain_answer_of : Plain → StmtAnswer
plain_answer_of plain.Begin = told.Begin
plain_answer_of plain.Commit = told.Commit
plain_answer_of plain.Rollback = told.Rollback

-- ROLLBACK aborts its block's transaction, where the session stands outside already
abbrev pub rolls_back : Coord → Gxid → List Mark → Turn → CoordTurn
rolls_back c g marks turn =
    record {
      coord = record (with_work c g no_work) { table = turn.table; locks = released c.locks g };
      marks = mark.Abort g ∷ marks ++ release_marks the_coordinator c.locks g;
      outs = turn.out.outs;
      item = None;
    }

-- by what the line asks for; the session stands where the line has led it
abbrev pub on_line : Script → Coord → SessionId → Stmt → LineStep → CoordTurn
on_line script c s line (step.Answer plain) = answers_at_once c s (plain_answer_of plain)
on_line script c s line step.InFailedBlock = answers_at_once c s (told.Refused refused.InFailedBlock)
on_line script c s line step.NotInBlock = answers_at_once c s (told.Refused refused.NotInBlock)
on_line script c s line (step.BeginBlock level) = behind (mark.Start c.table.next s ∷ []) (answers_at_once (begins c s level) s told.Begin)
on_line script c s line step.CommitBlock = commits c (session_of c s).transaction
on_line script c s line step.RollbackBlock =
    rolls_back c (session_of c s).transaction (answer_mark c s told.Rollback ∷ []) (on_abort c.table (session_of c s).transaction)
on_line script c s line (step.Command true) = behind (mark.Start c.table.next s ∷ []) (dispatches script (begins c s ReadCommitted) c.table.next line)
on_line script c s line (step.Command false) = dispatches script c (session_of c s).transaction line

-- a session's next line
abbrev pub next_line : Script → Coord → SessionId → Option Stmt
next_line script c s = stmt_of s ((session_of c s).lines + 1) script.lines

abbrev pub starts_line : Coord → SessionId → LineStep → Coord
starts_line c s asked = with_session c s (record (session_of c s) { lines = (session_of c s).lines + 1; state = after_line (session_of c s).state.block asked })

abbrev pub starts : Script → Coord → SessionId → Option Stmt → CoordTurn
starts script c s None = rests c
starts script c s (Some line) =
    let asked = line_step (session_of c s).state.block line in
    on_line script (starts_line c s asked) s line asked

-- THE END OF A SESSION
-- its open block aborts; one that has failed is closed
abbrev pub ends_in : Coord → SessionId → Block → CoordTurn
ends_in c s (block.Open level) =
    rolls_back (with_state c s idle_outside) (session_of c s).transaction [] (on_abort c.table (session_of c s).transaction)
ends_in c s block.Failed = rests (with_state c s idle_outside)
ends_in c s block.Outside = rests c

-- ANSWERS OF SEGMENTS
-- the answer to a command is taken where it is awaited and fits
abbrev pub is_awaited : Command → Node → Cid → Bool
is_awaited k i cid = (k.cid.0 == cid.0) && has i k.awaited

abbrev pub with_done : Command → Node → ℕ → Part → Command
with_done k i count part = record k { awaited = without i k.awaited; count = k.count + count; parts = k.parts ++ part ∷ [] }

abbrev pub writers_with : Bool → Node → List Node → List Node
writers_with wrote i writers = if wrote then with_node i writers else writers

-- in a block a command is answered when it is done, and at read committed its snapshot lives no longer
abbrev pub unless_kept : Level → Table → Gxid → Table
unless_kept ReadCommitted d g = with_live d g None
unless_kept RepeatableRead d g = d

abbrev pub answers : Coord → Gxid → Work → CoordTurn
answers c g w =
    record {
      coord = record (with_state (with_work c g (record w { command = None })) w.session (after_done (session_of c w.session).state)) { table = unless_kept w.level c.table g };
      marks = answer_mark c w.session (answer_of_command w.command) ∷ [];
      outs = [];
      item = None;
    }

-- a command of its own transaction commits
abbrev pub completes : Coord → Gxid → Block → CoordTurn
completes c g block.Outside = commits c g
completes c g _ = answers c g (work_of c g)

-- these answers of the command are still awaited
abbrev pub goes_on : Coord → Gxid → List Node → CoordTurn
goes_on c g [] = completes c g (session_of c (work_of c g).session).state.block
goes_on c g (i ∷ is) = rests c

abbrev pub takes_done : Coord → Gxid → Node → Bool → ℕ → Part → Command → CoordTurn
takes_done c g i wrote count part k =
    let done = with_done k i count part in
    goes_on (with_work c g (record (work_of c g) { writers = writers_with wrote i (work_of c g).writers; command = Some done })) g done.awaited

abbrev pub on_done : Coord → Gxid → Node → Cid → Bool → ℕ → Part → Option Command → CoordTurn
on_done c g i cid wrote count part None = rests c
on_done c g i cid wrote count part (Some k) = if is_awaited k i cid && fits_part k.stmt part then takes_done c g i wrote count part k else rests c

-- the first segment that fails refuses the command
abbrev pub reason_of : Cause → Refused
reason_of (cause.Serialization rid g) = refused.Serialization rid g
reason_of cause.Overflow = refused.Overflow
reason_of cause.DivisionByZero = refused.DivisionByZero

abbrev pub on_failed : Coord → Gxid → Node → Cid → Cause → Option Command → CoordTurn
on_failed c g i cid cause None = rests c
on_failed c g i cid cause (Some k) = if is_awaited k i cid then is_refused c g (on_abort c.table g) [] (reason_of cause) else rests c

-- any other answer is for the transaction's status; the last promise decides, which the journal has to take
abbrev pub item_for : Table → Gxid → Node → Reply → Option JournalItem
item_for d g i r = if is_deciding d g i r then Some (item.Decide g) else None

abbrev pub on_status : Coord → Gxid → Node → Reply → Bool → CoordTurn
on_status c g i r fails = record (follows c g (on_reply c.table g i r fails) (on_reply c.table g i r fails).out.outcome) { item = item_for c.table g i r }

abbrev pub on_answer : Coord → Gxid → Node → Bool → Reply → CoordTurn
on_answer c g i fails (answer.Done cid wrote count part) = on_done c g i cid wrote count part (work_of c g).command
on_answer c g i fails (answer.Failed cid cause) = on_failed c g i cid cause (work_of c g).command
on_answer c g i fails r = on_status c g i r fails

abbrev pub on_message : Coord → Node → Bool → Message → CoordTurn
on_message c from fails (message.Answer g r) = on_answer c g from fails r
on_message c from fails (message.Graph round graph) = on_graph c from round graph
on_message c from fails _ = rests c

-- MESSAGES SENT AGAIN
-- the order of a command to a segment
abbrev pub order_to : Node → List Out → Option Message
order_to i [] = None
order_to i (out ∷ outs) = if out.node.0 == i.0 then Some out.message else order_to i outs

abbrev pub command_order : Option Command → Node → Option Message → Option Message
command_order None i other = other
command_order (Some k) i other = if has i k.awaited then order_to i k.orders else other

abbrev pub status_order : Gxid → Option Order → Option Message
status_order g order = option_map (λ o. message_of o g) order

-- the message to a segment of a transaction whose answer is awaited
abbrev pub awaited : Coord → Gxid → Node → Option Message
awaited c g i = command_order (work_of c g).command i (status_order g (awaited_order c.table g i))

abbrev pub resends : Coord → Node → Option Message → CoordTurn
resends c i None = rests c
resends c i (Some told) = record { coord = c; marks = []; outs = record { node = i; message = told } ∷ []; item = None }

-- what asks a segment for its graph, where that is awaited
abbrev pub awaited_collect : Coord → Node → Option Message
awaited_collect c i = if awaits_graph c i then Some (message.Collect c.rounds) else None

-- RESUMPTIONS
-- A statement that waits takes its lock and goes out, where nothing is in its way any more.
abbrev pub resumes : Script → Coord → Gxid → Option Claim → Option Stmt → CoordTurn
resumes script c g (Some wanted) (Some line) =
    behind (hold_mark the_coordinator wanted ∷ [])
    (goes_on_locked script (with_work (record c { locks = resumed c.locks g (Some wanted) }) g (record (work_of c g) { waiting = None })) g line)
resumes script c g _ _ = rests c

-- WHAT AN EVENT DOES BY ITSELF
abbrev pub on_event : Script → Coord → NodeEvent → Bool → CoordTurn
on_event script c (node.Deliver from envelope) fails = on_message c from fails envelope.message
on_event script c (node.Resume g) fails = resumes script c g (wait_of c.locks g) (work_of c g).waiting
on_event script c (node.Start s) fails = starts script c s (next_line script c s)
on_event script c (node.End s) fails = ends_in c s (session_of c s).state.block
on_event script c (node.Resend i (Some g)) fails = resends c i (awaited c g i)
on_event script c (node.Resend i None) fails = resends c i (awaited_collect c i)
on_event script c node.Round fails = begins_round script c

-- the marks of sendings stand behind the others
abbrev pub coord_sends : ℕ → CoordTurn → CoordTurn
coord_sends clock turn =
    record turn {
      coord = record turn.coord { sent = counted_all turn.coord.sent turn.outs; clock = clock };
      marks = turn.marks ++ numbered turn.coord.sent turn.outs;
    }

abbrev pub coord_turn : Script → Coord → NodeEvent → Bool → CoordTurn
coord_turn script c event fails = coord_sends (clock_after c.clock event) (on_event script c event fails)

-- VICTIMS
abbrev pub is_under_way : Work → Bool
is_under_way w = is_some w.command || is_some w.waiting

-- a transaction may be cancelled while it is active and a statement of it is under way or waits
abbrev pub may_cancel : Coord → Gxid → Bool
may_cancel c g = is_live (find_txn c.table g) && is_under_way (work_of c g)

-- The victim's statement is refused with the last round that began, in which it was named.
abbrev pub cancels : Coord → Gxid → CoordTurn
cancels c g = if may_cancel c g then is_refused c g (on_abort c.table g) [] (refused.Victim c.rounds) else rests c

-- a victim's turn belongs to the event that named it, so the clock stays
abbrev pub cancel_turn : Coord → Gxid → CoordTurn
cancel_turn c g = coord_sends c.clock (cancels c g)

abbrev pub and_cancels : CoordTurn → Gxid → CoordTurn
and_cancels turn g = joined turn (cancel_turn turn.coord g)

-- victims one behind the other, each wholly before the next
abbrev pub and_cancels_all : List Gxid → CoordTurn → CoordTurn
and_cancels_all victims turn = fold and_cancels turn victims

-- THE RULE
-- The coordinator's rule: from its data, the event and whether its journal fails to take an item to the new data, the marks,
-- the messages and the item. Behind a recheck its victims are cancelled in the same event; behind any other event nobody is.
abbrev pub coord_rule : Script → Coord → NodeEvent → Bool → CoordTurn
coord_rule script c event fails = and_cancels_all (victims_at c event) (coord_turn script c event fails)

-- WHAT IS ADMITTED
abbrev pub is_nothing : Pending → Bool
is_nothing pending.Nothing = true
is_nothing _ = false

abbrev pub is_idle : Session → Bool
is_idle session = is_nothing session.state.pending

abbrev pub is_in_block : Block → Bool
is_in_block block.Outside = false
is_in_block _ = true

abbrev pub is_left : Option Stmt → Bool
is_left line = is_some line

-- a session has a line under way, an open or failed block, or a line left
abbrev pub is_unfinished_there : Script → Coord → SessionId → Bool
is_unfinished_there script c session =
    not (is_idle (session_of c session)) || (is_in_block (session_of c session).state.block || is_left (next_line script c session))

abbrev pub is_segment : Script → Node → Bool
is_segment script i = nat_le 1 i.0 && nat_le i.0 script.segments

-- A delivery is from a segment, a line starts where its session is idle, a session ends that is idle in a block without a line
-- left, what is sent again has an awaited answer, whoever resumes has a wait whose way is clear, and a round begins where the
-- detector is on and none runs.
abbrev pub coord_can : Script → Coord → NodeEvent → Bool
coord_can script c (node.Deliver from envelope) = is_segment script from
coord_can script c (node.Resume g) = may_take c.locks g
coord_can script c (node.Start s) = is_idle (session_of c s) && is_left (next_line script c s)
coord_can script c (node.End s) = is_idle (session_of c s) && (not (is_left (next_line script c s)) && is_in_block (session_of c s).state.block)
coord_can script c (node.Resend i (Some g)) = is_some (awaited c g i)
coord_can script c (node.Resend i None) = awaits_graph c i
coord_can script c node.Round = can_begin script c
