-- Small runs in which something comes without its cause: a write behind the end, a word without its command or of a row that stands
-- elsewhere, a journal's failure with nothing to take, an order to whom it isn't for.
use Rattle.std.specs.Prelude.{ℕ, true, false, List, [], ◌∷◌, ◌++◌, Some, None}
use Rattle.std.specs.declared.option.Option.{Option}
use Rattle.gx_ids.specs.declared.ids.Gxid.{Gxid}
use Rattle.gx_ids.specs.declared.ids.Node.{Node}
use Rattle.gx_ids.specs.declared.ids.Table.{Table}
use Rattle.gx_ids.specs.declared.rid.Rid.{Rid}
use Rattle.gx_tree.specs.declared.cond.Cond.{Cond}
use Rattle.gx_tree.specs.declared.expr.Expr.{Expr}
use Rattle.gx_tree.specs.declared.part.Part.TheVariants.{Rows}
use Rattle.gx_tree.specs.declared.slice.Slice.TheVariants as slice
use Rattle.gx_tree.specs.declared.stmt.Assign.{Assign}
use Rattle.gx_tree.specs.declared.stmt.Level.TheVariants.{ReadCommitted, RepeatableRead}
use Rattle.gx_tree.specs.declared.stmt.Stmt.{Stmt}
use Rattle.gx_tree.specs.declared.stmt.Stmt.TheVariants as stmt
use Rattle.gx_tree.specs.declared.value.Value.{Value}
use Rattle.gx_dsnap.specs.declared.snapshot.Snapshot.{Snapshot}
use Rattle.gx_msg.specs.declared.message.Message.{Message}
use Rattle.gx_msg.specs.declared.message.Message.TheVariants as message
use Rattle.gx_msg.specs.declared.reply.Cause.TheVariants as cause
use Rattle.gx_msg.specs.declared.reply.Reply.{Reply}
use Rattle.gx_msg.specs.declared.reply.Reply.TheVariants as reply
use Rattle.gx_script.specs.declared.Script.{Script}
use Rattle.gx_store.specs.declared.answer.Refused.TheVariants as refused
use Rattle.gx_store.specs.declared.answer.StmtAnswer.TheVariants as answer
use Rattle.gx_store.specs.declared.event.Event.TheVariants as event
use Rattle.gx_store.specs.declared.mark.Mark.{Mark}
use Rattle.gx_store.specs.declared.mark.Mark.TheVariants as mark
use Rattle.gx_store.specs.declared.run.Step.{Step}
use Rattle.gx_store.specs.RefusedCommits.{both_promise, insert_of, second_cid, second_row, writes_there}
use Rattle.gx_store.specs.RefusedParts.{anna, bert, block_begins, first_cid, first_txn, line_of, nth_row, other_segment, second_txn, step_at, the_segment, with_two}
use Rattle.gx_store.specs.Refusals.{the_coordinator}
use Rattle.gx_store.specs.Stands.{DoRowsStand}

-- BEHIND THE END
-- one row is inserted in a block that commits
abbrev pub one_writer : Script → Table → List Expr → Script
one_writer script table tuple =
    with_two script (line_of anna 1 (stmt.Begin ReadCommitted) ∷ line_of anna 2 (stmt.Insert table (tuple ∷ [])) ∷ line_of anna 3 stmt.Commit ∷ [])

-- a further command of the block, with one row
abbrev pub late_insert : Table → Snapshot → List Value → Message
late_insert table snapshot row = message.Exec first_txn second_cid ReadCommitted (Some snapshot) first_txn (slice.Insert table (record { rid = second_row; row = row } ∷ []))

abbrev pub writes_late : Table → ℕ → Node → List Value → Step
writes_late table clock node row =
    step_at node clock (event.Receive the_coordinator node 1) (mark.Write first_txn second_cid node table second_row (Some row) ∷ [])

-- it is written, and answered
abbrev pub one_writes : Table → Snapshot → List Value → List Step
one_writes table snapshot row =
    block_begins
    ∷ step_at the_coordinator 2 (event.Start anna) (mark.Snap first_txn first_cid snapshot ∷ mark.Sent the_segment 1 (insert_of table snapshot 1 row) ∷ [])
    ∷ writes_there table 3 the_segment 1 row
    ∷ step_at the_coordinator 4 (event.Receive the_segment the_coordinator 1) (mark.Answer anna 2 (answer.Inserted 1) ∷ []) ∷ []

-- the only writer commits, and then another segment is sent a command, and writes (`IsToExecute` refuses the EXEC, `WritesThere` the write)
abbrev pub written_behind_commit : Table → Snapshot → List Value → List Value → List Step
written_behind_commit table snapshot row late =
    one_writes table snapshot row
    ++ step_at the_coordinator 5 (event.Start anna) (mark.Sent the_segment 2 (message.Commit first_txn) ∷ [])
    ∷ step_at the_segment 6 (event.Receive the_coordinator the_segment 2) (mark.LocalCommit the_segment first_txn ∷ mark.Sent the_coordinator 2 (message.Answer first_txn reply.Committed) ∷ [])
    ∷ step_at the_coordinator 7 (event.Receive the_segment the_coordinator 2) (mark.Sent other_segment 1 (late_insert table snapshot late) ∷ [])
    ∷ writes_late table 8 other_segment late ∷ []

abbrev pub third_segment : Node
third_segment = record { 0 = 3 }

abbrev pub at_three : Script → Script
at_three script = record script { segments = 3 }

-- two writers have promised and it is decided, and then a third segment is sent a command, and writes (as before, both are refused)
abbrev pub written_behind_decision : Table → Snapshot → List Value → List Value → List Value → List Step
written_behind_decision table snapshot one other late =
    both_promise table snapshot one other
    ++ step_at the_coordinator 9 (event.Receive other_segment the_coordinator 2) (mark.Decided first_txn ∷ mark.Sent third_segment 1 (late_insert table snapshot late) ∷ [])
    ∷ writes_late table 10 third_segment late ∷ []

-- WITHOUT THE COMMAND
abbrev pub one_update : Script → Table → List Assign → Option Cond → Script
one_update script table assigns cond = with_two script (line_of anna 1 (stmt.Update table assigns cond) ∷ [])

-- an UPDATE goes to two segments
abbrev pub update_goes : Table → List Assign → Option Cond → Snapshot → Step
update_goes table assigns cond snapshot =
    let told = message.Exec first_txn first_cid ReadCommitted (Some snapshot) first_txn (slice.Update table assigns cond) in
    step_at the_coordinator 1 (event.Start anna) (mark.Start first_txn anna ∷ mark.Snap first_txn first_cid snapshot ∷ mark.Sent the_segment 1 told ∷ mark.Sent other_segment 1 told ∷ [])

-- a segment does this of itself
abbrev pub unasked : Node → ℕ → List Mark → Step
unasked node clock marks = step_at node clock (event.Resume node first_txn) marks

abbrev pub says : Reply → List Mark
says told = mark.Sent the_coordinator 1 (message.Answer first_txn told) ∷ []

-- neither receives it, both say that they are done with no row, and it is answered so
abbrev pub done_unexecuted : Table → List Assign → Option Cond → Snapshot → List Step
done_unexecuted table assigns cond snapshot =
    update_goes table assigns cond snapshot
    ∷ unasked the_segment 2 (says (reply.Done first_cid false 0 (Rows [])))
    ∷ unasked other_segment 2 (says (reply.Done first_cid false 0 (Rows [])))
    ∷ step_at the_coordinator 3 (event.Receive the_segment the_coordinator 1) []
    ∷ step_at the_coordinator 4 (event.Receive other_segment the_coordinator 1) (mark.Commit first_txn ∷ mark.Answer anna 1 (answer.Updated 0) ∷ []) ∷ []

-- a segment that hasn't received it makes this mark for it
abbrev pub marked_unexecuted : Table → List Assign → Option Cond → Snapshot → Mark → List Step
marked_unexecuted table assigns cond snapshot m = update_goes table assigns cond snapshot ∷ unasked the_segment 2 (m ∷ []) ∷ []

-- TWO ANSWERS
-- a segment that has received it says one thing, and another where the EXEC comes once more
abbrev pub answers_twice : Table → List Assign → Option Cond → Snapshot → Reply → Reply → List Step
answers_twice table assigns cond snapshot told again =
    update_goes table assigns cond snapshot
    ∷ step_at the_segment 2 (event.Receive the_coordinator the_segment 1) (mark.Sent the_coordinator 1 (message.Answer first_txn told) ∷ [])
    ∷ step_at the_segment 3 (event.Receive the_coordinator the_segment 1) (mark.Sent the_coordinator 2 (message.Answer first_txn again) ∷ []) ∷ []

-- A LATE FAULT
-- a segment faults, it is refused, and behind that the coordinator notes a fault of its own
abbrev pub faulted_behind_abort : Table → List Assign → Option Cond → Snapshot → Rid → List Value → List Step
faulted_behind_abort table assigns cond snapshot rid row =
    update_goes table assigns cond snapshot
    ∷ step_at the_segment 2 (event.Receive the_coordinator the_segment 1) (mark.Fault first_txn first_cid rid (Some row) ∷ says (reply.Failed first_cid cause.Overflow))
    ∷ step_at the_coordinator 3 (event.Receive the_segment the_coordinator 1)
    (mark.Abort first_txn ∷ mark.Answer anna 1 (answer.Refused refused.Overflow) ∷ mark.Fault first_txn first_cid rid None ∷ []) ∷ []

-- WHERE ROWS STAND
abbrev pub TellsElsewhere : List Step → Type 0
TellsElsewhere steps = DoRowsStand [] steps → ⊥

-- a row is inserted at one segment and committed
abbrev pub row_stands : Table → Snapshot → List Value → List Step
row_stands table before row =
    step_at the_coordinator 1 (event.Start anna) (mark.Start first_txn anna ∷ mark.Snap first_txn first_cid before ∷ mark.Sent the_segment 1 (insert_of table before 1 row) ∷ [])
    ∷ writes_there table 2 the_segment 1 row
    ∷ step_at the_coordinator 3 (event.Receive the_segment the_coordinator 1) (mark.Sent the_segment 2 (message.Commit first_txn) ∷ [])
    ∷ step_at the_segment 4 (event.Receive the_coordinator the_segment 2) (mark.LocalCommit the_segment first_txn ∷ mark.Sent the_coordinator 2 (message.Answer first_txn reply.Committed) ∷ [])
    ∷ step_at the_coordinator 5 (event.Receive the_segment the_coordinator 2) (mark.Commit first_txn ∷ mark.Answer anna 1 (answer.Inserted 1) ∷ []) ∷ []

-- then an UPDATE goes to both, and the other segment makes this mark for it
abbrev pub marked_elsewhere : Table → List Assign → Option Cond → Snapshot → Snapshot → List Value → Mark → List Step
marked_elsewhere table assigns cond before snapshot row m =
    let told = message.Exec second_txn first_cid ReadCommitted (Some snapshot) first_txn (slice.Update table assigns cond) in
    row_stands table before row
    ++ step_at the_coordinator 6 (event.Start anna) (mark.Start second_txn anna ∷ mark.Snap second_txn first_cid snapshot ∷ mark.Sent the_segment 3 told ∷ mark.Sent other_segment 1 told ∷ [])
    ∷ step_at other_segment 7 (event.Receive the_coordinator other_segment 1) (m ∷ []) ∷ []

abbrev pub third_txn : Gxid
third_txn = record { 0 = 3 }

-- or an UPDATE at repeatable read goes to both, the row is deleted meanwhile, and the other segment says that it was overtaken
abbrev pub overtaken_elsewhere : Table → List Assign → Option Cond → Option Cond → Snapshot → Snapshot → Snapshot → List Value → List Step
overtaken_elsewhere table assigns cond other before snapshot later row =
    let told = message.Exec second_txn first_cid RepeatableRead (Some snapshot) first_txn (slice.Update table assigns cond) in
    let deletes = message.Exec third_txn first_cid ReadCommitted (Some later) first_txn (slice.Delete table other) in
    row_stands table before row
    ++ step_at the_coordinator 6 (event.Start bert) (mark.Start second_txn bert ∷ mark.Answer bert 1 answer.Begin ∷ [])
    ∷ step_at the_coordinator 7 (event.Start bert) (mark.Snap second_txn first_cid snapshot ∷ mark.Sent the_segment 3 told ∷ mark.Sent other_segment 1 told ∷ [])
    ∷ step_at the_coordinator 8 (event.Start anna) (mark.Start third_txn anna ∷ mark.Snap third_txn first_cid later ∷ mark.Sent the_segment 4 deletes ∷ mark.Sent other_segment 2 deletes ∷ [])
    ∷ step_at the_segment 9 (event.Receive the_coordinator the_segment 4)
    (mark.Write third_txn first_cid the_segment table (nth_row first_txn 1) None ∷ mark.Sent the_coordinator 3 (message.Answer third_txn (reply.Done first_cid true 1 (Rows []))) ∷ [])
    ∷ step_at other_segment 10 (event.Receive the_coordinator other_segment 2) (mark.Sent the_coordinator 1 (message.Answer third_txn (reply.Done first_cid false 0 (Rows []))) ∷ [])
    ∷ step_at the_coordinator 11 (event.Receive the_segment the_coordinator 3) []
    ∷ step_at the_coordinator 12 (event.Receive other_segment the_coordinator 1) (mark.Sent the_segment 5 (message.Commit third_txn) ∷ [])
    ∷ step_at the_segment 13 (event.Receive the_coordinator the_segment 5) (mark.LocalCommit the_segment third_txn ∷ mark.Sent the_coordinator 4 (message.Answer third_txn reply.Committed) ∷ [])
    ∷ step_at the_coordinator 14 (event.Receive the_segment the_coordinator 4) (mark.Commit third_txn ∷ mark.Answer anna 2 (answer.Deleted 1) ∷ [])
    ∷ step_at other_segment 15 (event.Receive the_coordinator other_segment 1)
    (mark.Sent the_coordinator 2 (message.Answer second_txn (reply.Failed first_cid (cause.Serialization (nth_row first_txn 1) third_txn))) ∷ []) ∷ []

-- JOURNALS
-- a segment's journal fails that was asked nothing
abbrev pub failed_unasked : List Step
failed_unasked = block_begins ∷ unasked the_segment 2 (mark.JournalFailed the_segment first_txn ∷ []) ∷ []

-- the coordinator's fails where there is nothing to decide
abbrev pub failed_undecided : List Step
failed_undecided =
    block_begins
    ∷ step_at the_coordinator 2 (event.Start anna)
    (mark.JournalFailed the_coordinator first_txn ∷ mark.Abort first_txn ∷ mark.Answer anna 2 (answer.Refused (refused.JournalFault the_coordinator)) ∷ []) ∷ []

-- the coordinator's fails, and in the same step it decides
abbrev pub decided_behind_failure : Table → Snapshot → List Value → List Value → List Step
decided_behind_failure table snapshot one other =
    both_promise table snapshot one other
    ++ step_at the_coordinator 9 (event.Receive other_segment the_coordinator 2) (mark.JournalFailed the_coordinator first_txn ∷ mark.Decided first_txn ∷ []) ∷ []

-- a segment's fails, and in the same step it commits
abbrev pub committed_behind_failure : Table → Snapshot → List Value → List Step
committed_behind_failure table snapshot row =
    one_writes table snapshot row
    ++ step_at the_coordinator 5 (event.Start anna) (mark.Sent the_segment 2 (message.Commit first_txn) ∷ [])
    ∷ step_at the_segment 6 (event.Receive the_coordinator the_segment 2) (mark.JournalFailed the_segment first_txn ∷ mark.LocalCommit the_segment first_txn ∷ []) ∷ []

-- ORDERS
-- who hasn't written is asked to promise (nor are there several who have)
abbrev pub asked_unwritten : List Step
asked_unwritten = block_begins ∷ step_at the_coordinator 2 (event.Start anna) (mark.Sent the_segment 1 (message.Prepare first_txn) ∷ []) ∷ []

-- the only writer is asked to promise
abbrev pub asked_alone : Table → Snapshot → List Value → List Step
asked_alone table snapshot row = one_writes table snapshot row ++ step_at the_coordinator 5 (event.Start anna) (mark.Sent the_segment 2 (message.Prepare first_txn) ∷ []) ∷ []

-- both segments have written, and one has been heard
abbrev pub both_write : Table → Snapshot → List Value → List Value → List Step
both_write table snapshot one other =
    block_begins
    ∷ step_at the_coordinator 2 (event.Start anna)
    (mark.Snap first_txn first_cid snapshot ∷ mark.Sent the_segment 1 (insert_of table snapshot 1 one) ∷ mark.Sent other_segment 1 (insert_of table snapshot 2 other) ∷ [])
    ∷ writes_there table 3 the_segment 1 one
    ∷ writes_there table 3 other_segment 2 other
    ∷ step_at the_coordinator 4 (event.Receive the_segment the_coordinator 1) [] ∷ []

-- one of two writers is told to commit at once
abbrev pub told_at_once : Table → Snapshot → List Value → List Value → List Step
told_at_once table snapshot one other =
    both_write table snapshot one other
    ++ step_at the_coordinator 5 (event.Receive other_segment the_coordinator 1) (mark.Answer anna 2 (answer.Inserted 2) ∷ [])
    ∷ step_at the_coordinator 6 (event.Start anna) (mark.Sent the_segment 2 (message.Commit first_txn) ∷ []) ∷ []

-- the writers are asked to promise once their command is answered, and before COMMIT
abbrev pub asked_before_commit : Table → Snapshot → List Value → List Value → List Step
asked_before_commit table snapshot one other =
    both_write table snapshot one other
    ++ step_at the_coordinator 5 (event.Receive other_segment the_coordinator 1)
    (mark.Answer anna 2 (answer.Inserted 2) ∷ mark.Sent the_segment 2 (message.Prepare first_txn) ∷ mark.Sent other_segment 2 (message.Prepare first_txn) ∷ []) ∷ []

-- a command of two rows outside a block
abbrev pub two_rows : Table → List Expr → List Expr → Stmt
two_rows table one other = stmt.Insert table (one ∷ other ∷ [])

abbrev pub alone : Script → Table → List Expr → List Expr → Script
alone script table one other = with_two script (line_of anna 1 (two_rows table one other) ∷ [])

-- the segment that has written is told to commit before the other one is done
abbrev pub told_undone : Table → Snapshot → List Value → List Value → List Step
told_undone table snapshot one other =
    step_at the_coordinator 1 (event.Start anna)
    (mark.Start first_txn anna ∷ mark.Snap first_txn first_cid snapshot ∷ mark.Sent the_segment 1 (insert_of table snapshot 1 one) ∷ mark.Sent other_segment 1 (insert_of table snapshot 2 other) ∷ [])
    ∷ writes_there table 2 the_segment 1 one
    ∷ step_at the_coordinator 3 (event.Receive the_segment the_coordinator 1) (mark.Sent the_segment 2 (message.Commit first_txn) ∷ []) ∷ []

-- of the two segments of its plan a command goes to one alone, which is told to commit once it is done
abbrev pub told_half_sent : Table → List Assign → Snapshot → Rid → List Value → List Step
told_half_sent table assigns snapshot rid row =
    let told = message.Exec first_txn first_cid ReadCommitted (Some snapshot) first_txn (slice.Update table assigns None) in
    step_at the_coordinator 1 (event.Start anna) (mark.Start first_txn anna ∷ mark.Snap first_txn first_cid snapshot ∷ mark.Sent the_segment 1 told ∷ [])
    ∷ step_at the_segment 2 (event.Receive the_coordinator the_segment 1)
    (mark.Write first_txn first_cid the_segment table rid (Some row) ∷ mark.Sent the_coordinator 1 (message.Answer first_txn (reply.Done first_cid true 1 (Rows []))) ∷ [])
    ∷ step_at the_coordinator 3 (event.Receive the_segment the_coordinator 1) (mark.Sent the_segment 2 (message.Commit first_txn) ∷ []) ∷ []

-- a segment is told to commit as promised before it is decided
abbrev pub told_early : Table → Snapshot → List Value → List Value → List Step
told_early table snapshot one other =
    both_promise table snapshot one other ++ step_at the_coordinator 9 (event.Receive other_segment the_coordinator 2) (mark.Sent the_segment 3 (message.CommitPrepared first_txn) ∷ []) ∷ []

-- A COMMAND IN ITS TIME
-- it stands outside a block, and both its segments have written
abbrev pub alone_writes : Table → Snapshot → List Value → List Value → List Step
alone_writes table snapshot one other =
    step_at the_coordinator 1 (event.Start anna)
    (mark.Start first_txn anna ∷ mark.Snap first_txn first_cid snapshot ∷ mark.Sent the_segment 1 (insert_of table snapshot 1 one) ∷ mark.Sent other_segment 1 (insert_of table snapshot 2 other) ∷ [])
    ∷ writes_there table 2 the_segment 1 one
    ∷ writes_there table 2 other_segment 2 other ∷ []

-- behind PREPARE it is sent once more
abbrev pub sent_behind_prepare : Table → Snapshot → List Value → List Value → List Step
sent_behind_prepare table snapshot one other =
    alone_writes table snapshot one other
    ++ step_at the_coordinator 3 (event.Receive the_segment the_coordinator 1) []
    ∷ step_at the_coordinator 4 (event.Receive other_segment the_coordinator 1) (mark.Sent the_segment 2 (message.Prepare first_txn) ∷ mark.Sent other_segment 2 (message.Prepare first_txn) ∷ [])
    ∷ step_at the_coordinator 5 (event.Resend the_segment (Some first_txn)) (mark.Sent the_segment 3 (insert_of table snapshot 1 one) ∷ []) ∷ []

-- one of a block is sent once more behind its answer
abbrev pub sent_behind_answer : Table → Snapshot → List Value → List Step
sent_behind_answer table snapshot row = one_writes table snapshot row ++ step_at the_coordinator 5 (event.Resend the_segment (Some first_txn)) (mark.Sent the_segment 2 (insert_of table snapshot 1 row) ∷ []) ∷ []

-- WORDS
-- a segment says so that was told nothing
abbrev pub said_unasked : Reply → List Step
said_unasked told = block_begins ∷ unasked the_segment 2 (says told) ∷ []
