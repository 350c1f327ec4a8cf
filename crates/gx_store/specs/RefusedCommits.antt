-- Small runs that don't follow the commit protocol.
use Rattle.std.specs.Prelude.{ℕ, true, List, [], ◌∷◌, ◌++◌, Some}
use Rattle.gx_ids.specs.declared.ids.Cid.{Cid}
use Rattle.gx_ids.specs.declared.ids.Node.{Node}
use Rattle.gx_ids.specs.declared.rid.Rid.{Rid}
use Rattle.gx_ids.specs.declared.ids.Table.{Table}
use Rattle.gx_tree.specs.declared.expr.Expr.{Expr}
use Rattle.gx_tree.specs.declared.part.Part.TheVariants.{Rows}
use Rattle.gx_tree.specs.declared.query.Query.{Query}
use Rattle.gx_tree.specs.declared.slice.Slice.TheVariants as slice
use Rattle.gx_tree.specs.declared.stmt.Level.TheVariants.{ReadCommitted}
use Rattle.gx_tree.specs.declared.stmt.Stmt.TheVariants as stmt
use Rattle.gx_tree.specs.declared.value.Value.{Value}
use Rattle.gx_dsnap.specs.declared.snapshot.Snapshot.{Snapshot}
use Rattle.gx_msg.specs.declared.message.Message.{Message}
use Rattle.gx_msg.specs.declared.message.Message.TheVariants as message
use Rattle.gx_msg.specs.declared.reply.Reply.TheVariants as reply
use Rattle.gx_script.specs.declared.Script.{Script}
use Rattle.gx_store.specs.declared.answer.Refused.TheVariants as refused
use Rattle.gx_store.specs.declared.answer.StmtAnswer.TheVariants as answer
use Rattle.gx_store.specs.declared.event.Event.TheVariants as event
use Rattle.gx_store.specs.declared.mark.Mark.TheVariants as mark
use Rattle.gx_store.specs.declared.run.Step.{Step}
use Rattle.gx_store.specs.Protocol.{DoStepsFollow}
use Rattle.gx_store.specs.RefusedParts.{anna, block_begins, first_cid, first_txn, line_of, nth_row, other_segment, step_at, the_segment, with_lines, with_two}
use Rattle.gx_store.specs.Refusals.{the_coordinator}

abbrev pub BreaksProtocol : Script → List Step → Type 0
BreaksProtocol script steps = DoStepsFollow script [] steps → ⊥

-- AN ANSWER
abbrev pub one_select : Script → Query → Script
one_select script query = with_lines script (line_of anna 1 (stmt.Select query) ∷ [])

-- a SELECT is sent out and answered in one step
abbrev pub answered_at_once : Query → Snapshot → List Step
answered_at_once query snapshot =
    step_at the_coordinator 1 (event.Start anna) (
    mark.Start first_txn anna ∷ mark.Snap first_txn first_cid snapshot
    ∷ mark.Sent the_segment 1 (message.Exec first_txn first_cid ReadCommitted (Some snapshot) first_txn (slice.Select query))
    ∷ mark.Commit first_txn
    ∷ mark.Answer anna 1 (answer.Rows []) ∷ []
    ) ∷ []

-- WHO HAS NOT WRITTEN
-- a transaction without writers is decided
abbrev pub decided_of_nobody : List Step
decided_of_nobody = block_begins ∷ step_at the_coordinator 2 (event.Start anna) (mark.Decided first_txn ∷ []) ∷ []

-- a segment promises that has not written (nor may it be asked to: `IsToPrepare` refuses its PREPARE, before `Promises` its promise)
abbrev pub promised_unwritten : List Step
promised_unwritten =
    block_begins
    ∷ step_at the_coordinator 2 (event.Start anna) (mark.Sent the_segment 1 (message.Prepare first_txn) ∷ [])
    ∷ step_at the_segment 3 (event.Receive the_coordinator the_segment 1) (mark.Prepared the_segment first_txn ∷ []) ∷ []

-- TWO WRITERS
abbrev pub two_writers : Script → Table → List Expr → List Expr → Script
two_writers script table one other =
    with_two script (line_of anna 1 (stmt.Begin ReadCommitted) ∷ line_of anna 2 (stmt.Insert table (one ∷ other ∷ [])) ∷ line_of anna 3 stmt.Commit ∷ [])

-- a segment's row of the INSERT is sent to it, and is written there
abbrev pub insert_of : Table → Snapshot → ℕ → List Value → Message
insert_of table snapshot ordinal row = message.Exec first_txn first_cid ReadCommitted (Some snapshot) first_txn (slice.Insert table (record { rid = nth_row first_txn ordinal; row = row } ∷ []))

abbrev pub writes_there : Table → ℕ → Node → ℕ → List Value → Step
writes_there table clock node ordinal row =
    step_at node clock (event.Receive the_coordinator node 1)
    (mark.Write first_txn first_cid node table (nth_row first_txn ordinal) (Some row) ∷ mark.Sent the_coordinator 1 (message.Answer first_txn (reply.Done first_cid true 1 (Rows []))) ∷ [])

-- a second command, and a row of it
abbrev pub second_cid : Cid
second_cid = record { 0 = 2 }

abbrev pub second_row : Rid
second_row = record { gxid = first_txn; cid = second_cid; ordinal = 1 }

abbrev pub promises_there : ℕ → Node → Step
promises_there clock node =
    step_at node clock (event.Receive the_coordinator node 2) (mark.Prepared node first_txn ∷ mark.Sent the_coordinator 2 (message.Answer first_txn reply.Prepared) ∷ [])

-- both segments have written and promised, and one promise has been received
abbrev pub both_promise : Table → Snapshot → List Value → List Value → List Step
both_promise table snapshot one other =
    block_begins
    ∷ step_at the_coordinator 2 (event.Start anna)
    (mark.Snap first_txn first_cid snapshot ∷ mark.Sent the_segment 1 (insert_of table snapshot 1 one) ∷ mark.Sent other_segment 1 (insert_of table snapshot 2 other) ∷ [])
    ∷ writes_there table 3 the_segment 1 one
    ∷ writes_there table 3 other_segment 2 other
    ∷ step_at the_coordinator 4 (event.Receive the_segment the_coordinator 1) []
    ∷ step_at the_coordinator 5 (event.Receive other_segment the_coordinator 1) (mark.Answer anna 2 (answer.Inserted 2) ∷ [])
    ∷ step_at the_coordinator 6 (event.Start anna) (mark.Sent the_segment 2 (message.Prepare first_txn) ∷ mark.Sent other_segment 2 (message.Prepare first_txn) ∷ [])
    ∷ promises_there 7 the_segment
    ∷ promises_there 7 other_segment
    ∷ step_at the_coordinator 8 (event.Receive the_segment the_coordinator 2) [] ∷ []

-- with the other promise it is decided twice
abbrev pub decided_twice : Table → Snapshot → List Value → List Value → List Step
decided_twice table snapshot one other =
    both_promise table snapshot one other ++ step_at the_coordinator 9 (event.Receive other_segment the_coordinator 2) (mark.Decided first_txn ∷ mark.Decided first_txn ∷ []) ∷ []

-- with the other promise the coordinator's journal fails, and it aborts; when that promise is received again, it is decided
abbrev pub decided_late : Table → Snapshot → List Value → List Value → List Step
decided_late table snapshot one other =
    both_promise table snapshot one other
    ++ step_at the_coordinator 9 (event.Receive other_segment the_coordinator 2)
    (mark.JournalFailed the_coordinator first_txn ∷ mark.Abort first_txn ∷ mark.Answer anna 3 (answer.Refused (refused.JournalFault the_coordinator)) ∷ [])
    ∷ step_at the_coordinator 10 (event.Receive other_segment the_coordinator 2) (mark.Decided first_txn ∷ []) ∷ []

-- a segment is told to commit as promised, and does so, before it is decided (`IsToFinish` refuses the order, `CommitsThere` the commit)
abbrev pub committed_early : Table → Snapshot → List Value → List Value → List Step
committed_early table snapshot one other =
    both_promise table snapshot one other
    ++ step_at the_coordinator 9 (event.Receive other_segment the_coordinator 2) (mark.Sent the_segment 3 (message.CommitPrepared first_txn) ∷ [])
    ∷ step_at the_segment 10 (event.Receive the_coordinator the_segment 3) (mark.LocalCommit the_segment first_txn ∷ []) ∷ []

-- a segment that has promised is sent a further command, and writes a row (`IsToExecute` refuses the EXEC, `WritesThere` the write)
abbrev pub written_late : Table → Snapshot → List Value → List Value → List Value → List Step
written_late table snapshot one other late =
    both_promise table snapshot one other
    ++ step_at the_coordinator 9 (event.Receive other_segment the_coordinator 2)
    (mark.Sent the_segment 3 (message.Exec first_txn second_cid ReadCommitted (Some snapshot) first_txn (slice.Insert table (record { rid = second_row; row = late } ∷ []))) ∷ [])
    ∷ step_at the_segment 10 (event.Receive the_coordinator the_segment 3) (mark.Write first_txn second_cid the_segment table second_row (Some late) ∷ []) ∷ []
