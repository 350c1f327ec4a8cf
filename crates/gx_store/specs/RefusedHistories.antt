-- Small runs that are no histories of one store.
use Rattle.std.specs.Prelude.{true, List, [], ◌∷◌, ◌++◌, take, Some, None}
use Rattle.gx_ids.specs.declared.ids.Cid.{Cid}
use Rattle.gx_ids.specs.declared.ids.Table.{Table}
use Rattle.gx_tree.specs.declared.expr.Expr.{Expr}
use Rattle.gx_tree.specs.declared.part.Part.TheVariants.{Rows}
use Rattle.gx_tree.specs.declared.query.Query.{Query}
use Rattle.gx_tree.specs.declared.stmt.Level.TheVariants.{ReadCommitted}
use Rattle.gx_tree.specs.declared.stmt.Stmt.TheVariants as stmt
use Rattle.gx_tree.specs.declared.value.Value.{Value}
use Rattle.gx_dsnap.specs.declared.snapshot.Snapshot.{Snapshot}
use Rattle.gx_msg.specs.declared.message.Message.TheVariants as message
use Rattle.gx_msg.specs.declared.reply.Cause.TheVariants as cause
use Rattle.gx_msg.specs.declared.reply.Reply.TheVariants as reply
use Rattle.gx_script.specs.declared.Script.{Script}
use Rattle.gx_waits.specs.declared.graph.LocalGraph.{LocalGraph}
use Rattle.gx_waits.specs.declared.verdict.Verdict.TheVariants.{Victims}
use Rattle.gx_store.specs.declared.answer.Refused.TheVariants as refused
use Rattle.gx_store.specs.declared.answer.StmtAnswer.TheVariants as answer
use Rattle.gx_store.specs.declared.event.Event.{Event}
use Rattle.gx_store.specs.declared.event.Event.TheVariants as event
use Rattle.gx_store.specs.declared.mark.Mark.{Mark}
use Rattle.gx_store.specs.declared.mark.Mark.TheVariants as mark
use Rattle.gx_store.specs.declared.run.Step.{Step}
use Rattle.gx_store.specs.RefusedParts.{anna, bert, block_begins, first_cid, first_txn, line_of, no_edges, other_segment, row_of, second_txn, step_at, the_segment, with_lines}
use Rattle.gx_store.specs.Refusals.{the_coordinator}
use Rattle.gx_store.specs.Runs.{IsLegalHistory}

abbrev pub IsNoHistory : Script → List Step → Type 0
IsNoHistory script steps = IsLegalHistory script (record { steps = steps }) → ⊥

-- the segment says that it is done with an INSERT of one row
abbrev pub is_done : Mark
is_done = mark.Sent the_coordinator 1 (message.Answer first_txn (reply.Done first_cid true 1 (Rows [])))

-- AN INSERT
-- Anna's INSERT is of one tuple, and so is Bert's.
abbrev pub two_inserts : Script → Table → List Expr → List Expr → Script
two_inserts script table annas berts = with_lines script (line_of anna 1 (stmt.Insert table (annas ∷ [])) ∷ line_of bert 1 (stmt.Insert table (berts ∷ [])) ∷ [])

-- Anna's is refused. A late write of its transaction is of the row that is to be Bert's.
abbrev pub written_elsewhere : Table → Snapshot → List Value → List Step
written_elsewhere table annas row =
    step_at the_coordinator 1 (event.Start anna) (
    mark.Start first_txn anna ∷ mark.Snap first_txn first_cid annas ∷ mark.Fault first_txn first_cid (row_of first_txn) None ∷ mark.Abort first_txn
    ∷ mark.Answer anna 1 (answer.Refused refused.DivisionByZero) ∷ []
    )
    ∷ step_at the_segment 1 (event.Receive the_coordinator the_segment 1) (mark.Write first_txn first_cid the_segment table (row_of second_txn) (Some row) ∷ []) ∷ []

abbrev pub one_insert : Script → Table → List Expr → Script
one_insert script table tuple = with_lines script (line_of anna 1 (stmt.Insert table (tuple ∷ [])) ∷ [])

-- the segment says that it is done, and has written nothing
abbrev pub inserted_nothing : Snapshot → List Step
inserted_nothing snapshot =
    step_at the_coordinator 1 (event.Start anna) (mark.Start first_txn anna ∷ mark.Snap first_txn first_cid snapshot ∷ [])
    ∷ step_at the_segment 2 (event.Receive the_coordinator the_segment 1) (is_done ∷ [])
    ∷ step_at the_coordinator 3 (event.Receive the_segment the_coordinator 1) (mark.Commit first_txn ∷ mark.Answer anna 1 (answer.Inserted 1) ∷ []) ∷ []

-- A REFUSAL OF EVALUATION
abbrev pub insert_and_select : Script → Table → List Expr → Query → Script
insert_and_select script table tuple query = with_lines script (line_of bert 1 (stmt.Insert table (tuple ∷ [])) ∷ line_of anna 1 (stmt.Select query) ∷ [])

-- Bert's row is there. Anna's condition faults on it, the segment says so in these marks, and she is refused for an overflow in
-- the step of this event.
abbrev pub refused_for_overflow : Table → Snapshot → Snapshot → List Value → List Mark → Event → List Step
refused_for_overflow table berts annas row said delivery =
    step_at the_coordinator 1 (event.Start bert) (mark.Start first_txn bert ∷ mark.Snap first_txn first_cid berts ∷ [])
    ∷ step_at the_segment 2 (event.Receive the_coordinator the_segment 1) (mark.Write first_txn first_cid the_segment table (row_of first_txn) (Some row) ∷ is_done ∷ [])
    ∷ step_at the_coordinator 3 (event.Receive the_segment the_coordinator 1) (mark.Commit first_txn ∷ mark.Answer bert 1 (answer.Inserted 1) ∷ [])
    ∷ step_at the_coordinator 4 (event.Start anna) (mark.Start second_txn anna ∷ mark.Snap second_txn first_cid annas ∷ [])
    ∷ step_at the_segment 5 (event.Receive the_coordinator the_segment 2) (mark.Fault second_txn first_cid (row_of first_txn) (Some row) ∷ said)
    ∷ step_at the_coordinator 6 delivery (mark.Abort second_txn ∷ mark.Answer anna 1 (answer.Refused refused.Overflow) ∷ []) ∷ []

-- nothing is received
abbrev pub untold : Table → Snapshot → Snapshot → List Value → List Step
untold table berts annas row = refused_for_overflow table berts annas row [] event.Round

-- another cause is received
abbrev pub told_another : Table → Snapshot → Snapshot → List Value → List Step
told_another table berts annas row =
    refused_for_overflow table berts annas row
    (mark.Sent the_coordinator 2 (message.Answer second_txn (reply.Failed first_cid cause.DivisionByZero)) ∷ [])
    (event.Receive the_segment the_coordinator 2)

abbrev pub over_two : Script → Script
over_two script = record script { segments = 2 }

-- the cause is received from the other segment, which has noted nothing
abbrev pub told_by_another : Table → Snapshot → Snapshot → List Value → List Step
told_by_another table berts annas row =
    take 5 (untold table berts annas row)
    ++ step_at other_segment 5 (event.Receive the_coordinator other_segment 1) (mark.Sent the_coordinator 1 (message.Answer second_txn (reply.Failed first_cid cause.Overflow)) ∷ [])
    ∷ step_at the_coordinator 6 (event.Receive other_segment the_coordinator 1) (mark.Abort second_txn ∷ mark.Answer anna 1 (answer.Refused refused.Overflow) ∷ []) ∷ []

-- AN ANSWER
-- a SELECT without a condition
abbrev pub without_condition : Query → Query
without_condition query = record query { cond = None }

abbrev pub select_all : Script → Query → Script
select_all script query = with_lines script (line_of anna 1 (stmt.Select (without_condition query)) ∷ [])

-- it is sent to nobody, and is answered
abbrev pub sent_to_nobody : Snapshot → List Step
sent_to_nobody snapshot =
    step_at the_coordinator 1 (event.Start anna) (mark.Start first_txn anna ∷ mark.Snap first_txn first_cid snapshot ∷ mark.Commit first_txn ∷ mark.Answer anna 1 (answer.Rows []) ∷ []) ∷ []

-- A BLOCK
-- the detector's round cancels COMMIT
abbrev pub commit_is_cancelled : LocalGraph → List Step
commit_is_cancelled graph =
    block_begins
    ∷ step_at the_coordinator 2 (event.Start anna) []
    ∷ step_at the_coordinator 3 event.Round (mark.Recheck 1 graph (Victims (first_txn ∷ [])) ∷ mark.Abort first_txn ∷ mark.Answer anna 2 (answer.Refused (refused.Victim 1)) ∷ []) ∷ []

abbrev pub block_of_select : Script → Query → Script
block_of_select script query = with_lines script (line_of anna 1 (stmt.Begin ReadCommitted) ∷ line_of anna 2 (stmt.Select query) ∷ [])

-- the coordinator's journal fails, and a SELECT in the block is refused for it
abbrev pub select_for_journal : List Step
select_for_journal =
    block_begins
    ∷ step_at the_coordinator 2 (event.Start anna)
    (mark.JournalFailed the_coordinator first_txn ∷ mark.Abort first_txn ∷ mark.Answer anna 2 (answer.Refused (refused.JournalFault the_coordinator)) ∷ []) ∷ []

-- A LINE
-- a block begins without a transaction
abbrev pub undrawn : List Step
undrawn = step_at the_coordinator 1 (event.Start anna) [] ∷ []

-- in a block a SELECT is refused, and before the INSERT behind it starts, a write of it is noted
abbrev pub block_of_insert : Script → Query → Table → List Expr → Script
block_of_insert script query table tuple =
    with_lines script (line_of anna 1 (stmt.Begin ReadCommitted) ∷ line_of anna 2 (stmt.Select query) ∷ line_of anna 3 (stmt.Insert table (tuple ∷ [])) ∷ [])

abbrev pub second_cid : Cid
second_cid = record { 0 = 2 }

abbrev pub never_started : Table → List Value → List Step
never_started table row =
    block_begins
    ∷ step_at the_coordinator 2 (event.Start anna)
    (mark.Recheck 1 (no_edges the_coordinator) (Victims (first_txn ∷ [])) ∷ mark.Abort first_txn ∷ mark.Answer anna 2 (answer.Refused (refused.Victim 1)) ∷ [])
    ∷ step_at the_segment 3 (event.Receive the_coordinator the_segment 1)
    (mark.Write first_txn second_cid the_segment table (record { gxid = first_txn; cid = second_cid; ordinal = 1 }) (Some row) ∷ []) ∷ []
