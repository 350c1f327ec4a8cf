-- Small runs in which something comes too late: constants fault of what was sent already, a transaction that has aborted writes
-- where it couldn't have written in time, and a block is left open.
use Rattle.std.specs.Prelude.{List, [], ◌∷◌, Some, None}
use Rattle.std.specs.declared.option.Option.{Option}
use Rattle.gx_ids.specs.declared.ids.Gxid.{Gxid}
use Rattle.gx_ids.specs.declared.ids.Node.{Node}
use Rattle.gx_ids.specs.declared.ids.SessionId.{SessionId}
use Rattle.gx_ids.specs.declared.ids.Table.{Table}
use Rattle.gx_tree.specs.declared.cond.Cond.{Cond}
use Rattle.gx_tree.specs.declared.expr.Expr.{Expr}
use Rattle.gx_tree.specs.declared.slice.Slice.{Slice}
use Rattle.gx_tree.specs.declared.stmt.Assign.{Assign}
use Rattle.gx_tree.specs.declared.stmt.Level.TheVariants.{ReadCommitted}
use Rattle.gx_tree.specs.declared.stmt.Stmt.TheVariants as stmt
use Rattle.gx_tree.specs.declared.value.Value.{Value}
use Rattle.gx_dsnap.specs.declared.snapshot.Snapshot.{Snapshot}
use Rattle.gx_msg.specs.declared.message.Message.TheVariants as message
use Rattle.gx_script.specs.declared.Script.{Script}
use Rattle.gx_waits.specs.declared.graph.LocalGraph.{LocalGraph}
use Rattle.gx_waits.specs.declared.verdict.Verdict.TheVariants.{Victims}
use Rattle.gx_store.specs.declared.answer.Refused.TheVariants as refused
use Rattle.gx_store.specs.declared.answer.StmtAnswer.TheVariants as answer
use Rattle.gx_store.specs.declared.event.Event.TheVariants as event
use Rattle.gx_store.specs.declared.mark.Mark.TheVariants as mark
use Rattle.gx_store.specs.declared.run.Step.{Step}
use Rattle.gx_store.specs.RefusedHistories.{is_done}
use Rattle.gx_store.specs.RefusedParts.{anna, bert, block_begins, first_cid, first_txn, line_of, row_of, second_txn, step_at, the_segment, with_lines}
use Rattle.gx_store.specs.Refusals.{the_coordinator}

-- CONSTANTS
-- Anna's INSERT goes out
abbrev pub goes_out : Snapshot → Slice → Step
goes_out snapshot slice =
    step_at the_coordinator 1 (event.Start anna)
    (mark.Start first_txn anna ∷ mark.Snap first_txn first_cid snapshot ∷ mark.Sent the_segment 1 (message.Exec first_txn first_cid ReadCommitted (Some snapshot) first_txn slice) ∷ [])

-- and is refused for a constant
abbrev pub faulted_when_sent : Snapshot → Slice → List Step
faulted_when_sent snapshot slice =
    goes_out snapshot slice
    ∷ step_at the_coordinator 2 event.Round (mark.Fault first_txn first_cid (row_of first_txn) None ∷ mark.Abort first_txn ∷ mark.Answer anna 1 (answer.Refused refused.DivisionByZero) ∷ []) ∷ []

-- the transaction that a session has its line in is cancelled
abbrev pub is_cancelled : LocalGraph → Gxid → SessionId → Step
is_cancelled graph g session =
    step_at the_coordinator 4 event.Round (mark.Recheck 1 graph (Victims (g ∷ [])) ∷ mark.Abort g ∷ mark.Answer session 1 (answer.Refused (refused.Victim 1)) ∷ [])

-- it is cancelled, and behind that a segment notes that a constant faults
abbrev pub faulted_late : LocalGraph → Snapshot → Slice → List Step
faulted_late graph snapshot slice =
    goes_out snapshot slice
    ∷ is_cancelled graph first_txn anna
    ∷ step_at the_segment 5 (event.Receive the_coordinator the_segment 1) (mark.Fault first_txn first_cid (row_of first_txn) None ∷ []) ∷ []

-- an INSERT of two tuples
abbrev pub two_tuples : Script → Table → List Expr → List Expr → Script
two_tuples script table one other = with_lines script (line_of anna 1 (stmt.Insert table (one ∷ other ∷ [])) ∷ [])

-- WRITES
-- a script of these lines, over two segments, among which the rows of each table are dealt out
abbrev pub dealt_out : Script → Table → List Expr → Script
dealt_out script table tuple = record script { segments = 2; tables = []; lines = line_of anna 1 (stmt.Insert table (tuple ∷ [])) ∷ [] }

-- Anna's INSERT is cancelled, and behind that it writes this image of its row at a segment; the row's place is the first.
abbrev pub inserted_late : Table → LocalGraph → Snapshot → Slice → Node → Option (List Value) → List Step
inserted_late table graph snapshot slice node image =
    goes_out snapshot slice
    ∷ is_cancelled graph first_txn anna
    ∷ step_at node 5 (event.Receive the_coordinator node 1) (mark.Write first_txn first_cid node table (row_of first_txn) image ∷ []) ∷ []

abbrev pub the_table : Table
the_table = record { 0 = 0 }

abbrev pub other_table : Table
other_table = record { 0 = 1 }

-- Bert inserts into the one table, and Anna changes the other.
abbrev pub insert_and_update : Script → List Expr → List Assign → Option Cond → Script
insert_and_update script tuple assigns cond =
    with_lines script (line_of bert 1 (stmt.Insert the_table (tuple ∷ [])) ∷ line_of anna 1 (stmt.Update other_table assigns cond) ∷ [])

-- Bert's row is there. Anna's UPDATE is cancelled, and behind that it writes his row as one of its own table.
abbrev pub updated_elsewhere : LocalGraph → Snapshot → Snapshot → List Value → List Value → List Step
updated_elsewhere graph berts annas old new =
    step_at the_coordinator 1 (event.Start bert) (mark.Start first_txn bert ∷ mark.Snap first_txn first_cid berts ∷ [])
    ∷ step_at the_segment 2 (event.Receive the_coordinator the_segment 1) (mark.Write first_txn first_cid the_segment the_table (row_of first_txn) (Some old) ∷ is_done ∷ [])
    ∷ step_at the_coordinator 3 (event.Receive the_segment the_coordinator 1) (mark.Commit first_txn ∷ mark.Answer bert 1 (answer.Inserted 1) ∷ [])
    ∷ step_at the_coordinator 3 (event.Start anna) (mark.Start second_txn anna ∷ mark.Snap second_txn first_cid annas ∷ [])
    ∷ is_cancelled graph second_txn anna
    ∷ step_at the_segment 5 (event.Receive the_coordinator the_segment 2) (mark.Write second_txn first_cid the_segment other_table (row_of first_txn) (Some new) ∷ []) ∷ []

-- THE END OF A SESSION
abbrev pub only_begin : Script → Script
only_begin script = with_lines script (line_of anna 1 (stmt.Begin ReadCommitted) ∷ [])

-- Anna's session ends in its block, and its transaction doesn't abort.
abbrev pub left_open : List Step
left_open = block_begins ∷ step_at the_coordinator 2 (event.End anna) [] ∷ []
