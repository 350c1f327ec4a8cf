-- Small runs in which a lock is waited for or granted that nobody has asked for.
use Rattle.std.specs.Prelude.{ℕ, ◌+◌, false, true, List, [], ◌∷◌, ◌++◌, None, Some}
use Rattle.std.specs.declared.option.Option.{Option}
use Rattle.gx_ids.specs.declared.ids.Gxid.{Gxid}
use Rattle.gx_ids.specs.declared.rid.Rid.{Rid}
use Rattle.gx_modes.specs.declared.modes.Mode.TheVariants.{AccessExclusive, AccessShare, Exclusive, RowExclusive, RowShare, Share}
use Rattle.gx_tree.specs.declared.cond.Cond.{Cond}
use Rattle.gx_tree.specs.declared.expr.Expr.{Expr}
use Rattle.gx_tree.specs.declared.part.Part.TheVariants.{Rows}
use Rattle.gx_tree.specs.declared.query.Query.{Query}
use Rattle.gx_tree.specs.declared.row.KeyedRow.{KeyedRow}
use Rattle.gx_tree.specs.declared.slice.Slice.{Slice}
use Rattle.gx_tree.specs.declared.slice.Slice.TheVariants as slice
use Rattle.gx_tree.specs.declared.stmt.Assign.{Assign}
use Rattle.gx_tree.specs.declared.stmt.Level.TheVariants.{ReadCommitted}
use Rattle.gx_tree.specs.declared.stmt.Stmt.TheVariants as stmt
use Rattle.gx_tree.specs.declared.value.Value.{Value}
use Rattle.gx_dsnap.specs.declared.snapshot.Snapshot.{Snapshot}
use Rattle.gx_msg.specs.declared.message.Message.{Message}
use Rattle.gx_msg.specs.declared.message.Message.TheVariants as message
use Rattle.gx_msg.specs.declared.reply.Reply.TheVariants as reply
use Rattle.gx_script.specs.declared.Script.{Script}
use Rattle.gx_waits.specs.declared.object.Object.{Object}
use Rattle.gx_waits.specs.declared.object.Object.TheVariants.{Relation, Transaction}
use Rattle.gx_store.specs.declared.answer.StmtAnswer.TheVariants as answer
use Rattle.gx_store.specs.declared.event.Event.TheVariants as event
use Rattle.gx_store.specs.declared.mark.Mark.{Mark}
use Rattle.gx_store.specs.declared.mark.Mark.TheVariants as mark
use Rattle.gx_store.specs.declared.run.Step.{Step}
use Rattle.gx_store.specs.RefusedParts.{anna, bert, block_begins, first_cid, first_txn, line_of, other_segment, row_of, second_txn, step_at, the_segment, third_txn, with_lines, with_two}
use Rattle.gx_store.specs.RefusedWaits.{first_table, on_first}
use Rattle.gx_store.specs.Refusals.{the_coordinator}

abbrev pub the_table : Object
the_table = Relation first_table

abbrev pub order_of : Gxid → Option Snapshot → Slice → Message
order_of g snapshot x = message.Exec g first_cid ReadCommitted snapshot first_txn x

abbrev pub is_done : Gxid → Message
is_done g = message.Answer g (reply.Done first_cid false 0 (Rows []))

-- A WAIT OF WHO IS IDLE
abbrev pub two_locks : Script → Script
two_locks script =
    with_lines script
    (line_of anna 1 (stmt.Begin ReadCommitted) ∷ line_of anna 2 (stmt.Lock first_table RowShare)
    ∷ line_of bert 1 (stmt.Begin ReadCommitted) ∷ line_of bert 2 (stmt.Lock first_table RowShare) ∷ [])

-- Two transactions hold the table in ROW SHARE, and both their sessions are idle. When the first one's EXEC comes once more, the segment
-- notes that both wait for the table in ACCESS EXCLUSIVE: a round would find them stuck.
abbrev pub idle_wait : List Step
idle_wait =
    block_begins
    ∷ step_at the_coordinator 2 (event.Start bert) (mark.Start second_txn bert ∷ mark.Answer bert 1 answer.Begin ∷ [])
    ∷ step_at the_coordinator 3 (event.Start anna) (mark.Hold the_coordinator first_txn the_table RowShare ∷ mark.Sent the_segment 1 (order_of first_txn None (slice.Lock first_table RowShare)) ∷ [])
    ∷ step_at the_coordinator 4 (event.Start bert) (mark.Hold the_coordinator second_txn the_table RowShare ∷ mark.Sent the_segment 2 (order_of second_txn None (slice.Lock first_table RowShare)) ∷ [])
    ∷ step_at the_segment 4 (event.Receive the_coordinator the_segment 1) (mark.Hold the_segment first_txn the_table RowShare ∷ mark.Sent the_coordinator 1 (is_done first_txn) ∷ [])
    ∷ step_at the_segment 5 (event.Receive the_coordinator the_segment 2) (mark.Hold the_segment second_txn the_table RowShare ∷ mark.Sent the_coordinator 2 (is_done second_txn) ∷ [])
    ∷ step_at the_coordinator 5 (event.Receive the_segment the_coordinator 1) (mark.Answer anna 2 answer.Locked ∷ [])
    ∷ step_at the_coordinator 6 (event.Receive the_segment the_coordinator 2) (mark.Answer bert 2 answer.Locked ∷ [])
    ∷ step_at the_segment 6 (event.Receive the_coordinator the_segment 1)
    (mark.Wait the_segment first_txn the_table AccessExclusive ∷ mark.Wait the_segment second_txn the_table AccessExclusive ∷ []) ∷ []

-- A WAIT FOR MORE
-- a SELECT starts, and goes out to a segment
abbrev pub query_starts : Query → Snapshot → List Mark → Step
query_starts query snapshot sent =
    step_at the_coordinator 1 (event.Start anna)
    (mark.Start first_txn anna ∷ mark.Hold the_coordinator first_txn the_table AccessShare ∷ mark.Snap first_txn first_cid snapshot
    ∷ mark.Sent the_segment 1 (order_of first_txn (Some snapshot) (slice.Select (on_first query))) ∷ sent)

-- there it waits for its table in ACCESS EXCLUSIVE
abbrev pub waits_for_more : Query → Snapshot → List Step
waits_for_more query snapshot =
    query_starts query snapshot []
    ∷ step_at the_segment 2 (event.Receive the_coordinator the_segment 1) (mark.Wait the_segment first_txn the_table AccessExclusive ∷ []) ∷ []

-- at the coordinator it waits for it so already
abbrev pub waits_here_for_more : List Step
waits_here_for_more = step_at the_coordinator 1 (event.Start anna) (mark.Start first_txn anna ∷ mark.Wait the_coordinator first_txn the_table AccessExclusive ∷ []) ∷ []

-- A WAIT WHERE NOTHING HAS COME
-- a segment to which the query hasn't gone out has it wait
abbrev pub waits_elsewhere : Query → Snapshot → List Step
waits_elsewhere query snapshot =
    query_starts query snapshot [] ∷ step_at other_segment 2 (event.Resume other_segment first_txn) (mark.Wait other_segment first_txn the_table AccessShare ∷ []) ∷ []

-- A WAIT BEHIND DONE
abbrev pub two_queried : Script → Query → Script
two_queried script query = with_two script (line_of anna 1 (stmt.Select (on_first query)) ∷ [])

-- Another segment has still to answer. When the EXEC comes once more to the one that has said that it is done, the query waits there.
abbrev pub waits_when_done : Query → Snapshot → List Step
waits_when_done query snapshot =
    query_starts query snapshot (mark.Sent other_segment 1 (order_of first_txn (Some snapshot) (slice.Select (on_first query))) ∷ [])
    ∷ step_at the_segment 2 (event.Receive the_coordinator the_segment 1) (mark.Hold the_segment first_txn the_table AccessShare ∷ mark.Sent the_coordinator 1 (is_done first_txn) ∷ [])
    ∷ step_at the_segment 3 (event.Receive the_coordinator the_segment 1) (mark.Wait the_segment first_txn the_table AccessShare ∷ []) ∷ []

-- DONE WHILE IT WAITS
-- Bert's block has locked the table and rolls back; to Anna's SELECT the coordinator grants it, and a segment that hasn't been told of his
-- end lets her wait. There her SELECT is done all the same.
abbrev pub done_while_waiting : Query → Snapshot → List Step
done_while_waiting query snapshot =
    step_at the_coordinator 1 (event.Start bert) (mark.Start first_txn bert ∷ mark.Answer bert 1 answer.Begin ∷ [])
    ∷ step_at the_coordinator 2 (event.Start bert)
    (mark.Hold the_coordinator first_txn the_table AccessExclusive ∷ mark.Sent the_segment 1 (order_of first_txn None (slice.Lock first_table AccessExclusive)) ∷ [])
    ∷ step_at the_segment 3 (event.Receive the_coordinator the_segment 1) (mark.Hold the_segment first_txn the_table AccessExclusive ∷ mark.Sent the_coordinator 1 (is_done first_txn) ∷ [])
    ∷ step_at the_coordinator 4 (event.Receive the_segment the_coordinator 1) (mark.Answer bert 2 answer.Locked ∷ [])
    ∷ step_at the_coordinator 5 (event.Start bert)
    (mark.Abort first_txn ∷ mark.Release the_coordinator first_txn the_table AccessExclusive ∷ mark.Answer bert 3 answer.Rollback ∷ mark.Sent the_segment 2 (message.Abort first_txn) ∷ [])
    ∷ step_at the_coordinator 6 (event.Start anna)
    (mark.Start second_txn anna ∷ mark.Hold the_coordinator second_txn the_table AccessShare ∷ mark.Snap second_txn first_cid snapshot
    ∷ mark.Sent the_segment 3 (order_of second_txn (Some snapshot) (slice.Select (on_first query))) ∷ [])
    ∷ step_at the_segment 7 (event.Receive the_coordinator the_segment 3) (mark.Wait the_segment second_txn the_table AccessShare ∷ mark.Sent the_coordinator 2 (is_done second_txn) ∷ []) ∷ []

-- A LOCK THAT IS TOO WEAK
abbrev pub one_change : Script → List Assign → Option Cond → Script
one_change script assigns cond = with_lines (record script { detector = false }) (line_of anna 1 (stmt.Update first_table assigns cond) ∷ [])

-- without a detector an UPDATE goes to a segment, where it makes these marks
abbrev pub change_runs : List Assign → Option Cond → Snapshot → List Mark → List Step
change_runs assigns cond snapshot marks =
    step_at the_coordinator 1 (event.Start anna)
    (mark.Start first_txn anna ∷ mark.Hold the_coordinator first_txn the_table Exclusive ∷ mark.Snap first_txn first_cid snapshot
    ∷ mark.Sent the_segment 1 (order_of first_txn (Some snapshot) (slice.Update first_table assigns cond)) ∷ [])
    ∷ step_at the_segment 2 (event.Receive the_coordinator the_segment 1) marks ∷ []

-- it is granted its table in ROW EXCLUSIVE
abbrev pub locks_too_little : List Assign → Option Cond → Snapshot → List Step
locks_too_little assigns cond snapshot = change_runs assigns cond snapshot (mark.Hold the_segment first_txn the_table RowExclusive ∷ [])

-- it is done, and when the EXEC comes once more it writes a row
abbrev pub writes_when_done : List Assign → Option Cond → Snapshot → Rid → Option (List Value) → List Step
writes_when_done assigns cond snapshot rid image =
    change_runs assigns cond snapshot (mark.Hold the_segment first_txn the_table Exclusive ∷ mark.Sent the_coordinator 1 (is_done first_txn) ∷ [])
    ++ step_at the_segment 3 (event.Receive the_coordinator the_segment 1) (mark.Write first_txn first_cid the_segment first_table rid image ∷ []) ∷ []

-- WHAT IT HAS NO NEED OF
-- it waits for the end of one that has written nothing there
abbrev pub waits_for_a_reader : List Assign → Option Cond → Snapshot → List Step
waits_for_a_reader assigns cond snapshot =
    change_runs assigns cond snapshot (mark.Hold the_segment first_txn the_table Exclusive ∷ mark.Wait the_segment first_txn (Transaction second_txn) Share ∷ [])

-- it locks itself before it writes
abbrev pub locks_itself_early : List Assign → Option Cond → Snapshot → List Step
locks_itself_early assigns cond snapshot =
    change_runs assigns cond snapshot (mark.Hold the_segment first_txn the_table Exclusive ∷ mark.Hold the_segment first_txn (Transaction first_txn) Exclusive ∷ [])

-- A ROW THAT IT HASN'T SELECTED
-- Anna's block changes rows, and Bert inserts some
abbrev pub change_and_insert : Script → List Assign → Option Cond → List (List Expr) → Script
change_and_insert script assigns cond tuples =
    with_lines (record script { detector = true })
    (line_of anna 1 (stmt.Begin ReadCommitted) ∷ line_of anna 2 (stmt.Update first_table assigns cond) ∷ line_of bert 1 (stmt.Insert first_table tuples) ∷ [])

-- Bert's INSERT writes a row, and then Anna's UPDATE goes to the segment, where it makes these marks behind those
abbrev pub insert_runs : List KeyedRow → List Value → Snapshot → List Step
insert_runs rows image snapshot =
    block_begins
    ∷ step_at the_coordinator 2 (event.Start bert)
    (mark.Start second_txn bert ∷ mark.Hold the_coordinator second_txn the_table RowExclusive ∷ mark.Snap second_txn first_cid snapshot
    ∷ mark.Sent the_segment 1 (order_of second_txn (Some snapshot) (slice.Insert first_table rows)) ∷ [])
    ∷ step_at the_segment 3 (event.Receive the_coordinator the_segment 1)
    (mark.Hold the_segment second_txn the_table RowExclusive ∷ mark.Write second_txn first_cid the_segment first_table (row_of second_txn) (Some image)
    ∷ mark.Hold the_segment second_txn (Transaction second_txn) Exclusive ∷ []) ∷ []

abbrev pub change_behind : ℕ → List Assign → Option Cond → Snapshot → List Mark → List Step
change_behind clock assigns cond snapshot marks =
    step_at the_coordinator clock (event.Start anna)
    (mark.Hold the_coordinator first_txn the_table RowExclusive ∷ mark.Snap first_txn first_cid snapshot
    ∷ mark.Sent the_segment 2 (order_of first_txn (Some snapshot) (slice.Update first_table assigns cond)) ∷ [])
    ∷ step_at the_segment (clock + 1) (event.Receive the_coordinator the_segment 2) marks ∷ []

-- it waits for Bert's end, whose row its snapshot doesn't show
abbrev pub waits_for_unselected : List KeyedRow → List Value → List Assign → Option Cond → Snapshot → List Step
waits_for_unselected rows image assigns cond snapshot =
    insert_runs rows image snapshot
    ++ change_behind 4 assigns cond snapshot (mark.Hold the_segment first_txn the_table RowExclusive ∷ mark.Wait the_segment first_txn (Transaction second_txn) Share ∷ [])

-- Bert's INSERT is done and commits, and the segment is told of his end
abbrev pub insert_ends : List KeyedRow → List Value → Snapshot → List Step
insert_ends rows image snapshot =
    insert_runs rows image snapshot
    ++ step_at the_coordinator 4 (event.Receive the_segment the_coordinator 1)
    (mark.Commit second_txn ∷ mark.Answer bert 1 (answer.Inserted 1) ∷ mark.Sent the_segment 3 (message.Forget second_txn) ∷ [])
    ∷ step_at the_segment 5 (event.Receive the_coordinator the_segment 3) (mark.Release the_segment second_txn (Transaction second_txn) Exclusive ∷ []) ∷ []

-- WHO HAS ENDED
-- There Anna's UPDATE, which sees his row, waits for him.
abbrev pub waits_for_the_ended : List KeyedRow → List Value → List Assign → Option Cond → Snapshot → List Step
waits_for_the_ended rows image assigns cond snapshot =
    insert_ends rows image snapshot
    ++ change_behind 6 assigns cond snapshot (mark.Hold the_segment first_txn the_table RowExclusive ∷ mark.Wait the_segment first_txn (Transaction second_txn) Share ∷ [])

-- THE ROW'S LOCK
-- then Bert changes rows too
abbrev pub two_changes : Script → List Assign → Option Cond → List (List Expr) → Script
two_changes script assigns cond tuples =
    with_lines (record script { detector = true })
    (line_of anna 1 (stmt.Begin ReadCommitted) ∷ line_of anna 2 (stmt.Update first_table assigns cond) ∷ line_of bert 1 (stmt.Insert first_table tuples)
    ∷ line_of bert 2 (stmt.Update first_table assigns cond) ∷ [])

-- His UPDATE writes his row once more. Anna's, which sees the row as it was inserted, waits there for his end without the row's lock, and so
-- past all who wait for that.
abbrev pub waits_without_lock : List KeyedRow → List Value → List Value → List Assign → Option Cond → Snapshot → Snapshot → List Step
waits_without_lock rows image changed assigns cond snapshot later =
    insert_ends rows image snapshot
    ++ step_at the_coordinator 6 (event.Start bert)
    (mark.Start third_txn bert ∷ mark.Hold the_coordinator third_txn the_table RowExclusive ∷ mark.Snap third_txn first_cid later
    ∷ mark.Sent the_segment 4 (order_of third_txn (Some later) (slice.Update first_table assigns cond)) ∷ [])
    ∷ step_at the_segment 7 (event.Receive the_coordinator the_segment 4)
    (mark.Hold the_segment third_txn the_table RowExclusive ∷ mark.Write third_txn first_cid the_segment first_table (row_of second_txn) (Some changed)
    ∷ mark.Hold the_segment third_txn (Transaction third_txn) Exclusive ∷ [])
    ∷ change_behind 8 assigns cond later (mark.Hold the_segment first_txn the_table RowExclusive ∷ mark.Wait the_segment first_txn (Transaction third_txn) Share ∷ [])
