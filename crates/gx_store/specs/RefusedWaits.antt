-- Small runs whose locks are refused, or that answer LOCK TABLE too early.
use Rattle.std.specs.Prelude.{false, List, [], ◌∷◌, ◌++◌}
use Rattle.gx_ids.specs.declared.ids.Node.{Node}
use Rattle.gx_ids.specs.declared.ids.Table.{Table}
use Rattle.gx_tree.specs.declared.part.Part.TheVariants.{Rows}
use Rattle.gx_tree.specs.declared.query.Query.{Query}
use Rattle.gx_tree.specs.declared.stmt.Level.TheVariants.{ReadCommitted}
use Rattle.gx_tree.specs.declared.stmt.Stmt.TheVariants as stmt
use Rattle.gx_modes.specs.declared.modes.Mode.{Mode}
use Rattle.gx_modes.specs.declared.modes.Mode.TheVariants.{AccessShare}
use Rattle.gx_dsnap.specs.declared.snapshot.Snapshot.{Snapshot}
use Rattle.gx_msg.specs.declared.message.Message.TheVariants as message
use Rattle.gx_msg.specs.declared.reply.Reply.TheVariants as reply
use Rattle.gx_script.specs.declared.Script.{Script}
use Rattle.gx_waits.specs.declared.object.Object.TheVariants.{Relation}
use Rattle.gx_store.specs.declared.answer.Refused.TheVariants as refused
use Rattle.gx_store.specs.declared.answer.StmtAnswer.TheVariants as answer
use Rattle.gx_store.specs.declared.event.Event.TheVariants as event
use Rattle.gx_store.specs.declared.mark.Mark.{Mark}
use Rattle.gx_store.specs.declared.mark.Mark.TheVariants as mark
use Rattle.gx_store.specs.declared.run.Step.{Step}
use Rattle.gx_store.specs.RefusedParts.{anna, block_begins, first_cid, first_txn, line_of, other_segment, second_txn, step_at, the_segment, third_txn, with_lines, with_two}
use Rattle.gx_store.specs.Refusals.{the_coordinator}

abbrev pub first_table : Table
first_table = record { 0 = 0 }

-- a SELECT on that table
abbrev pub on_first : Query → Query
on_first query = record query { table = first_table }

abbrev pub one_query : Script → Query → Script
one_query script query = with_lines script (line_of anna 1 (stmt.Select (on_first query)) ∷ [])

-- A LOCK THAT IS GIVEN BACK BEFORE THE ANSWER
-- a SELECT that has its snapshot aborts, gives back its table, sends that to the segment, and is answered then
abbrev pub released_early : Snapshot → List Step
released_early snapshot =
    step_at the_coordinator 1 (event.Start anna) (mark.Start first_txn anna ∷ mark.Hold the_coordinator first_txn (Relation first_table) AccessShare ∷ mark.Snap first_txn first_cid snapshot ∷ [])
    ∷ step_at the_coordinator 2 (event.Receive the_segment the_coordinator 1)
    (mark.Abort first_txn ∷ mark.Release the_coordinator first_txn (Relation first_table) AccessShare
    ∷ mark.Sent the_segment 2 (message.Abort first_txn) ∷ mark.Answer anna 1 (answer.Refused refused.Overflow) ∷ []) ∷ []

-- A LOCK OVER ANOTHER
-- the first transaction holds the table at the segment in one mode, and the second is granted another there
abbrev pub granted_over : Mode → Mode → List Step
granted_over held wanted =
    step_at the_segment 1 (event.Receive the_coordinator the_segment 1) (mark.Hold the_segment first_txn (Relation first_table) held ∷ [])
    ∷ step_at the_segment 2 (event.Receive the_coordinator the_segment 2) (mark.Hold the_segment second_txn (Relation first_table) wanted ∷ []) ∷ []

-- A LOCK PAST THE QUEUE
-- at the segment the first transaction holds the table in one mode, and the second waits for it in another
abbrev pub held_and_awaited : Mode → Mode → List Step
held_and_awaited held awaited =
    step_at the_segment 1 (event.Receive the_coordinator the_segment 1) (mark.Hold the_segment first_txn (Relation first_table) held ∷ [])
    ∷ step_at the_segment 2 (event.Receive the_coordinator the_segment 2) (mark.Wait the_segment second_txn (Relation first_table) awaited ∷ []) ∷ []

-- a third, which holds nothing there, is granted it
abbrev pub granted_past : Mode → Mode → Mode → List Step
granted_past held awaited wanted =
    held_and_awaited held awaited ++ step_at the_segment 3 (event.Receive the_coordinator the_segment 3) (mark.Hold the_segment third_txn (Relation first_table) wanted ∷ []) ∷ []

-- the first, for which the second waits, waits for it in its turn
abbrev pub waits_behind_its_waiter : Mode → Mode → Mode → List Step
waits_behind_its_waiter held awaited wanted =
    held_and_awaited held awaited ++ step_at the_segment 3 (event.Receive the_coordinator the_segment 3) (mark.Wait the_segment first_txn (Relation first_table) wanted ∷ []) ∷ []

-- A LOCK THAT IS GIVEN BACK BEFORE THE END
-- a transaction that has neither committed nor aborted gives back its table
abbrev pub released_unended : Node → Mode → List Step
released_unended node mode =
    step_at node 1 (event.Receive the_coordinator node 1) (mark.Hold node first_txn (Relation first_table) mode ∷ [])
    ∷ step_at node 2 (event.Receive the_coordinator node 2) (mark.Release node first_txn (Relation first_table) mode ∷ []) ∷ []

-- LOCK TABLE THAT IS ANSWERED TOO EARLY
abbrev pub block_of_lock : Script → Mode → Script
block_of_lock script mode = with_two script (line_of anna 1 (stmt.Begin ReadCommitted) ∷ line_of anna 2 (stmt.Lock first_table mode) ∷ [])

abbrev pub locked_there : Mark
locked_there = mark.Sent the_coordinator 1 (message.Answer first_txn (reply.Done first_cid false 0 (Rows [])))

-- both segments say that they are done, and the second doesn't hold the table
abbrev pub locked_at_one : Mode → List Step
locked_at_one mode =
    block_begins
    ∷ step_at the_coordinator 2 (event.Start anna) (mark.Hold the_coordinator first_txn (Relation first_table) mode ∷ [])
    ∷ step_at the_segment 3 (event.Receive the_coordinator the_segment 1) (mark.Hold the_segment first_txn (Relation first_table) mode ∷ locked_there ∷ [])
    ∷ step_at other_segment 3 (event.Receive the_coordinator other_segment 1) (locked_there ∷ [])
    ∷ step_at the_coordinator 4 (event.Receive the_segment the_coordinator 1) []
    ∷ step_at the_coordinator 5 (event.Receive other_segment the_coordinator 1) (mark.Answer anna 2 answer.Locked ∷ []) ∷ []
