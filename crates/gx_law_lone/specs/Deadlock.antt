-- A deadlock of two at the coordinator, and a round that is all that is left to choose. Of messages only those of the round stand here.
use Rattle.std.specs.Prelude.{ℕ, Bool, true, false, List, [], ◌∷◌, ◌++◌}
use Rattle.gx_ids.specs.declared.ids.Gxid.{Gxid}
use Rattle.gx_ids.specs.declared.ids.SessionId.{SessionId}
use Rattle.gx_ids.specs.declared.ids.Table.{Table}
use Rattle.gx_modes.specs.declared.modes.Mode.TheVariants.{Exclusive}
use Rattle.gx_msg.specs.declared.message.Message.TheVariants as message
use Rattle.gx_script.specs.declared.Line.{Line}
use Rattle.gx_script.specs.declared.Script.{Script}
use Rattle.gx_store.specs.RefusedParts.{anna, bert, first_txn, line_of, no_edges, second_txn, step_at, the_segment}
use Rattle.gx_store.specs.Refusals.{the_coordinator}
use Rattle.gx_store.specs.declared.answer.StmtAnswer.TheVariants as answer
use Rattle.gx_store.specs.declared.event.Event.{Event}
use Rattle.gx_store.specs.declared.event.Event.TheVariants as event
use Rattle.gx_store.specs.declared.mark.Mark.TheVariants as mark
use Rattle.gx_store.specs.declared.run.Step.{Step}
use Rattle.gx_tree.specs.declared.stmt.Level.TheVariants.{ReadCommitted}
use Rattle.gx_tree.specs.declared.stmt.Stmt.TheVariants as stmt
use Rattle.gx_waits.specs.declared.edge.Edge.{Edge}
use Rattle.gx_waits.specs.declared.graph.LocalGraph.{LocalGraph}
use Rattle.gx_waits.specs.declared.object.Object.TheVariants.{Relation}
use Rattle.gx_waits.specs.declared.verdict.Verdict.{Verdict}
use Rattle.gx_waits.specs.declared.verdict.Verdict.TheVariants.{Nothing, Victims}

abbrev pub one_table : Table
one_table = record { 0 = 0 }

abbrev pub other_table : Table
other_table = record { 0 = 1 }

-- in a block a session locks the one table, and then the other
abbrev pub locks_both : SessionId → Table → Table → List Line
locks_both session one other =
    line_of session 1 (stmt.Begin ReadCommitted) ∷ line_of session 2 (stmt.Lock one Exclusive) ∷ line_of session 3 (stmt.Lock other Exclusive) ∷ []

-- two sessions do so, each in the other's order, at one segment, with a detector
abbrev pub two_lockers : Script → List ℕ → List ℕ → Script
two_lockers script one other =
    record script { segments = 1; detector = true; sessions = one ∷ other ∷ []; lines = locks_both anna one_table other_table ++ locks_both bert other_table one_table; faults = [] }

-- its block begins, it has the one table, and it waits for the other
abbrev pub opens : ℕ → SessionId → Gxid → Step
opens clock session g = step_at the_coordinator clock (event.Start session) (mark.Start g session ∷ mark.Answer session 1 answer.Begin ∷ [])

abbrev pub has : ℕ → SessionId → Gxid → Table → Step
has clock session g table =
    step_at the_coordinator clock (event.Start session) (mark.Hold the_coordinator g (Relation table) Exclusive ∷ mark.Answer session 2 answer.Locked ∷ [])

abbrev pub wants : ℕ → SessionId → Gxid → Table → Step
wants clock session g table = step_at the_coordinator clock (event.Start session) (mark.Wait the_coordinator g (Relation table) Exclusive ∷ [])

-- so both wait for each other
abbrev pub deadlocked : List Step
deadlocked =
    opens 1 anna first_txn ∷ opens 2 bert second_txn ∷ has 3 anna first_txn one_table ∷ has 4 bert second_txn other_table
    ∷ wants 5 anna first_txn other_table ∷ wants 6 bert second_txn one_table ∷ []

-- THE ROUND
abbrev pub each_for_the_other : List Edge
each_for_the_other =
    record { waiter = first_txn; holder = second_txn; dotted = false } ∷ record { waiter = second_txn; holder = first_txn; dotted = false } ∷ []

abbrev pub own_graph : LocalGraph
own_graph = record { node = the_coordinator; edges = each_for_the_other }

abbrev pub begins : Step
begins = step_at the_coordinator 7 event.Round (mark.Sent the_segment 1 (message.Collect 1) ∷ [])

abbrev pub reports : Step
reports =
    step_at the_segment 8 (event.Receive the_coordinator the_segment 1)
    (mark.Report the_segment 1 (no_edges the_segment) ∷ mark.Sent the_coordinator 1 (message.Graph 1 (no_edges the_segment)) ∷ [])

abbrev pub decides : Verdict → Step
decides verdict = step_at the_coordinator 9 (event.Receive the_segment the_coordinator 1) (mark.Recheck 1 own_graph verdict ∷ [])

-- it begins where nothing else is left to choose, and comes to this
abbrev pub decided_as : Verdict → List Step
decided_as verdict = deadlocked ++ begins ∷ reports ∷ decides verdict ∷ []

-- it names the younger; or it finds nothing, although both wait
abbrev pub names_the_younger : List Step
names_the_younger = decided_as (Victims (second_txn ∷ []))

abbrev pub finds_nothing : List Step
finds_nothing = decided_as Nothing

-- nothing is held up
abbrev pub lets_all : List Step → Event → Bool
lets_all steps event = true
