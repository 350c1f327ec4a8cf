-- Small runs, and what their traces are.
use Rattle.std.specs.Prelude.{ℕ, pos, true, false, List, [], ◌∷◌, codes, Some, None, ◌++◌}
use Rattle.gx_ids.specs.declared.ids.Cid.{Cid}
use Rattle.gx_ids.specs.declared.ids.Gxid.{Gxid}
use Rattle.gx_ids.specs.declared.ids.Node.{Node}
use Rattle.gx_ids.specs.declared.ids.SessionId.{SessionId}
use Rattle.gx_ids.specs.declared.ids.Table.{Table}
use Rattle.gx_ids.specs.declared.rid.Rid.{Rid}
use Rattle.gx_modes.specs.declared.modes.Mode.TheVariants.{RowExclusive, Share, Exclusive}
use Rattle.gx_msg.specs.declared.message.Message.TheVariants as message
use Rattle.gx_script.specs.declared.Script.{Script}
use Rattle.gx_store.specs.Refusals.{the_coordinator}
use Rattle.gx_store.specs.declared.answer.StmtAnswer.TheVariants as answer
use Rattle.gx_store.specs.declared.event.Event.{Event}
use Rattle.gx_store.specs.declared.event.Event.TheVariants as event
use Rattle.gx_store.specs.declared.mark.Mark.{Mark}
use Rattle.gx_store.specs.declared.mark.Mark.TheVariants as mark
use Rattle.gx_store.specs.declared.run.Run.{Run}
use Rattle.gx_store.specs.declared.run.Step.{Step}
use Rattle.gx_tree.specs.declared.schema.Dist.TheVariants.{Randomly}
use Rattle.gx_tree.specs.declared.schema.Schema.{Schema}
use Rattle.gx_tree.specs.declared.value.Value.TheVariants.{Int, Text}
use Rattle.gx_waits.specs.declared.edge.Edge.{Edge}
use Rattle.gx_waits.specs.declared.graph.LocalGraph.{LocalGraph}
use Rattle.gx_waits.specs.declared.object.Object.TheVariants.{Relation, Tuple, Transaction}
use Rattle.gx_waits.specs.declared.verdict.Verdict.TheVariants.{Victims}

abbrev pub node_at : ℕ → Node
node_at n = record { 0 = n }

abbrev pub txn : ℕ → Gxid
txn n = record { 0 = n }

abbrev pub first_cid : Cid
first_cid = record { 0 = 1 }

abbrev pub first_session : SessionId
first_session = record { 0 = 0 }

abbrev pub first_table : Table
first_table = record { 0 = 0 }

-- the tuple of this number of the first INSERT
abbrev pub row_at : ℕ → Rid
row_at n = record { gxid = txn 1; cid = first_cid; ordinal = n }

abbrev pub a_table : Schema
a_table = record { name = codes "t"; columns = []; dist = Randomly }

abbrev pub a_script : Script
a_script = record { segments = 2; detector = true; tables = a_table ∷ []; sessions = codes "s1" ∷ []; lines = []; faults = []; groups = []; restarts = [] }

abbrev pub step_of : ℕ → Node → Event → List Mark → Step
step_of clock node event marks = record { stamp = record { clock = clock; node = node }; event = event; marks = marks }

-- a session begins a block and rolls it back
abbrev pub smallest_run : Run
smallest_run = record {
  steps =
      step_of 1 the_coordinator (event.Start first_session) (mark.Start (txn 1) first_session ∷ mark.Answer first_session 1 answer.Begin ∷ [])
      ∷ step_of 2 the_coordinator (event.Start first_session) (mark.Abort (txn 1) ∷ mark.Answer first_session 2 answer.Rollback ∷ [])
      ∷ [];
}

abbrev pub smallest_trace : List ℕ
smallest_trace = codes "run 2\n1.0 start s1\n  begin 1 s1\n  answer s1.1\n2.0 start s1\n  abort 1\n  answer s1.2\n"

abbrev pub edge_of : ℕ → ℕ → Edge
edge_of waiter holder = record { waiter = txn waiter; holder = txn holder; dotted = false }

abbrev pub dotted : Edge → Edge
dotted edge = record edge { dotted = true }

abbrev pub graph_of : ℕ → List Edge → LocalGraph
graph_of node edges = record { node = node_at node; edges = edges }

-- marks of every kind but those above and snapshots
abbrev pub many_marks : List Mark
many_marks =
    mark.Write (txn 1) first_cid (node_at 2) first_table (row_at 1) (Some (Int (pos 1) ∷ Text (codes "o'k") ∷ []))
    ∷ mark.Write (txn 1) first_cid (node_at 2) first_table (row_at 1) None
    ∷ mark.Skip (txn 3) first_cid (row_at 1)
    ∷ mark.Fault (txn 2) first_cid (row_at 2) (Some (Int (pos 2) ∷ Int (pos 7) ∷ []))
    ∷ mark.Commit (txn 1)
    ∷ mark.Hold (node_at 1) (txn 3) (Relation first_table) RowExclusive
    ∷ mark.Wait (node_at 1) (txn 3) (Tuple (row_at 1)) Exclusive
    ∷ mark.Release (node_at 1) (txn 3) (Transaction (txn 2)) Share
    ∷ mark.Prepared (node_at 1) (txn 2)
    ∷ mark.LocalCommit (node_at 1) (txn 2)
    ∷ mark.Decided (txn 2)
    ∷ mark.JournalFailed (node_at 2) (txn 1)
    ∷ mark.Sent (node_at 1) 4 (message.CommitPrepared (txn 2))
    ∷ mark.Report (node_at 1) 1 (graph_of 1 (dotted (edge_of 4 3) ∷ edge_of 4 3 ∷ edge_of 2 3 ∷ []))
    ∷ mark.Recheck 1 (graph_of 0 []) (Victims (txn 3 ∷ []))
    ∷ []

abbrev pub many_events_run : Run
many_events_run = record {
  steps =
      step_of 7 (node_at 2) (event.Receive the_coordinator (node_at 2) 4) many_marks
      ∷ step_of 8 (node_at 1) (event.Resume (node_at 1) (txn 3)) []
      ∷ step_of 9 the_coordinator (event.End first_session) []
      ∷ step_of 10 the_coordinator (event.Resend (node_at 1) (Some (txn 2))) []
      ∷ step_of 11 the_coordinator (event.Resend (node_at 1) None) []
      ∷ step_of 12 the_coordinator event.Round []
      ∷ [];
}

abbrev pub many_marks_lines : List ℕ
many_marks_lines =
    codes "  write 1 1 2 t 1.1.1 1|'o''k'\n  write 1 1 2 t 1.1.1 gone\n  skip 3 1 1.1.1\n  fault 2 1 1.1.2 2|7\n  commit 1\n"
    ++ codes "  hold 1 3 relation t 3\n  wait 1 3 tuple 1.1.1 7\n  release 1 3 transaction 2 5\n"
    ++ codes "  prepared 1 2\n  local 1 2\n  decided 2\n  journal 2 1\n  send 1 4 commit prepared 2\n"
    ++ codes "  report 1 1: 2>3 4>3 4>3~\n  report 0 1:\n  recheck 1: victims 3\n"

abbrev pub many_events_trace : List ℕ
many_events_trace =
    codes "run 6\n7.2 recv 0 2 4\n" ++ many_marks_lines ++ codes "8.1 resume 1 3\n9.0 end s1\n10.0 resend 1 2\n11.0 resend 1 round\n12.0 round\n"

-- edges that are stuck at the coordinator and at the second segment, in no order
abbrev pub stuck_graphs : List LocalGraph
stuck_graphs = graph_of 0 (edge_of 3 2 ∷ edge_of 2 3 ∷ []) ∷ graph_of 1 [] ∷ graph_of 2 (dotted (edge_of 4 3) ∷ edge_of 4 3 ∷ edge_of 4 2 ∷ []) ∷ []

abbrev pub stuck_graphs_lines : List ℕ
stuck_graphs_lines =
    codes "stopped: stuck\n  node 0: 2 waits for 3 solid\n  node 0: 3 waits for 2 solid\n"
    ++ codes "  node 2: 4 waits for 2 solid\n  node 2: 4 waits for 3 solid\n  node 2: 4 waits for 3 dotted\n"
