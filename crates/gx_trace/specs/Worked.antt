-- What two small runs show, and the text of each.
use Rattle.std.specs.Prelude.{ℕ, pos, negsuc, List, [], ◌∷◌, ◌++◌, codes, Some, None}
use Rattle.gx_tree.specs.declared.cell.Cell.TheVariants as cell
use Rattle.gx_tree.specs.declared.value.Value.TheVariants as value
use Rattle.gx_ids.specs.declared.ids.Node.{Node}
use Rattle.gx_script.specs.declared.Line.{Line}
use Rattle.gx_script.specs.declared.Script.{Script}
use Rattle.gx_tree.specs.declared.stmt.Level.TheVariants.{ReadCommitted}
use Rattle.gx_tree.specs.declared.stmt.Stmt.{Stmt}
use Rattle.gx_tree.specs.declared.stmt.Stmt.TheVariants as stmt
use Rattle.gx_store.specs.Refusals.{the_coordinator}
use Rattle.gx_store.specs.declared.answer.Refused.TheVariants as refused
use Rattle.gx_store.specs.declared.answer.StmtAnswer.{StmtAnswer}
use Rattle.gx_store.specs.declared.answer.StmtAnswer.TheVariants as answer
use Rattle.gx_store.specs.declared.event.Event.{Event}
use Rattle.gx_store.specs.declared.event.Event.TheVariants as event
use Rattle.gx_store.specs.declared.mark.Mark.TheVariants as mark
use Rattle.gx_report.specs.Worked.{a_script, edge_of, dotted, first_cid, first_session, first_table, graph_of, node_at, row_at, txn}
use Rattle.gx_waits.specs.declared.object.Object.TheVariants.{Relation, Tuple, Transaction}
use Rattle.gx_waits.specs.declared.verdict.Verdict.TheVariants.{Victims}
use Rattle.gx_modes.specs.declared.modes.Mode.TheVariants.{RowExclusive, Share, Exclusive}
use Rattle.gx_trace.specs.declared.seen.Seen.{Seen}
use Rattle.gx_trace.specs.declared.seen.SeenAnswer.{SeenAnswer}
use Rattle.gx_trace.specs.declared.seen.SeenMark.{SeenMark}
use Rattle.gx_trace.specs.declared.seen.SeenMark.TheVariants as seen
use Rattle.gx_trace.specs.declared.seen.SeenStep.{SeenStep}

abbrev pub answer_of : ℕ → StmtAnswer → SeenAnswer
answer_of number said = record { session = first_session; number = number; answer = said }

abbrev pub step_of : ℕ → Node → Event → List SeenMark → SeenStep
step_of clock node what marks = record { stamp = record { clock = clock; node = node }; event = what; marks = marks }

abbrev pub first_step : SeenStep
first_step = step_of 1 the_coordinator (event.Start first_session) (seen.Whole (mark.Start (txn 1) first_session) ∷ seen.Answer first_session 1 ∷ [])

abbrev pub second_step : SeenStep
second_step = step_of 2 the_coordinator (event.Start first_session) (seen.Whole (mark.Abort (txn 1)) ∷ seen.Answer first_session 2 ∷ [])

-- a session begins a block and rolls it back
abbrev pub small_seen : Seen
small_seen = record { answers = answer_of 1 answer.Begin ∷ answer_of 2 answer.Rollback ∷ []; tables = [] ∷ []; steps = first_step ∷ second_step ∷ [] }

abbrev pub line_of : ℕ → Stmt → Line
line_of number stmt = record { session = first_session; number = number; stmt = stmt }

-- BEGIN and ROLLBACK of one session, beside a table without columns
abbrev pub small_script : Script
small_script = record a_script { lines = line_of 1 (stmt.Begin ReadCommitted) ∷ line_of 2 stmt.Rollback ∷ [] }

abbrev pub small_text : List ℕ
small_text = codes "s1.1 BEGIN\ns1.2 ROLLBACK\ntable t 0\n"

abbrev pub many_marks : List SeenMark
many_marks =
    seen.Whole (mark.Write (txn 1) first_cid (node_at 2) first_table (row_at 1) (Some (value.Int (pos 1) ∷ value.Text (codes "o'k") ∷ [])))
    ∷ seen.Whole (mark.Fault (txn 2) first_cid (row_at 2) None)
    ∷ seen.Whole (mark.Hold (node_at 1) (txn 3) (Relation first_table) RowExclusive)
    ∷ seen.Whole (mark.Wait (node_at 1) (txn 3) (Tuple (row_at 1)) Exclusive)
    ∷ seen.Whole (mark.Release (node_at 1) (txn 3) (Transaction (txn 2)) Share)
    ∷ seen.Sent (node_at 1) 4 (codes "commit prepared 2")
    ∷ seen.Whole (mark.Report (node_at 1) 1 (graph_of 1 (edge_of 2 3 ∷ edge_of 4 3 ∷ dotted (edge_of 4 3) ∷ [])))
    ∷ seen.Whole (mark.Recheck 1 (graph_of 0 []) (Victims (txn 3 ∷ [])))
    ∷ []

abbrev pub many_marks_seen : Seen
many_marks_seen = record {
  answers =
      answer_of 1 (answer.Rows ((cell.Int (negsuc 4) ∷ cell.Text (codes "a|b") ∷ []) ∷ (cell.Null ∷ cell.Text [] ∷ []) ∷ []))
      ∷ answer_of 2 (answer.Inserted 2)
      ∷ answer_of 3 (answer.Refused (refused.Serialization (row_at 1) (txn 2)))
      ∷ [];
  tables = ((value.Int (pos 1) ∷ value.Text (codes "o'k") ∷ []) ∷ []) ∷ [];
  steps =
      step_of 7 (node_at 2) (event.Receive the_coordinator (node_at 2) 4) many_marks
      ∷ step_of 11 the_coordinator (event.Resend (node_at 1) None) []
      ∷ step_of 12 the_coordinator event.Round []
      ∷ [];
}

abbrev pub many_marks_lines : List ℕ
many_marks_lines =
    codes "  write 1 1 2 t 1.1.1 1|'o''k'\n  fault 2 1 1.1.2 gone\n"
    ++ codes "  hold 1 3 relation t 3\n  wait 1 3 tuple 1.1.1 7\n  release 1 3 transaction 2 5\n"
    ++ codes "  send 1 4 commit prepared 2\n  report 1 1: 2>3 4>3 4>3~\n  report 0 1:\n  recheck 1: victims 3\n"

abbrev pub many_marks_text : List ℕ
many_marks_text =
    codes "s1.1 SELECT 2\n  -5|'a|b'\n  null|''\ns1.2 INSERT 2\ns1.3 ERROR 1 serialization row 1.1.1 changed by 2\n"
    ++ codes "table t 1\n  1|'o''k'\n"
    ++ codes "run 3\n7.2 recv 0 2 4\n" ++ many_marks_lines ++ codes "11.0 resend 1 round\n12.0 round\n"
