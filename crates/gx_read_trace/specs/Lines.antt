-- The lines that show answers, tables and steps, each without its line feed.
use Rattle.std.specs.Prelude.{ℕ, List, [], ◌∷◌, ◌++◌, length, map, codes}
use Rattle.std.specs.List.{flat_map}
use Rattle.gx_report.specs.Words.{number_text, session_name}
use Rattle.gx_script.specs.declared.Script.{Script}
use Rattle.gx_store.specs.declared.answer.StmtAnswer.{StmtAnswer}
use Rattle.gx_store.specs.declared.answer.StmtAnswer.TheVariants as answer
use Rattle.gx_store.specs.declared.mark.Mark.TheVariants as mark
use Rattle.gx_tree.specs.declared.schema.Schema.{Schema}
use Rattle.gx_tree.specs.declared.value.Value.{Value}
use Rattle.gx_trace.specs.declared.seen.Seen.{Seen}
use Rattle.gx_trace.specs.declared.seen.SeenAnswer.{SeenAnswer}
use Rattle.gx_trace.specs.declared.seen.SeenMark.{SeenMark}
use Rattle.gx_trace.specs.declared.seen.SeenMark.TheVariants as seen
use Rattle.gx_trace.specs.declared.seen.SeenStep.{SeenStep}
use Rattle.gx_trace_lines.specs.Answers.{answer_head_text}
use Rattle.gx_trace_lines.specs.Cells.{out_row_text}
use Rattle.gx_trace_lines.specs.Events.{moment_text}
use Rattle.gx_trace_lines.specs.Marks.{mark_line_text}
use Rattle.gx_trace_lines.specs.Tables.{table_head_text, table_row_text}
use Rattle.gx_trace_lines.specs.declared.events.Moment.{Moment}
use Rattle.gx_trace_lines.specs.declared.heads.AnswerHead.TheVariants.{Said, Rows}
use Rattle.gx_trace_lines.specs.declared.marks.MarkLine.TheVariants.{Alone, Own, Ended}

-- a line with its line feed
abbrev pub fed_line : List ℕ → List ℕ
fed_line line = line ++ codes "\n"

abbrev pub fed : List (List ℕ) → List ℕ
fed lines = flat_map fed_line lines

abbrev pub lines_of_answer : List ℕ → ℕ → StmtAnswer → List (List ℕ)
lines_of_answer name number (answer.Rows rows) = answer_head_text name number (Rows (length rows)) ∷ map out_row_text rows
lines_of_answer name number said = answer_head_text name number (Said said) ∷ []

abbrev pub answer_lines : Script → SeenAnswer → List (List ℕ)
answer_lines script said = lines_of_answer (session_name script said.session) said.number said.answer

abbrev pub lines_of_table : List ℕ → List (List Value) → List (List ℕ)
lines_of_table name rows = table_head_text name (length rows) ∷ map table_row_text rows

abbrev pub lines_of_tables : List Schema → List (List (List Value)) → List (List ℕ)
lines_of_tables [] tables = []
lines_of_tables (s ∷ ss) [] = []
lines_of_tables (s ∷ ss) (rows ∷ tables) = lines_of_table s.name rows ++ lines_of_tables ss tables

abbrev pub blank_line : List ℕ → List ℕ
blank_line text = codes "  " ++ text

-- a recheck has two lines
abbrev pub mark_lines : Script → SeenMark → List (List ℕ)
mark_lines script (seen.Whole (mark.Recheck round own verdict)) = blank_line (mark_line_text script (Own round own.edges)) ∷ blank_line (mark_line_text script (Ended round verdict)) ∷ []
mark_lines script m = blank_line (mark_line_text script (Alone m)) ∷ []

abbrev pub moment_of_step : SeenStep → Moment
moment_of_step step = record { stamp = step.stamp; event = step.event }

abbrev pub step_lines : Script → SeenStep → List (List ℕ)
step_lines script step = moment_text script (moment_of_step step) ∷ flat_map (mark_lines script) step.marks

abbrev pub run_line : ℕ → List ℕ
run_line n = codes "run" ++ number_text n

abbrev pub seen_lines : Script → Seen → List (List ℕ)
seen_lines script s = flat_map (answer_lines script) s.answers ++ (lines_of_tables script.tables s.tables ++ (run_line (length s.steps) ∷ flat_map (step_lines script) s.steps))
