-- The text that shows answers, tables and steps, in the words of the text of a run and of its trace.
use Rattle.std.specs.Prelude.{ℕ, List, [], ◌∷◌, ◌++◌, length, map, codes}
use Rattle.std.specs.List.{flat_map}
use Rattle.std.specs.Fmt.{decimal}
use Rattle.gx_tree.specs.declared.row.KeyedRow.{KeyedRow}
use Rattle.gx_tree.specs.declared.schema.Schema.{Schema}
use Rattle.gx_tree.specs.declared.value.Value.{Value}
use Rattle.gx_meaning.specs.Aggregates.{cell_of}
use Rattle.gx_script.specs.declared.Script.{Script}
use Rattle.gx_report.specs.EventText.{event_text}
use Rattle.gx_report.specs.MarkText.{answered_text, mark_text}
use Rattle.gx_report.specs.Text.{line_text, row_line}
use Rattle.gx_report.specs.Words.{number_text, session_name, word_text, words_text}
use Rattle.gx_trace.specs.declared.seen.Seen.{Seen}
use Rattle.gx_trace.specs.declared.seen.SeenAnswer.{SeenAnswer}
use Rattle.gx_trace.specs.declared.seen.SeenMark.{SeenMark}
use Rattle.gx_trace.specs.declared.seen.SeenMark.TheVariants.{Whole, Sent, Answer}
use Rattle.gx_trace.specs.declared.seen.SeenStep.{SeenStep}

abbrev pub answer_line : Script → SeenAnswer → List ℕ
answer_line script seen = line_text (session_name script seen.session) seen.number seen.answer

abbrev pub row_of : KeyedRow → List Value
row_of row = row.row

-- a row of a table, without its identity
abbrev pub value_line : List Value → List ℕ
value_line row = row_line (map cell_of row)

abbrev pub rows_text : List ℕ → List (List Value) → List ℕ
rows_text name rows = codes "table " ++ name ++ codes " " ++ decimal (length rows) ++ codes "\n" ++ flat_map value_line rows

-- each table in the order of the script
abbrev pub tables_text : List Schema → List (List (List Value)) → List ℕ
tables_text [] tables = []
tables_text (s ∷ ss) [] = []
tables_text (s ∷ ss) (rows ∷ tables) = rows_text s.name rows ++ tables_text ss tables

-- a message stands there by its name and its numbers
abbrev pub seen_mark_text : Script → SeenMark → List ℕ
seen_mark_text script (Whole mark) = mark_text script mark
seen_mark_text script (Sent to number message) = words_text (codes "send") (to.0 ∷ number ∷ []) ++ word_text message
seen_mark_text script (Answer session number) = answered_text script session number

abbrev pub seen_mark_line : Script → SeenMark → List ℕ
seen_mark_line script mark = codes "  " ++ seen_mark_text script mark ++ codes "\n"

abbrev pub seen_event_line : Script → SeenStep → List ℕ
seen_event_line script step = decimal step.stamp.clock ++ codes "." ++ decimal step.stamp.node.0 ++ word_text (event_text script step.event) ++ codes "\n"

abbrev pub seen_step_lines : Script → SeenStep → List ℕ
seen_step_lines script step = seen_event_line script step ++ flat_map (seen_mark_line script) step.marks

abbrev pub seen_steps_text : Script → List SeenStep → List ℕ
seen_steps_text script steps = codes "run" ++ number_text (length steps) ++ codes "\n" ++ flat_map (seen_step_lines script) steps

-- the answers, the tables, and then the trace
abbrev pub shown_text : Script → Seen → List ℕ
shown_text script seen = flat_map (answer_line script) seen.answers ++ tables_text script.tables seen.tables ++ seen_steps_text script seen.steps
