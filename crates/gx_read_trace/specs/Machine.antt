-- The machine that takes a run's printed text and trace, a line a step.
use Rattle.std.specs.Prelude.{ℕ, zero, suc, ◌==◌, if◌then◌else◌, List, [], ◌∷◌, ◌++◌, Option, Some, None, option_and_then, codes}
use Rattle.gx_report.specs.Words.{session_name}
use Rattle.gx_script.specs.declared.Script.{Script}
use Rattle.gx_store.specs.declared.answer.StmtAnswer.{StmtAnswer}
use Rattle.gx_store.specs.declared.answer.StmtAnswer.TheVariants as answer
use Rattle.gx_store.specs.declared.mark.Mark.TheVariants as mark
use Rattle.gx_tree.specs.declared.cell.Cell.{Cell}
use Rattle.gx_tree.specs.declared.schema.Schema.{Schema}
use Rattle.gx_tree.specs.declared.value.Value.{Value}
use Rattle.gx_waits.specs.declared.edge.Edge.{Edge}
use Rattle.gx_trace.specs.Fields.{count}
use Rattle.gx_trace.specs.Names.{session_of}
use Rattle.gx_trace.specs.Readers.{Front, behind, word}
use Rattle.gx_trace.specs.Shown.{all_places}
use Rattle.gx_trace.specs.declared.seen.Seen.{Seen}
use Rattle.gx_trace.specs.declared.seen.SeenMark.{SeenMark}
use Rattle.gx_trace.specs.declared.seen.SeenMark.TheVariants as seen
use Rattle.gx_trace.specs.declared.seen.SeenStep.{SeenStep}
use Rattle.gx_trace_lines.specs.Answers.{answer_head}
use Rattle.gx_trace_lines.specs.Cells.{out_row}
use Rattle.gx_trace_lines.specs.Events.{moment}
use Rattle.gx_trace_lines.specs.Marks.{mark_line, own_graph}
use Rattle.gx_trace_lines.specs.Tables.{table_head, table_row}
use Rattle.gx_trace_lines.specs.declared.events.Moment.{Moment}
use Rattle.gx_trace_lines.specs.declared.heads.AnswerHead.{AnswerHead}
use Rattle.gx_trace_lines.specs.declared.heads.AnswerHead.TheVariants.{Said, Rows}
use Rattle.gx_trace_lines.specs.declared.marks.MarkLine.{MarkLine}
use Rattle.gx_trace_lines.specs.declared.marks.MarkLine.TheVariants.{Alone, Own, Ended}

-- WHERE
-- what the next line is: the answer to the first of these lines, of a session and number; a row of one, with so many behind it; the first of these
-- tables, or the number of steps; a row of a table; an event, of so many; a mark or an event behind a step; the second line of a recheck
pub data Where : Type 0 where
  Answers : (places : List (ℕ × ℕ)) → Where
  AnswerRows : (place : ℕ × ℕ) (rows : List (List Cell)) (others : ℕ) (places : List (ℕ × ℕ)) → Where
  Tables : (schemas : List Schema) → Where
  TableRows : (schema : Schema) (rows : List (List Value)) (others : ℕ) (schemas : List Schema) → Where
  Steps : (left : ℕ) → Where
  Marks : (step : SeenStep) (left : ℕ) → Where
  Recheck : (step : SeenStep) (round : ℕ) (edges : List Edge) (left : ℕ) → Where

-- what has been read so far, and where
pub record Mid : Type 0 where
  pub so_far : Seen
  pub next : Where

-- WHOLE LINES
abbrev pub all_of : {A : Type 0} → Front A → Option A
all_of None = None
all_of (Some (a, [])) = Some a
all_of (Some (a, b ∷ bs)) = None

-- ANSWERS
abbrev pub behind_answers : Script → List (ℕ × ℕ) → Where
behind_answers script [] = Tables script.tables
behind_answers script (p ∷ ps) = Answers (p ∷ ps)

abbrev pub answered : Script → Seen → ℕ × ℕ → StmtAnswer → List (ℕ × ℕ) → Mid
answered script s p said ps = record {
  so_far = record { answers = s.answers ++ (record { session = session_of p.0; number = p.1; answer = said }) ∷ []; tables = s.tables; steps = s.steps };
  next = behind_answers script ps;
}

abbrev pub answer_begun : Script → Seen → ℕ × ℕ → List (ℕ × ℕ) → AnswerHead → Mid
answer_begun script s p ps (Said said) = answered script s p said ps
answer_begun script s p ps (Rows zero) = answered script s p (answer.Rows []) ps
answer_begun script s p ps (Rows (suc n)) = record { so_far = s; next = AnswerRows p [] n ps }

abbrev pub answer_row : Script → Seen → ℕ × ℕ → List (List Cell) → ℕ → List (ℕ × ℕ) → List Cell → Mid
answer_row script s p rows zero ps row = answered script s p (answer.Rows (rows ++ row ∷ [])) ps
answer_row script s p rows (suc n) ps row = record { so_far = s; next = AnswerRows p (rows ++ row ∷ []) n ps }

-- TABLES
abbrev pub listed : Seen → List (List Value) → List Schema → Mid
listed s rows ss = record { so_far = record { answers = s.answers; tables = s.tables ++ rows ∷ []; steps = s.steps }; next = Tables ss }

abbrev pub table_begun : Seen → Schema → List Schema → ℕ → Mid
table_begun s t ss zero = listed s [] ss
table_begun s t ss (suc n) = record { so_far = s; next = TableRows t [] n ss }

abbrev pub table_row_read : Seen → Schema → List (List Value) → ℕ → List Schema → List Value → Mid
table_row_read s t rows zero ss row = listed s (rows ++ row ∷ []) ss
table_row_read s t rows (suc n) ss row = record { so_far = s; next = TableRows t (rows ++ row ∷ []) n ss }

-- STEPS
abbrev pub stepped : Seen → SeenStep → Seen
stepped s step = record { answers = s.answers; tables = s.tables; steps = s.steps ++ step ∷ [] }

abbrev pub begun : Moment → SeenStep
begun at = record { stamp = at.stamp; event = at.event; marks = [] }

abbrev pub marked : SeenStep → SeenMark → SeenStep
marked step m = record { stamp = step.stamp; event = step.event; marks = step.marks ++ m ∷ [] }

-- an event, where one is still to come
abbrev pub event_read : Seen → ℕ → Moment → Option Mid
event_read s zero at = None
event_read s (suc n) at = Some (record { so_far = s; next = Marks (begun at) n })

abbrev pub mark_read : Seen → SeenStep → ℕ → MarkLine → Option Mid
mark_read s step n (Alone m) = Some (record { so_far = s; next = Marks (marked step m) n })
mark_read s step n (Own round edges) = Some (record { so_far = s; next = Recheck step round edges n })
mark_read s step n (Ended round verdict) = None

abbrev pub recheck_read : Seen → SeenStep → ℕ → List Edge → ℕ → MarkLine → Option Mid
recheck_read s step round edges n (Ended other verdict) =
    if other == round then Some (record { so_far = s; next = Marks (marked step (seen.Whole (mark.Recheck round (own_graph edges) verdict))) n }) else None
recheck_read s step round edges n _ = None

-- what begins with two blanks is a mark's line
abbrev pub step_line : Script → Seen → SeenStep → ℕ → List ℕ → Front (Unit {0}) → Option Mid
step_line script s step n line None = option_and_then (event_read (stepped s step) n) (all_of (moment script line))
step_line script s step n line (Some x) = option_and_then (mark_read s step n) (all_of (mark_line script x.1))

-- LINES
-- the state behind one more line, where a text may go on with it
abbrev pub next_line : Script → Seen → Where → List ℕ → Option Mid
next_line script s (Answers []) line = None
next_line script s (Answers (p ∷ ps)) line = option_and_then (λ h. Some (answer_begun script s p ps h)) (all_of (answer_head (session_name script (session_of p.0)) p.1 line))
next_line script s (AnswerRows p rows n ps) line = option_and_then (λ row. Some (answer_row script s p rows n ps row)) (all_of (out_row line))
next_line script s (Tables []) line = option_and_then (λ n. Some (record { so_far = s; next = Steps n })) (all_of (behind (codes "run") count line))
next_line script s (Tables (t ∷ ss)) line = option_and_then (λ n. Some (table_begun s t ss n)) (all_of (table_head t.name line))
next_line script s (TableRows t rows n ss) line = option_and_then (λ row. Some (table_row_read s t rows n ss row)) (all_of (table_row t.columns line))
next_line script s (Steps n) line = option_and_then (event_read s n) (all_of (moment script line))
next_line script s (Marks step n) line = step_line script s step n line (word (codes "  ") line)
next_line script s (Recheck step round edges n) line = option_and_then (recheck_read s step round edges n) (all_of (behind (codes "  ") (mark_line script) line))

abbrev pub start : Script → Mid
start script = record { so_far = record { answers = []; tables = []; steps = [] }; next = behind_answers script (all_places script.lines 0 script.sessions) }

abbrev pub run : Script → List (List ℕ) → Mid → Option Mid
run script [] m = Some m
run script (l ∷ ls) m = option_and_then (run script ls) (next_line script m.so_far m.next l)

-- what was read, where all is
abbrev pub ended : Seen → Where → Option Seen
ended s (Steps zero) = Some s
ended s (Marks step zero) = Some (stepped s step)
ended s _ = None
