-- What the rest of the bytes is read as behind what was read.
use Rattle.std.specs.Prelude.{◌≡◌, ◌<◌, ℕ, zero, suc, List, [], ◌∷◌, ◌++◌, map, length, get_or, Option, Some, Result, Ok, Err}
use Rattle.std.specs.List.{range_with_len}
use Rattle.gx_ids.specs.declared.ids.SessionId.{SessionId}
use Rattle.gx_report.specs.Words.{session_name}
use Rattle.gx_script.specs.declared.Line.{Line}
use Rattle.gx_script.specs.declared.Script.{Script}
use Rattle.gx_store.specs.Language.{lines_in}
use Rattle.gx_store.specs.declared.answer.StmtAnswer.{StmtAnswer}
use Rattle.gx_store.specs.declared.answer.StmtAnswer.TheVariants as answer
use Rattle.gx_store.specs.declared.mark.Mark.TheVariants as mark
use Rattle.gx_tree.specs.declared.cell.Cell.{Cell}
use Rattle.gx_tree.specs.declared.schema.Schema.{Schema}
use Rattle.gx_tree.specs.declared.value.Value.{Value}
use Rattle.gx_waits.specs.declared.edge.Edge.{Edge}
use Rattle.gx_waits.specs.declared.verdict.Verdict.{Verdict}
use Rattle.gx_trace.specs.Shown.{IsShown}
use Rattle.gx_trace.specs.ShownText.{shown_text}
use Rattle.gx_trace.specs.declared.seen.Seen.{Seen}
use Rattle.gx_trace.specs.declared.seen.SeenAnswer.{SeenAnswer}
use Rattle.gx_trace.specs.declared.seen.SeenMark.{SeenMark}
use Rattle.gx_trace.specs.declared.seen.SeenMark.TheVariants as seen
use Rattle.gx_trace.specs.declared.seen.SeenStep.{SeenStep}
use Rattle.gx_trace_lines.specs.Marks.{own_graph}
use Rattle.gx_read_trace.specs.FirstBad.{IsFirstBad}
use Rattle.gx_read_trace.specs.Machine.{Answers, AnswerRows, Marks, Mid, Recheck, Steps, TableRows, Tables, answered, behind_answers, listed, marked, start, stepped}
use Rattle.gx_read_trace.specs.ReadText.{cut, read_lines}
use Rattle.gx_read_trace.specs.Rests.{Rest}
use Rattle.gx_read_trace.specs.declared.fault.TraceFault.{TraceFault}
use Rattle.gx_read_trace.specs.declared.fault.TraceFault.TheVariants.{NotATrace, OutOfMemory}

abbrev pub goes : Script → Rest → Option Mid → Result Seen ℕ
goes script rest o = read_lines script rest.taken (cut rest.left).0 (cut rest.left).1 o

-- The old rest, in the one state, is read as the new one is in the other; or reading stops at this line.
abbrev pub GoesOn : {A : Type 0} → Script → Rest → Mid → Rest → (A → Mid) → Result A TraceFault → Type 0
GoesOn script old from new to (Ok a) = goes script old (Some from) ≡ goes script new (Some (to a))
GoesOn script old from new to (Err (NotATrace n)) = goes script old (Some from) ≡ Err n
GoesOn script old from new to (Err OutOfMemory) = Unit {0}

-- ANSWERS
-- so many rows of an answer are still to come
abbrev pub at_rows : Script → Seen → ℕ × ℕ → List (List Cell) → ℕ → List (ℕ × ℕ) → Mid
at_rows script s p rows zero ps = answered script s p (answer.Rows rows) ps
at_rows script s p rows (suc n) ps = record { so_far = s; next = AnswerRows p rows n ps }

abbrev pub ReadsRows : ℕ → Rest → Rest → Result (List (List Cell)) TraceFault → Type 0
ReadsRows count old new result =
    (script : Script) (s : Seen) (p : ℕ × ℕ) (ps : List (ℕ × ℕ)) → GoesOn script old (at_rows script s p [] count ps) new (λ rows. answered script s p (answer.Rows rows) ps) result

abbrev pub at_answer : Seen → ℕ × ℕ → List (ℕ × ℕ) → Mid
at_answer s p ps = record { so_far = s; next = Answers (p ∷ ps) }

-- whichever session has this name
abbrev pub ReadsAnswer : List ℕ → ℕ → Rest → Rest → Result StmtAnswer TraceFault → Type 0
ReadsAnswer name number old new result =
    (script : Script) (s : Seen) (session : ℕ) (ps : List (ℕ × ℕ)) → session_name script (record { 0 = session }) ≡ name
    → GoesOn script old (at_answer s (session, number) ps) new (λ said. answered script s (session, number) said ps) result

abbrev pub at_answers : Script → List SeenAnswer → List (ℕ × ℕ) → Mid
at_answers script answers ps = record { so_far = record { answers = answers; tables = []; steps = [] }; next = behind_answers script ps }

-- so many lines of a session, from this one on
abbrev pub places_from : ℕ → ℕ → ℕ → List (ℕ × ℕ)
places_from session first count = map (λ number. (session, number)) (range_with_len first count)

abbrev pub AddsAnswers : SessionId → List ℕ → ℕ → Rest → List SeenAnswer → Rest → List SeenAnswer → Result (Unit {0}) TraceFault → Type 0
AddsAnswers session name count old answers new more result =
    (script : Script) (ps : List (ℕ × ℕ)) → session_name script session ≡ name
    → GoesOn script old (at_answers script answers (places_from session.0 1 count ++ ps)) new (λ _. at_answers script more ps) result

-- how many of the lines are of each of so many sessions
pub record AreCounts (sessions : ℕ) (lines : List Line) (counts : List ℕ) : Type 0 where
  pub all : length counts ≡ sessions
  pub each : (session : ℕ) → session < sessions → get_or counts session 0 ≡ lines_in session lines

-- TABLES
abbrev pub at_tables : List SeenAnswer → List (List (List Value)) → List Schema → Mid
at_tables answers tables schemas = record { so_far = record { answers = answers; tables = tables; steps = [] }; next = Tables schemas }

-- so many rows of a table are still to come
abbrev pub at_table_rows : Seen → Schema → List (List Value) → ℕ → List Schema → Mid
at_table_rows s t rows zero ss = listed s rows ss
at_table_rows s t rows (suc n) ss = record { so_far = s; next = TableRows t rows n ss }

abbrev pub at_table : Seen → Schema → List Schema → Mid
at_table s t ss = record { so_far = s; next = Tables (t ∷ ss) }

abbrev pub ReadsTable : Schema → Rest → Rest → Result (List (List Value)) TraceFault → Type 0
ReadsTable t old new result = (script : Script) (s : Seen) (ss : List Schema) → GoesOn script old (at_table s t ss) new (λ rows. listed s rows ss) result

abbrev pub ReadsAnswers : Script → Rest → Rest → Result (List SeenAnswer) TraceFault → Type 0
ReadsAnswers script old new result = GoesOn script old (start script) new (λ answers. at_tables answers [] script.tables) result

abbrev pub ReadsTables : Script → Rest → Rest → Result (List (List (List Value))) TraceFault → Type 0
ReadsTables script old new result =
    (answers : List SeenAnswer) → GoesOn script old (at_tables answers [] script.tables) new (λ tables. at_tables answers tables []) result

-- STEPS
abbrev pub at_marks : Seen → SeenStep → ℕ → Mid
at_marks s step n = record { so_far = s; next = Marks step n }

abbrev pub at_recheck : Seen → SeenStep → ℕ → List Edge → ℕ → Mid
at_recheck s step round edges n = record { so_far = s; next = Recheck step round edges n }

abbrev pub recheck_of : ℕ → List Edge → Verdict → SeenMark
recheck_of round edges verdict = seen.Whole (mark.Recheck round (own_graph edges) verdict)

abbrev pub ReadsVerdict : Script → ℕ → Rest → Rest → Result Verdict TraceFault → Type 0
ReadsVerdict script round old new result =
    (s : Seen) (step : SeenStep) (edges : List Edge) (n : ℕ) → GoesOn script old (at_recheck s step round edges n) new (λ verdict. at_marks s (marked step (recheck_of round edges verdict)) n) result

abbrev pub ReadsRecheck : Script → ℕ → List Edge → Rest → Rest → Result SeenMark TraceFault → Type 0
ReadsRecheck script round edges old new result = (s : Seen) (step : SeenStep) (n : ℕ) → GoesOn script old (at_recheck s step round edges n) new (λ m. at_marks s (marked step m) n) result

abbrev pub ReadsMark : Script → Rest → Rest → Result SeenMark TraceFault → Type 0
ReadsMark script old new result = (s : Seen) (step : SeenStep) (n : ℕ) → GoesOn script old (at_marks s step n) new (λ m. at_marks s (marked step m) n) result

abbrev pub with_marks : SeenStep → List SeenMark → SeenStep
with_marks step marks = record { stamp = step.stamp; event = step.event; marks = marks }

abbrev pub at_steps : Seen → ℕ → Mid
at_steps s n = record { so_far = s; next = Steps n }

-- behind the marks comes an event, or nothing
abbrev pub ReadsMarks : Script → Rest → Rest → Result (List SeenMark) TraceFault → Type 0
ReadsMarks script old new result =
    (s : Seen) (step : SeenStep) (n : ℕ) → GoesOn script old (at_marks s (with_marks step []) n) new (λ marks. at_steps (stepped s (with_marks step marks)) n) result

abbrev pub ReadsStep : Script → Rest → Rest → Result SeenStep TraceFault → Type 0
ReadsStep script old new result = (s : Seen) (n : ℕ) → GoesOn script old (at_steps s (suc n)) new (λ step. at_steps (stepped s step) n) result

abbrev pub with_steps : List SeenAnswer → List (List (List Value)) → List SeenStep → Seen
with_steps answers tables steps = record { answers = answers; tables = tables; steps = steps }

abbrev pub ReadsSteps : Script → Rest → Rest → Result (List SeenStep) TraceFault → Type 0
ReadsSteps script old new result =
    (answers : List SeenAnswer) (tables : List (List (List Value))) → GoesOn script old (at_tables answers tables []) new (λ steps. at_steps (with_steps answers tables steps) zero) result

-- THE WHOLE
-- as the bytes are read by the definition, unless memory ran out
abbrev pub IsReading : Result Seen TraceFault → Result Seen ℕ → Type 0
IsReading (Ok s) read = read ≡ Ok s
IsReading (Err (NotATrace n)) read = read ≡ Err n
IsReading (Err OutOfMemory) read = Unit {0}

-- the bytes are the text of what may be shown so; or this line is the first with which no text goes on
abbrev pub IsMeant : Script → List ℕ → Result Seen TraceFault → Type 0
IsMeant script bytes (Ok s) = IsShown script s × (bytes ≡ shown_text script s)
IsMeant script bytes (Err (NotATrace n)) = IsFirstBad script bytes n
IsMeant script bytes (Err OutOfMemory) = Unit {0}
