-- The text of a run: its answers by session, and then its tables.
use Rattle.std.specs.Prelude.{ℕ, ◌+◌, ◌==◌, if◌then◌else◌, List, [], ◌∷◌, ◌++◌, length, map, codes}
use Rattle.std.specs.List.{flat_map}
use Rattle.std.specs.Fmt.{decimal, signed_decimal}
use Rattle.std.specs.declared.vec.Vec.{Vec}
use Rattle.std.specs.declared.alloc.Global.{Global}
use Rattle.gx_text.specs.Quoted.{quoted}
use Rattle.gx_tree.specs.declared.cell.Cell.{Cell}
use Rattle.gx_tree.specs.declared.cell.Cell.TheVariants.{Int, Text, Null}
use Rattle.gx_tree.specs.declared.row.KeyedRow.{KeyedRow}
use Rattle.gx_tree.specs.declared.schema.Schema.{Schema}
use Rattle.gx_script.specs.declared.Script.{Script}
use Rattle.gx_store.specs.declared.answer.StmtAnswer.{StmtAnswer}
use Rattle.gx_store.specs.declared.answer.StmtAnswer.TheVariants as answer
use Rattle.gx_store.specs.declared.mark.Mark.{Mark}
use Rattle.gx_store.specs.declared.mark.Mark.TheVariants.{Answer}
use Rattle.gx_store.specs.declared.run.Run.{Run}
use Rattle.gx_store.specs.declared.run.Step.{Step}
use Rattle.gx_meaning.specs.Aggregates.{cell_of}
use Rattle.gx_report.specs.Error.{error_text}

abbrev pub cell_text : Cell → List ℕ
cell_text (Int z) = signed_decimal z
cell_text (Text t) = quoted t
cell_text Null = codes "null"

abbrev pub behind_bar : Cell → List ℕ
behind_bar c = codes "|" ++ cell_text c

-- the cells with bars between
abbrev pub cells_text : List Cell → List ℕ
cells_text [] = []
cells_text (c ∷ cs) = cell_text c ++ flat_map behind_bar cs

abbrev pub row_line : List Cell → List ℕ
row_line cells = codes "  " ++ cells_text cells ++ codes "\n"

-- a statement's name and the number of its rows
abbrev pub counted_text : List ℕ → ℕ → List ℕ
counted_text name n = name ++ decimal n ++ codes "\n"

abbrev pub answer_text : StmtAnswer → List ℕ
answer_text answer.Begin = codes "BEGIN\n"
answer_text answer.Commit = codes "COMMIT\n"
answer_text answer.Rollback = codes "ROLLBACK\n"
answer_text answer.Locked = codes "LOCK TABLE\n"
answer_text (answer.Inserted n) = counted_text (codes "INSERT ") n
answer_text (answer.Updated n) = counted_text (codes "UPDATE ") n
answer_text (answer.Deleted n) = counted_text (codes "DELETE ") n
answer_text (answer.Rows rows) = counted_text (codes "SELECT ") (length rows) ++ flat_map row_line rows
answer_text (answer.Refused refused) = error_text refused

-- an answer behind its line's session and number
abbrev pub line_text : List ℕ → ℕ → StmtAnswer → List ℕ
line_text name number said = name ++ codes "." ++ decimal number ++ codes " " ++ answer_text said

-- the answers of the session of this place and name; other marks have no text
abbrev pub mark_text : ℕ → List ℕ → Mark → List ℕ
mark_text session name (Answer s number said) = if s.0 == session then line_text name number said else []
mark_text session name _ = []

abbrev pub step_text : ℕ → List ℕ → Step → List ℕ
step_text session name step = flat_map (mark_text session name) step.marks

abbrev pub session_text : ℕ → List ℕ → List Step → List ℕ
session_text session name steps = flat_map (step_text session name) steps

-- the answers of each session, from the one of this place on
abbrev pub sessions_text : List Step → ℕ → List (List ℕ) → List ℕ
sessions_text steps session [] = []
sessions_text steps session (name ∷ names) = session_text session name steps ++ sessions_text steps (session + 1) names

-- a row of a table
abbrev pub keyed_line : KeyedRow → List ℕ
keyed_line row = row_line (map cell_of row.row)

abbrev pub table_text : List ℕ → List KeyedRow → List ℕ
table_text name rows = codes "table " ++ name ++ codes " " ++ decimal (length rows) ++ codes "\n" ++ flat_map keyed_line rows

-- each table in the order of the script
abbrev pub tables_text : List Schema → List (Vec KeyedRow Global) → List ℕ
tables_text [] tables = []
tables_text (s ∷ ss) [] = []
tables_text (s ∷ ss) (rows ∷ tables) = table_text s.name rows.items ++ tables_text ss tables

-- the answers so far, by session
abbrev pub answers_text : Script → Run → List ℕ
answers_text script run = sessions_text run.steps 0 script.sessions

-- the text of a run that ended with these tables
abbrev pub text_of : Script → Run → List (Vec KeyedRow Global) → List ℕ
text_of script run tables = answers_text script run ++ tables_text script.tables tables
