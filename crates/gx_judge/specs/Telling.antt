-- What is told of a run in which an append was refused.
use Rattle.std.specs.Prelude.{◌≡◌, ℕ, if◌then◌else◌, List, [], ◌++◌, length, Option, None, Some, codes}
use Rattle.std.specs.List.{flat_map}
use Rattle.std.specs.Fmt.{decimal}
use Rattle.std.specs.declared.vec.Vec.{Vec}
use Rattle.std.specs.declared.alloc.Global.{Global}
use Rattle.gx_outside.specs.Memory.{JournalState}
use Rattle.gx_tree.specs.declared.row.KeyedRow.{KeyedRow}
use Rattle.gx_words.specs.declared.options.Options.{Options}
use Rattle.gx_script.specs.declared.Script.{Script}
use Rattle.gx_store.specs.Points.{marks_of}
use Rattle.gx_store.specs.View.{AreFinalFrom}
use Rattle.gx_store.specs.declared.run.Run.{Run}
use Rattle.gx_report.specs.Stops.{stuck_lines, turns_spent}
use Rattle.gx_report.specs.Text.{answers_text, text_of}
use Rattle.gx_report.specs.TraceText.{trace_of}
use Rattle.gx_drive.specs.declared.end.End.{End}
use Rattle.gx_drive.specs.declared.end.End.TheVariants.{Done, Stuck, Turns}
use Rattle.gx_judge.specs.declared.asked.Append.{Append}

-- the text is that of the answers and of the tables as they are behind the run
pub record IsWholeText (script : Script) (run : Run) (text : List ℕ) : Type 0 where
  pub tables : List (Vec KeyedRow Global)
  pub all : length tables ≡ length script.tables
  pub final : AreFinalFrom 0 (marks_of run) tables
  pub told : text ≡ text_of script run tables

-- what is told of a run by how it ended: its answers and the tables, or its answers and why it stopped
abbrev pub IsEndText : Script → Run → End → List ℕ → Type 0
IsEndText script run Done text = IsWholeText script run text
IsEndText script run Turns text = text ≡ answers_text script run ++ turns_spent
IsEndText script run (Stuck graphs) text = text ≡ answers_text script run ++ stuck_lines graphs

abbrev pub faults_text : JournalState → List ℕ
faults_text journal = codes " " ++ decimal journal.faults

-- how often the journal of each node has failed
abbrev pub faults_line : List JournalState → List ℕ
faults_line journals = codes "failed appends:" ++ flat_map faults_text journals ++ codes "\n"

-- the run's own text, where it is asked for, and behind it how often the journals have failed
abbrev pub behind_end : Options → Script → Run → List JournalState → List ℕ
behind_end options script run journals = (if options.trace then trace_of script run else []) ++ faults_line journals

-- all that is told of a run
pub record IsToldText (options : Options) (script : Script) (run : Run) (end : End) (journals : List JournalState) (text : List ℕ) : Type 0 where
  pub front : List ℕ
  pub is : IsEndText script run end front
  pub told : text ≡ front ++ behind_end options script run journals

-- nothing is told of a run where no append is to be refused
abbrev pub IsText : Option Append → Options → Script → Run → End → List JournalState → List ℕ → Type 0
IsText None options script run end journals text = text ≡ []
IsText (Some append) options script run end journals text = IsToldText options script run end journals text
