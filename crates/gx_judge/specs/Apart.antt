-- What the judge says of a script that nodes apart have run, and why.
use Rattle.std.specs.Prelude.{◌≡◌, ◌⊎◌, ◌≤◌, ◌++◌, ℕ, Bool, true, false, if◌then◌else◌, List, [], length, map, Option, None, Some, Ok, codes}
use Rattle.std.specs.declared.string.String.{String}
use Rattle.std.specs.declared.alloc.Global.{Global}
use Rattle.std.specs.declared.vec.Vec.{Vec}
use Rattle.gx_outside.specs.Causes.{Rose}
use Rattle.gx_outside.specs.Shelves.{Shelf}
use Rattle.gx_tree.specs.declared.row.KeyedRow.{KeyedRow}
use Rattle.gx_words.specs.Asked.{AreAsked, AreGiven, IsTooMuch, limit}
use Rattle.gx_words.specs.declared.options.Options.{Options}
use Rattle.gx_script.specs.declared.Script.{Script}
use Rattle.gx_store.specs.Points.{marks_of}
use Rattle.gx_store.specs.View.{AreFinalFrom}
use Rattle.gx_store.specs.declared.run.Run.{Run}
use Rattle.gx_sql.specs.Script.{Reads}
use Rattle.gx_report.specs.Summary.{summary_of}
use Rattle.gx_report.specs.Text.{answers_text, text_of}
use Rattle.gx_report.specs.TraceText.{trace_of}
use Rattle.gx_apart.specs.Made.{IsMade}
use Rattle.gx_judge.specs.Judged.{IsSaid, text_in}
use Rattle.gx_judge.specs.declared.verdict.Verdict.{Verdict}
use Rattle.gx_judge.specs.declared.verdict.Verdict.TheVariants.{Legal, NotLegal, NoRun, OutOfMemory}

-- THE TEXT
-- the text of the answers and tables, or the line on generated work
abbrev pub text_by : Option ℕ → Script → Run → List (Vec KeyedRow Global) → List ℕ
text_by None script run tables = text_of script run tables
text_by (Some number) script run tables = summary_of number script run tables

-- with the tables as they are behind the run
pub record IsWholeBy (work : Option ℕ) (script : Script) (run : Run) (text : List ℕ) : Type 0 where
  pub tables : List (Vec KeyedRow Global)
  pub all : length tables ≡ length script.tables
  pub final : AreFinalFrom 0 (marks_of run) tables
  pub told : text ≡ text_by work script run tables

-- so it is told where the run is whole, and else its answers so far are
abbrev pub IsFront : Option ℕ → Script → Run → Bool → List ℕ → Type 0
IsFront work script run true text = IsWholeBy work script run text
IsFront work script run false text = text ≡ answers_text script run ++ codes "unfinished\n"

-- and behind that the run's trace, where it is asked for
pub record IsToldApart (options : Options) (script : Script) (run : Run) (is_whole : Bool) (text : List ℕ) : Type 0 where
  pub front : List ℕ
  pub is : IsFront options.work script run is_whole front
  pub told : text ≡ front ++ (if options.trace then trace_of script run else [])

-- THE VERDICT
-- So much is said of the run that nodes apart have made of the script, and it is told; in threads it is whole.
pub record IsJudgedApart (script : Script) (options : Options) (verdict : Verdict) : Type 0 where
  pub run : Run
  pub is_whole : Bool
  pub shelves : List Shelf
  pub made : IsMade script run.steps is_whole shelves
  pub threads : options.threads ≡ true → is_whole ≡ true
  pub said : IsSaid script run verdict
  pub told : IsToldApart options script run is_whole (text_in verdict)

-- a run is judged of bytes that are read as a script, and of no others
abbrev pub IsApartOfBytes : List ℕ → Options → Verdict → Type 0
IsApartOfBytes bytes options (Legal text) = (script : Script) × Reads bytes (Ok script) × IsJudgedApart script options (Legal text)
IsApartOfBytes bytes options (NotLegal text) = (script : Script) × Reads bytes (Ok script) × IsJudgedApart script options (NotLegal text)
IsApartOfBytes bytes options NoRun = (script : Script) → Reads bytes (Ok script) → ⊥
IsApartOfBytes bytes options OutOfMemory = Unit {0}

-- the words are those of `gx` and ask for no seed, since no driver of nodes apart has one
abbrev pub AreAskedApart : List (String Global) → Options → Type 0
AreAskedApart words options = AreAsked words options × (options.seed ≡ None)

-- and for no generated work
pub record IsReadApart (words : List (String Global)) : Type 0 where
  pub options : Options
  pub asked : AreAskedApart words options
  pub plain : options.work ≡ None

-- the bytes that were given are a script of which this is so
pub record IsApartOf (words : List (String Global)) (left after : Option (List ℕ)) (verdict : Verdict) : Type 0 where
  pub options : Options
  pub asked : AreAskedApart words options
  pub bytes : List ℕ
  pub given : AreGiven options.work left after bytes
  pub few : length bytes ≤ limit
  pub is : IsApartOfBytes bytes options verdict

-- There is no run where the words ask for none, or the source was to be read and failed or had too many bytes, or the bytes that were given
-- are no script.
abbrev pub HasNoRunApart : List (String Global) → Option (List ℕ) → Option (List ℕ) → ℕ → ℕ → Type 0
HasNoRunApart words left after before now =
    ((options : Options) → AreAskedApart words options → ⊥) ⊎ (IsReadApart words × Rose before now) ⊎ (IsReadApart words × IsTooMuch left after) ⊎ IsApartOf words left after NoRun

-- what is said of what the words ask for
abbrev pub IsAnsweredApart : List (String Global) → Option (List ℕ) → Option (List ℕ) → ℕ → ℕ → Verdict → Type 0
IsAnsweredApart words left after before now (Legal text) = IsApartOf words left after (Legal text)
IsAnsweredApart words left after before now (NotLegal text) = IsApartOf words left after (NotLegal text)
IsAnsweredApart words left after before now NoRun = HasNoRunApart words left after before now
IsAnsweredApart words left after before now OutOfMemory = now ≡ before
