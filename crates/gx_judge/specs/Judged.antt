-- What the judge says of a script, and why.
use Rattle.std.specs.Prelude.{◌≡◌, ◌⊎◌, ℕ, ◌≤◌, List, [], length, map, Option, None, Some, Ok, codes}
use Rattle.std.specs.declared.string.String.{String}
use Rattle.std.specs.declared.alloc.Global.{Global}
use Rattle.gx_outside.specs.Causes.{Rose}
use Rattle.gx_outside.specs.Memory.{JournalState, shelf_of}
use Rattle.gx_words.specs.Asked.{AreGiven, IsTooMuch, limit}
use Rattle.gx_script.specs.declared.Script.{Script}
use Rattle.gx_store.specs.declared.run.Run.{Run}
use Rattle.gx_store.specs.declared.run.Step.{Step}
use Rattle.gx_store.specs.Runs.{IsLegalHistory}
use Rattle.gx_sql.specs.Script.{Reads}
use Rattle.gx_law_runs.specs.Reached.{IsReached}
use Rattle.gx_drive.specs.Ends.{IsEnd}
use Rattle.gx_drive.specs.Ordered.{AreFailuresFew, AreFirst}
use Rattle.gx_drive.specs.Seeded.{AreDrawn}
use Rattle.gx_drive.specs.declared.end.End.{End}
use Rattle.gx_judge.specs.Refusing.{AreUnknown, IsAsked, IsForSource, journals_below}
use Rattle.gx_judge.specs.Telling.{IsText}
use Rattle.gx_judge.specs.declared.asked.Asked.{Asked}
use Rattle.gx_judge.specs.declared.verdict.Verdict.{Verdict}
use Rattle.gx_judge.specs.declared.verdict.Verdict.TheVariants.{Legal, NotLegal, NoRun, OutOfMemory}

-- each event is the one among all that may happen then that the seed draws, or the first of these where no seed is given
abbrev pub AreDriven : Option ℕ → Script → List Step → Type 0
AreDriven None script steps = AreFirst script [] steps
AreDriven (Some seed) script steps = AreDrawn script seed [] steps

-- that a run is legal is said of one that is a legal history, and that it isn't of one that is none
abbrev pub IsSaid : Script → Run → Verdict → Type 0
IsSaid script run (Legal text) = IsLegalHistory script run
IsSaid script run (NotLegal text) = IsLegalHistory script run → ⊥
IsSaid script run NoRun = ⊥
IsSaid script run OutOfMemory = ⊥

-- what is told of the run before the verdict
abbrev pub text_in : Verdict → List ℕ
text_in (Legal text) = text.items
text_in (NotLegal text) = text.items
text_in NoRun = []
text_in OutOfMemory = []

-- So much is said of the run that the driver has made of the script, which came to its end: whole, stuck, or with all turns spent. No node has more marks
-- of a failed append in it than its journal, which was empty and had not failed before, has failed behind it; and what is told of it is the text.
pub record IsJudged (script : Script) (asked : Asked) (verdict : Verdict) : Type 0 where
  pub run : Run
  pub end : End
  pub journals : List JournalState
  pub reached : IsReached script run.steps
  pub driven : AreDriven asked.options.seed script run.steps
  pub ended : IsEnd script run.steps asked.options.turns end
  pub nodes : length journals ≡ 17
  pub failures : AreFailuresFew run.steps (map shelf_of (journals_below asked.refused 17)) (map shelf_of journals)
  pub said : IsSaid script run verdict
  pub told : IsText asked.refused asked.options script run end journals (text_in verdict)

-- of bytes that are read as a script its run is judged, and a run is judged of no other bytes
abbrev pub IsOfBytes : List ℕ → Asked → Verdict → Type 0
IsOfBytes bytes asked (Legal text) = (script : Script) × Reads bytes (Ok script) × IsJudged script asked (Legal text)
IsOfBytes bytes asked (NotLegal text) = (script : Script) × Reads bytes (Ok script) × IsJudged script asked (NotLegal text)
IsOfBytes bytes asked NoRun = (script : Script) → Reads bytes (Ok script) → ⊥
IsOfBytes bytes asked OutOfMemory = Unit {0}

-- the bytes that were given are a script of which this is so
pub record IsJudgedOf (words : List (String Global)) (left after : Option (List ℕ)) (verdict : Verdict) : Type 0 where
  pub asked : Asked
  pub words_ask : IsAsked words asked
  pub bytes : List ℕ
  pub given : AreGiven asked.options.work left after bytes
  pub few : length bytes ≤ limit
  pub is : IsOfBytes bytes asked verdict

-- There is no run where the words are not in the language, or the source was to be read and failed or had too many bytes, or the bytes
-- that were given are no script.
abbrev pub HasNoRun : List (String Global) → Option (List ℕ) → Option (List ℕ) → ℕ → ℕ → Type 0
HasNoRun words left after before now =
    AreUnknown words ⊎ (IsForSource words × Rose before now) ⊎ (IsForSource words × IsTooMuch left after) ⊎ IsJudgedOf words left after NoRun

-- what is said of what the words ask for
abbrev pub IsAnswered : List (String Global) → Option (List ℕ) → Option (List ℕ) → ℕ → ℕ → Verdict → Type 0
IsAnswered words left after before now (Legal text) = IsJudgedOf words left after (Legal text)
IsAnswered words left after before now (NotLegal text) = IsJudgedOf words left after (NotLegal text)
IsAnswered words left after before now NoRun = HasNoRun words left after before now
IsAnswered words left after before now OutOfMemory = now ≡ before

-- the verdict as it is printed
abbrev pub line_of : Verdict → List ℕ
line_of (Legal text) = codes "legal\n"
line_of (NotLegal text) = codes "not legal\n"
line_of NoRun = codes "no run\n"
line_of OutOfMemory = codes "out of memory\n"

-- and as a status
abbrev pub status_of : Verdict → ℕ
status_of (Legal text) = 0
status_of (NotLegal text) = 1
status_of NoRun = 3
status_of OutOfMemory = 6
