-- How each end of the work is told.
use Rattle.std.specs.Prelude.{◌≡◌, ◌⊎◌, ℕ, Bool, true, false, List, [], codes}
use Rattle.std.specs.declared.option.Option.{Option}
use Rattle.std.specs.Io.KnownBytes.{Appends}
use Rattle.gx_outside.specs.Causes.{Rose, WritesPrefix}
use Rattle.gx_store.specs.declared.run.Run.{Run}
use Rattle.gx_store.specs.declared.attempt.Attempt.{Attempt}
use Rattle.gx_store.specs.declared.attempt.Attempt.TheVariants.{Done, Stopped, Stuck, Usage, Refused, ReadFault, TooLarge, OutOfMemory}
use Rattle.gx_store.specs.declared.told.Report.{Report}

-- the line that says how the program is used
abbrev pub usage : List ℕ
usage = codes "usage: gx [--seed N] [--threads] [--trace] [--turns N] [--gen N]\n"

abbrev pub no_run : Run
no_run = record { steps = [] }

-- its run; nothing was run where there is none
abbrev pub run_in : Attempt → Run
run_in (Done run text) = run
run_in (Stopped run text) = run
run_in (Stuck run text) = run
run_in (OutOfMemory run) = run
run_in _ = no_run

-- the status that tells it
abbrev pub status_in : Attempt → ℕ
status_in (Done run text) = 0
status_in (Stopped run text) = 7
status_in (Stuck run text) = 8
status_in Usage = 2
status_in (Refused text) = 3
status_in ReadFault = 4
status_in TooLarge = 9
status_in (OutOfMemory run) = 6

-- the text that tells it; none where memory ran out
abbrev pub text_in : Attempt → List ℕ
text_in (Done run text) = text.items
text_in (Stopped run text) = text.items
text_in (Stuck run text) = text.items
text_in (Refused text) = text.items
text_in Usage = usage
text_in ReadFault = codes "read fault\n"
text_in TooLarge = codes "too large\n"
text_in (OutOfMemory run) = []

-- it came to an end, or else memory ran out
abbrev pub is_over : Attempt → Bool
is_over (OutOfMemory run) = false
is_over _ = true

-- a text was written, or it was a write fault and a part of the text from its front was
pub record IsTold (status : ℕ) (run : Run) (text : List ℕ) (written after : Option (List ℕ)) (before now : ℕ) (report : Report) : Type 0 where
  pub same : report.run ≡ run
  pub ended : ((report.status ≡ status) × Appends written after text) ⊎ ((report.status ≡ 5) × (Rose before now × WritesPrefix written after text))

-- what the work came to was told: by its text, or by its status alone where memory ran out, and then nothing was written and no write failed
abbrev pub IsToldOf : Attempt → Option (List ℕ) → Option (List ℕ) → ℕ → ℕ → Report → Type 0
IsToldOf (OutOfMemory run) written after before now report = (report.status ≡ 6) × (report.run ≡ run) × (after ≡ written) × (now ≡ before)
IsToldOf attempt written after before now report = IsTold (status_in attempt) (run_in attempt) (text_in attempt) written after before now report
