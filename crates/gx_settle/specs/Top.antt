-- What the top call answers, and when.
use Rattle.std.specs.Prelude.{◌≡◌, ⊤, ℕ, ◌<◌, ◌≤◌, List, [], ◌++◌, length, ◌⊎◌, codes}
use Rattle.std.specs.declared.option.Option.{Option}
use Rattle.std.specs.Fmt.{decimal}
use Rattle.std.specs.Io.KnownBytes.{Consumes, Appends, IsAtEnd}
use Rattle.gx_outside.specs.Causes.{Rose, WritesPrefix}
use Rattle.gx_decide.specs.declared.decide_fault.DecideFault.{DecideFault}
use Rattle.gx_decide.specs.declared.decide_fault.DecideFault.TheVariants as fault
use Rattle.gx_decide.specs.Disk.{DiskState}
use Rattle.gx_decide.specs.History.{Event}
use Rattle.gx_settle.specs.declared.attempt.Attempt.{Attempt}
use Rattle.gx_settle.specs.declared.attempt.Attempt.TheVariants.{Done, DiskFailed, Full, NotLog, Refused, ReadFault, TooLarge, OutOfMemory}
use Rattle.gx_settle.specs.declared.command.Command.{Command}
use Rattle.gx_settle.specs.Commands.{AreLinesOf, IsFirstOther, lines_of}
use Rattle.gx_settle.specs.Running.{IsPart, IsRun, IsStopped, text_of}

-- the most bytes of an input
abbrev pub limit : ℕ
limit = 16777216

-- the source was read to its end, and its lines are these commands
pub record IsRead (left after : Option (List ℕ)) (commands : List Command) : Type 0 where
  pub bytes : List ℕ
  pub taken : Consumes left after bytes
  pub ended : IsAtEnd after
  pub few : length bytes ≤ limit
  pub is : AreLinesOf (lines_of bytes) commands

-- all commands were run, and the text is that of their answers
pub record IsDone (left after : Option (List ℕ)) (old new : DiskState) (text : List ℕ) : Type 0 where
  pub commands : List Command
  pub read : IsRead left after commands
  pub events : List Event
  pub is : IsRun commands old new events
  pub told : text ≡ text_of events

-- commands were run up to one that this fault stopped, and the text is that of the answers and why it stopped
pub record IsCutBy (fault : DecideFault) (why : List ℕ) (left after : Option (List ℕ)) (old new : DiskState) (before now : ℕ) (text : List ℕ) : Type 0 where
  pub commands : List Command
  pub read : IsRead left after commands
  pub answers : List ℕ
  pub is : IsStopped fault commands old new before now answers
  pub told : text ≡ answers ++ why

abbrev pub IsDiskFault : Option (List ℕ) → Option (List ℕ) → DiskState → DiskState → ℕ → ℕ → List ℕ → Type 0
IsDiskFault left after old new before now text = IsCutBy fault.Disk (codes "disk fault\n") left after old new before now text

abbrev pub IsFullLog : Option (List ℕ) → Option (List ℕ) → DiskState → DiskState → ℕ → ℕ → List ℕ → Type 0
IsFullLog left after old new before now text = (most : ℕ) × IsCutBy (fault.Full most) (codes "full\n") left after old new before now text

abbrev pub IsNotLog : Option (List ℕ) → Option (List ℕ) → DiskState → DiskState → ℕ → ℕ → List ℕ → Type 0
IsNotLog left after old new before now text = (bad : ℕ) × IsCutBy (fault.NotLog bad) (codes "not a log\n") left after old new before now text

-- the bytes that were read have a line that is no command, nothing was run, and the text has the number of the first
pub record IsRefused (left after : Option (List ℕ)) (old new : DiskState) (text : List ℕ) : Type 0 where
  pub bytes : List ℕ
  pub taken : Consumes left after bytes
  pub ended : IsAtEnd after
  pub few : length bytes ≤ limit
  pub number : ℕ
  pub is : IsFirstOther (lines_of bytes) number
  pub same : new ≡ old
  pub told : text ≡ codes "refused line " ++ decimal number ++ codes "\n"

-- the source failed, nothing was run, and the text says so
pub record IsReadFault (before now : ℕ) (old new : DiskState) (text : List ℕ) : Type 0 where
  pub rose : Rose before now
  pub same : new ≡ old
  pub told : text ≡ codes "read fault\n"

-- more bytes came than an input may have, nothing was run, and the text says so
pub record IsTooLarge (left after : Option (List ℕ)) (old new : DiskState) (text : List ℕ) : Type 0 where
  pub bytes : List ℕ
  pub taken : Consumes left after bytes
  pub more : limit < length bytes
  pub same : new ≡ old
  pub told : text ≡ codes "too large\n"

-- commands were read, and run up to some
pub record IsBegun (left after : Option (List ℕ)) (old new : DiskState) : Type 0 where
  pub commands : List Command
  pub read : IsRead left after commands
  pub is : IsPart commands old new

-- nothing was run, or a part of what was read
abbrev pub IsLeft : Option (List ℕ) → Option (List ℕ) → DiskState → DiskState → Type 0
IsLeft left after old new = (new ≡ old) ⊎ IsBegun left after old new

-- the status that tells what the work came to
abbrev pub status_in : Attempt → ℕ
status_in (Done text) = 0
status_in (Refused text) = 3
status_in ReadFault = 4
status_in OutOfMemory = 6
status_in TooLarge = 9
status_in (DiskFailed text) = 13
status_in (Full text) = 14
status_in (NotLog text) = 15

-- the text that tells it; none where memory ran out
abbrev pub text_in : Attempt → List ℕ
text_in (Done text) = text.items
text_in (Refused text) = text.items
text_in ReadFault = codes "read fault\n"
text_in OutOfMemory = []
text_in TooLarge = codes "too large\n"
text_in (DiskFailed text) = text.items
text_in (Full text) = text.items
text_in (NotLog text) = text.items

-- a text of this kind was written
pub record IsWritten (IsText : List ℕ → Type 0) (written after : Option (List ℕ)) : Type 0 where
  pub text : List ℕ
  pub is : IsText text
  pub all : Appends written after text

-- the sink failed, and a part of the text that was due stands there, from its front
pub record IsCutShort (IsText : List ℕ → Type 0) (written after : Option (List ℕ)) (before now : ℕ) : Type 0 where
  pub text : List ℕ
  pub is : IsText text
  pub rose : Rose before now
  pub part : WritesPrefix written after text

-- a text was written, or it was a write fault and a part of the text from its front was
abbrev pub IsTold : ℕ → List ℕ → Option (List ℕ) → Option (List ℕ) → ℕ → ℕ → ℕ → Type 0
IsTold status text written after before now said = ((said ≡ status) × Appends written after text) ⊎ ((said ≡ 5) × (Rose before now × WritesPrefix written after text))

-- what the work came to was told: by its text, or by its status alone where memory ran out
abbrev pub IsToldOf : Attempt → Option (List ℕ) → Option (List ℕ) → ℕ → ℕ → ℕ → Type 0
IsToldOf OutOfMemory written after before now said = (said ≡ 6) × (after ≡ written)
IsToldOf attempt written after before now said = IsTold (status_in attempt) (text_in attempt) written after before now said

abbrev pub IsStatus : ℕ → Type 0
IsStatus n = ((((((((n ≡ 0) ⊎ (n ≡ 3)) ⊎ (n ≡ 4)) ⊎ (n ≡ 5)) ⊎ (n ≡ 6)) ⊎ (n ≡ 9)) ⊎ (n ≡ 13)) ⊎ (n ≡ 14)) ⊎ (n ≡ 15)

-- what was read and what became of the disk, before anything is written
pub record Work : Type 0 where
  pub left : Option (List ℕ)
  pub after : Option (List ℕ)
  pub reads_before : ℕ
  pub reads_now : ℕ
  pub old : DiskState
  pub new : DiskState
  pub faults_before : ℕ
  pub faults_now : ℕ

abbrev pub work : Option (List ℕ) → Option (List ℕ) → ℕ → ℕ → DiskState → DiskState → ℕ → ℕ → Work
work left after reads_before reads_now old new faults_before faults_now = record {
  left = left;
  after = after;
  reads_before = reads_before;
  reads_now = reads_now;
  old = old;
  new = new;
  faults_before = faults_before;
  faults_now = faults_now;
}

-- the texts that are due at the ends of the work
abbrev pub IsDoneOf : Work → List ℕ → Type 0
IsDoneOf w text = IsDone w.left w.after w.old w.new text

abbrev pub IsRefusedOf : Work → List ℕ → Type 0
IsRefusedOf w text = IsRefused w.left w.after w.old w.new text

abbrev pub IsReadFaultOf : Work → List ℕ → Type 0
IsReadFaultOf w text = IsReadFault w.reads_before w.reads_now w.old w.new text

abbrev pub IsTooLargeOf : Work → List ℕ → Type 0
IsTooLargeOf w text = IsTooLarge w.left w.after w.old w.new text

abbrev pub IsDiskFaultOf : Work → List ℕ → Type 0
IsDiskFaultOf w text = IsDiskFault w.left w.after w.old w.new w.faults_before w.faults_now text

abbrev pub IsFullLogOf : Work → List ℕ → Type 0
IsFullLogOf w text = IsFullLog w.left w.after w.old w.new w.faults_before w.faults_now text

abbrev pub IsNotLogOf : Work → List ℕ → Type 0
IsNotLogOf w text = IsNotLog w.left w.after w.old w.new w.faults_before w.faults_now text

-- the text that is due at some end
abbrev pub IsDue : Work → List ℕ → Type 0
IsDue w text = (((((IsDoneOf w text ⊎ IsRefusedOf w text) ⊎ IsReadFaultOf w text) ⊎ IsTooLargeOf w text) ⊎ IsDiskFaultOf w text) ⊎ IsFullLogOf w text) ⊎ IsNotLogOf w text

-- what the work came to is so
abbrev pub IsAttempt : Work → Attempt → Type 0
IsAttempt w (Done text) = IsDoneOf w text.items
IsAttempt w (Refused text) = IsRefusedOf w text.items
IsAttempt w ReadFault = IsReadFaultOf w (codes "read fault\n")
IsAttempt w TooLarge = IsTooLargeOf w (codes "too large\n")
IsAttempt w (DiskFailed text) = IsDiskFaultOf w text.items
IsAttempt w (Full text) = IsFullLogOf w text.items
IsAttempt w (NotLog text) = IsNotLogOf w text.items
IsAttempt w OutOfMemory = IsLeft w.left w.after w.old w.new

-- the work behind the reading: what commands came to
abbrev pub IsRan : List Command → DiskState → DiskState → ℕ → ℕ → Attempt → Type 0
IsRan commands old new before now (Done text) = (events : List Event) × IsRun commands old new events × (text.items ≡ text_of events)
IsRan commands old new before now (DiskFailed text) = (answers : List ℕ) × IsStopped fault.Disk commands old new before now answers × (text.items ≡ answers ++ codes "disk fault\n")
IsRan commands old new before now (Full text) = (most : ℕ) × (answers : List ℕ) × IsStopped (fault.Full most) commands old new before now answers × (text.items ≡ answers ++ codes "full\n")
IsRan commands old new before now (NotLog text) = (bad : ℕ) × (answers : List ℕ) × IsStopped (fault.NotLog bad) commands old new before now answers × (text.items ≡ answers ++ codes "not a log\n")
IsRan commands old new before now OutOfMemory = (new ≡ old) ⊎ IsPart commands old new
IsRan commands old new before now _ = ⊥

-- what is said of answers that a fault stopped
abbrev pub IsStoppedText : List ℕ → DecideFault → Attempt → Type 0
IsStoppedText answers fault.Disk (DiskFailed text) = text.items ≡ answers ++ codes "disk fault\n"
IsStoppedText answers (fault.Full most) (Full text) = text.items ≡ answers ++ codes "full\n"
IsStoppedText answers (fault.NotLog bad) (NotLog text) = text.items ≡ answers ++ codes "not a log\n"
IsStoppedText answers f OutOfMemory = ⊤
IsStoppedText answers f _ = ⊥

-- what is said of bytes whose line with this number is no command
abbrev pub IsRefusedFor : ℕ → Attempt → Type 0
IsRefusedFor number (Refused text) = text.items ≡ codes "refused line " ++ decimal number ++ codes "\n"
IsRefusedFor number OutOfMemory = ⊤
IsRefusedFor number _ = ⊥
