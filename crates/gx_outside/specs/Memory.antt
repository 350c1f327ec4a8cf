-- What the memory forms are, to those who call them.
use Rattle.std.specs.Prelude.{◌≡◌, ℕ, ◌+◌, ◌-◌, ◌^◌, ◌<◌, min, List, Contains, Result, Ok, Err}
use Rattle.gx_outside.specs.declared.journal.AppendFault.{AppendFault}
use Rattle.gx_outside.specs.declared.journal.AppendFault.TheVariants.{Failed, OutOfMemory}
use Rattle.gx_outside.specs.Shelves.{Shelf}

-- a source in memory: the bytes that are left, how many a read moves at most, the numbers of the reads that fail,
-- and how many reads there were and failed
pub record SourceState : Type 0 where
  pub left : List ℕ
  pub at_most : ℕ
  pub fail : List ℕ
  pub calls : ℕ
  pub faults : ℕ

-- a sink in memory: the bytes that were written, the room for more, and the rest as for a source
pub record SinkState : Type 0 where
  pub written : List ℕ
  pub room : ℕ
  pub at_most : ℕ
  pub fail : List ℕ
  pub calls : ℕ
  pub faults : ℕ

-- a journal in memory: its items, the numbers of the appends that fail, and how many there were and failed
pub record JournalState : Type 0 where
  pub items : List (List ℕ)
  pub fail : List ℕ
  pub calls : ℕ
  pub faults : ℕ

abbrev pub shelf_of : JournalState → Shelf
shelf_of j = record { items = j.items; faults = j.faults }

-- the next call has a number, and it is one of those that fail
abbrev pub IsFailingNext : ℕ → List ℕ → Type 0
IsFailingNext calls fail = (calls < 2 ^ 64 - 1) × Contains fail (calls + 1)

-- one more, up to the end of the type
abbrev pub one_more : ℕ → ℕ
one_more count = min (count + 1) (2 ^ 64 - 1)

-- the faults after a call that answered this
abbrev pub faults_after : {T E : Type 0} → ℕ → Result T E → ℕ
faults_after faults (Ok _) = faults
faults_after faults (Err _) = one_more faults

-- a call is counted, and so is a fault
pub record IsCounted {T E : Type 0} (calls calls' faults faults' : ℕ) (result : Result T E) : Type 0 where
  pub call : calls' ≡ one_more calls
  pub fault : faults' ≡ faults_after faults result

abbrev pub append_faults_after : ℕ → Result (Unit {0}) AppendFault → ℕ
append_faults_after faults (Ok _) = faults
append_faults_after faults (Err Failed) = faults + 1
append_faults_after faults (Err OutOfMemory) = faults

-- an append is counted, and so is a fault, but want of memory is none
pub record IsAppendCounted (calls calls' faults faults' : ℕ) (result : Result (Unit {0}) AppendFault) : Type 0 where
  pub call : calls' ≡ one_more calls
  pub fault : faults' ≡ append_faults_after faults result
