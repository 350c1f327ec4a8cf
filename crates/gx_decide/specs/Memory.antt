-- A disk in memory, to those who call it.
use Rattle.std.specs.Prelude.{◌≡◌, ℕ, ◌+◌, ◌<◌, Bool, true, false, List, length, get_or}
use Rattle.gx_decide.specs.Disk.{DiskState, IsOutside}

-- the bytes, whether each is pending, the numbers of the calls that fail, how many calls there were and failed, and how far they reached
pub record MemState : Type 0 where
  pub bytes : List ℕ
  pub pending : List Bool
  pub fail : List ℕ
  pub calls : ℕ
  pub faults : ℕ
  pub reach : ℕ

abbrev pub state_of : MemState → DiskState
state_of disk = record { size = length disk.bytes; seen = λ place. get_or disk.bytes place 0; pending = λ place. get_or disk.pending place false }

-- a range is pending now, and elsewhere it is as before
pub record IsMarked (at n : ℕ) (old new : List Bool) : Type 0 where
  pub within : (k : ℕ) → k < n → get_or new (at + k) false ≡ true
  pub elsewhere : (place : ℕ) → IsOutside at n place → get_or new place false ≡ get_or old place false
