-- What calls do to a disk, and what a stop may leave of it.
use Rattle.std.specs.Prelude.{◌≡◌, ◌⊎◌, ℕ, ◌+◌, ◌<◌, ◌≤◌, max, Bool, false, List, length, get_or, Result, OnErr}

-- the byte at each place
abbrev pub Image : Type 0
Image = ℕ → ℕ

-- how many bytes a disk has, what a read gives at each place, and the places where a stop may leave any byte
pub record DiskState : Type 0 where
  pub size : ℕ
  pub seen : Image
  pub pending : ℕ → Bool

-- a place before or behind a range of n bytes
abbrev pub IsOutside : ℕ → ℕ → ℕ → Type 0
IsOutside at n place = (place < at) ⊎ (at + n ≤ place)

-- a range may hold any bytes, and may be pending; elsewhere nothing has changed, and nothing more is pending
pub record Touched (at n : ℕ) (old new : DiskState) : Type 0 where
  pub size : new.size ≡ old.size
  pub seen : (place : ℕ) → IsOutside at n place → new.seen place ≡ old.seen place
  pub pending : (place : ℕ) → IsOutside at n place → old.pending place ≡ false → new.pending place ≡ false

-- the bytes stand at the place, and elsewhere nothing has changed
pub record Written (at : ℕ) (bytes : List ℕ) (old new : DiskState) : Type 0 where
  pub range : Touched at (length bytes) old new
  pub there : (k : ℕ) → k < length bytes → new.seen (at + k) ≡ get_or bytes k 0

-- a read gives what it gave, and nothing more is pending
pub record Stayed (old new : DiskState) : Type 0 where
  pub size : new.size ≡ old.size
  pub seen : (place : ℕ) → new.seen place ≡ old.seen place
  pub pending : (place : ℕ) → old.pending place ≡ false → new.pending place ≡ false

-- a read gives what it gave, and nothing is pending
pub record Synced (old new : DiskState) : Type 0 where
  pub size : new.size ≡ old.size
  pub seen : (place : ℕ) → new.seen place ≡ old.seen place
  pub durable : (place : ℕ) → new.pending place ≡ false

-- a stop leaves what was not pending, any bytes where it was, and nothing pending
pub record StopLeaves (old new : DiskState) : Type 0 where
  pub size : new.size ≡ old.size
  pub seen : (place : ℕ) → old.pending place ≡ false → new.seen place ≡ old.seen place
  pub durable : (place : ℕ) → new.pending place ≡ false

-- the bytes are those that a read gives from the place on
abbrev pub IsRead : Image → ℕ → List ℕ → Type 0
IsRead seen at bytes = (k : ℕ) → k < length bytes → get_or bytes k 0 ≡ seen (at + k)

-- the count of faults never falls, and a call fails only where it rose
pub record IsCaused {T E : Type 0} (before now : ℕ) (result : Result T E) : Type 0 where
  pub later : before ≤ now
  pub failed : OnErr result (before < now)

-- a disk's reach is a place behind which no read or write has asked for a byte; it grows to this end at most
abbrev pub ReachesTo : ℕ → ℕ → ℕ → Type 0
ReachesTo end before now = now ≤ max before end
