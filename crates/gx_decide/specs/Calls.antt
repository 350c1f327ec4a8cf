-- The calls on the disk that an open and a settle make, in their order.
use Rattle.std.specs.Prelude.{◌≡◌, ◌⊎◌, ℕ, ◌+◌, ◌*◌, nat_lt, ◌==◌, ◌&&◌, not, List, [], ◌∷◌, ◌++◌, length, if◌then◌else◌}
use Rattle.std.specs.Int.{w64, to_le_bytes}
use Rattle.gx_decide.specs.declared.decision.Decision.{Decision}
use Rattle.gx_decide.specs.Disk.{Image, DiskState, Touched, Written, Stayed, Synced}
use Rattle.gx_decide.specs.Log.{byte_of, gate_at}

pub data Call : Type 0 where
  Sync : Call
  Write : (at : ℕ) → (bytes : List ℕ) → Call

-- the call was answered
abbrev pub IsDone : Call → DiskState → DiskState → Type 0
IsDone Sync old new = Synced old new
IsDone (Write at bytes) old new = Written at bytes old new

-- it failed, or there was a stop within it
abbrev pub IsBegun : Call → DiskState → DiskState → Type 0
IsBegun Sync old new = Stayed old new
IsBegun (Write at bytes) old new = Touched at (length bytes) old new

-- all calls were answered, one after the other
abbrev pub AreMade : List Call → DiskState → DiskState → Type 0
AreMade [] old new = new ≡ old
AreMade (call ∷ calls) old new = (mid : DiskState) × IsDone call old mid × AreMade calls mid new

-- some of them were, from the first on, and then one failed or there was a stop
abbrev pub AreMadePartly : List Call → DiskState → DiskState → Type 0
AreMadePartly [] old new = new ≡ old
AreMadePartly (call ∷ calls) old new = IsBegun call old new ⊎ ((mid : DiskState) × IsDone call old mid × AreMadePartly calls mid new)

-- a gate that is neither open nor shut is shut
abbrev pub shutting : ℕ → List Call
shutting slot = Write (16 * slot + 9) (0 ∷ []) ∷ Sync ∷ []

-- a sync, and then the gate at the end is shut where it isn't
abbrev pub opening : ℕ → Image → ℕ → List Call
opening slots image end = Sync ∷ (if nat_lt end slots && not (gate_at image end == 0) then shutting end else [])

-- the pair is on the disk before its gate is opened
abbrev pub settling : ℕ → ℕ → Decision → List Call
settling slot gxid decision =
    Write (16 * slot) (to_le_bytes w64 gxid ++ byte_of decision ∷ [])
    ∷ Sync
    ∷ Write (16 * slot + 9) (1 ∷ [])
    ∷ Sync
    ∷ []
