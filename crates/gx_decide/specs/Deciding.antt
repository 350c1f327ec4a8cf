-- What a slot's bytes say, what a decider knows, and why an open or a settle is refused.
use Rattle.std.specs.Prelude.{◌≢◌, ◌⊎◌, ⊤, ◌≡◌, ℕ, ◌+◌, ◌<◌, ◌≤◌, ◌↔◌, true, List, [], ◌∷◌, get_or}
use Rattle.std.specs.Int.{w64, from_le_bytes}
use Rattle.gx_decide.specs.declared.slot.Slot.{Slot}
use Rattle.gx_decide.specs.Disk.{Image}
use Rattle.gx_decide.specs.Log.{IsBlankBehind, IsEnd, IsSound, decision_of, gate_at, gxid_at, verdict_at}
use Rattle.gx_decide.specs.declared.decision.Decision.{Decision}
use Rattle.gx_decide.specs.declared.decide_fault.DecideFault.{DecideFault}
use Rattle.gx_decide.specs.declared.decide_fault.DecideFault.TheVariants.{Disk, Full, NotLog, OutOfMemory}

-- the slot is what these bytes say
pub record IsSlotOf (bytes : List ℕ) (slot : Slot) : Type 0 where
  pub gxid : slot.gxid ≡ from_le_bytes w64 (get_or bytes 0 0 ∷ get_or bytes 1 0 ∷ get_or bytes 2 0 ∷ get_or bytes 3 0 ∷ get_or bytes 4 0 ∷ get_or bytes 5 0 ∷ get_or bytes 6 0 ∷ get_or bytes 7 0 ∷ [])
  pub verdict : slot.verdict ≡ get_or bytes 8 0
  pub gate : slot.gate ≡ get_or bytes 9 0
  pub blank : (slot.is_blank ≡ true)
      ↔ ((get_or bytes 10 0 ≡ 0) × (get_or bytes 11 0 ≡ 0) × (get_or bytes 12 0 ≡ 0) × (get_or bytes 13 0 ≡ 0) × (get_or bytes 14 0 ≡ 0) × (get_or bytes 15 0 ≡ 0))

-- it is what an image has there
pub record IsSlot (image : Image) (place : ℕ) (slot : Slot) : Type 0 where
  pub gxid : slot.gxid ≡ gxid_at image place
  pub verdict : slot.verdict ≡ verdict_at image place
  pub gate : slot.gate ≡ gate_at image place
  pub blank : (slot.is_blank ≡ true) ↔ IsBlankBehind image place

-- the slot has a verdict, a transaction that has none yet, and zeros
pub record IsSoundSlot (slot : Slot) (decision : Decision) : Type 0 where
  pub verdict : (slot.verdict ≡ 1) ⊎ (slot.verdict ≡ 2)
  pub is : decision ≡ decision_of slot.verdict
  pub drawn : slot.gxid ≢ 0
  pub blank : slot.is_blank ≡ true

-- the slots before the end, and the gate there
pub record IsFront (slots : ℕ) (image : Image) (end shown : ℕ) : Type 0 where
  pub is_end : IsEnd slots image end
  pub sound : (slot : ℕ) → slot < end → IsSound image slot
  pub gate : end < slots → shown ≡ gate_at image end
  pub none : slots ≤ end → shown ≡ 0

-- the first slot that is bad, before the end
pub record IsBadFront (slots : ℕ) (image : Image) (bad : ℕ) : Type 0 where
  pub inside : bad < slots
  pub gates : (slot : ℕ) → slot < bad + 1 → gate_at image slot ≡ 1
  pub sound : (slot : ℕ) → slot < bad → IsSound image slot
  pub is : IsSound image bad → ⊥

-- the first slot that is open, behind the end
pub record IsBadBehind (slots : ℕ) (image : Image) (end bad : ℕ) : Type 0 where
  pub inside : bad < slots
  pub behind : end < bad
  pub is : gate_at image bad ≡ 1
  pub first : (slot : ℕ) → end < slot → slot < bad → gate_at image slot ≢ 1

-- why the slots before the end can't be read
abbrev pub IsFrontRefused : ℕ → Image → ℕ → ℕ → DecideFault → Type 0
IsFrontRefused slots image before now Disk = before < now
IsFrontRefused slots image before now (Full most) = ⊥
IsFrontRefused slots image before now (NotLog bad) = IsBadFront slots image bad
IsFrontRefused slots image before now OutOfMemory = ⊤

-- why those behind it can't be
abbrev pub IsBehindRefused : ℕ → Image → ℕ → ℕ → ℕ → DecideFault → Type 0
IsBehindRefused slots image end before now Disk = before < now
IsBehindRefused slots image end before now (Full most) = ⊥
IsBehindRefused slots image end before now (NotLog bad) = IsBadBehind slots image end bad
IsBehindRefused slots image end before now OutOfMemory = ⊥
