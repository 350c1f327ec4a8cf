-- What the slots of a disk mean. A slot has 16 bytes: a transaction in 8, the least first, its verdict, the gate, and six zeros.
use Rattle.std.specs.Prelude.{◌≡◌, ◌≢◌, ◌⊎◌, ℕ, zero, suc, ◌+◌, ◌*◌, ◌/◌, ◌<◌, ◌≤◌, ◌==◌, min, List, [], ◌∷◌, ◌++◌, Option, None, Some, if◌then◌else◌}
use Rattle.std.specs.Int.{w64, from_le_bytes}
use Rattle.gx_decide.specs.declared.decision.Decision.{Decision}
use Rattle.gx_decide.specs.declared.decision.Decision.TheVariants.{Commit, Abort}
use Rattle.gx_decide.specs.Disk.{Image}

-- as many slots as the bytes make, and 2 ^ 20 at most
abbrev pub slots_of : ℕ → ℕ
slots_of size = min (size / 16) 1048576

-- the eight bytes from a place on
abbrev pub eight_at : Image → ℕ → List ℕ
eight_at image at = image at ∷ image (at + 1) ∷ image (at + 2) ∷ image (at + 3) ∷ image (at + 4) ∷ image (at + 5) ∷ image (at + 6) ∷ image (at + 7) ∷ []

abbrev pub gxid_at : Image → ℕ → ℕ
gxid_at image slot = from_le_bytes w64 (eight_at image (16 * slot))

abbrev pub verdict_at : Image → ℕ → ℕ
verdict_at image slot = image (16 * slot + 8)

abbrev pub gate_at : Image → ℕ → ℕ
gate_at image slot = image (16 * slot + 9)

-- the six bytes behind the gate are zeros
abbrev pub IsBlankBehind : Image → ℕ → Type 0
IsBlankBehind image slot =
    (image (16 * slot + 10) ≡ 0) × (image (16 * slot + 11) ≡ 0) × (image (16 * slot + 12) ≡ 0)
    × (image (16 * slot + 13) ≡ 0) × (image (16 * slot + 14) ≡ 0) × (image (16 * slot + 15) ≡ 0)

-- a verdict's byte, and the verdict of a byte that is one
abbrev pub byte_of : Decision → ℕ
byte_of Commit = 1
byte_of Abort = 2

abbrev pub decision_of : ℕ → Decision
decision_of byte = if byte == 1 then Commit else Abort

-- a transaction with its verdict
pub record Pair : Type 0 where
  pub gxid : ℕ
  pub decision : Decision

abbrev pub pair_at : Image → ℕ → Pair
pair_at image slot = record { gxid = gxid_at image slot; decision = decision_of (verdict_at image slot) }

-- the pairs of the first slots, in their order
abbrev pub pairs_before : Image → ℕ → List Pair
pairs_before image zero = []
pairs_before image (suc slot) = pairs_before image slot ++ pair_at image slot ∷ []

-- the verdict that the pairs have for a transaction
abbrev pub verdict_in : List Pair → ℕ → Option Decision
verdict_in [] gxid = None
verdict_in (pair ∷ pairs) gxid = if pair.gxid == gxid then Some pair.decision else verdict_in pairs gxid

-- the end is the first slot whose gate isn't 1, or the place after the last where there is none
pub record IsEnd (slots : ℕ) (image : Image) (end : ℕ) : Type 0 where
  pub within : end ≤ slots
  pub gates : (slot : ℕ) → slot < end → gate_at image slot ≡ 1
  pub shut : end < slots → gate_at image end ≢ 1

-- a slot before the end that is as it must be: a verdict, a transaction that no earlier slot has, and zeros
pub record IsSound (image : Image) (slot : ℕ) : Type 0 where
  pub verdict : (verdict_at image slot ≡ 1) ⊎ (verdict_at image slot ≡ 2)
  pub drawn : gxid_at image slot ≢ 0
  pub fresh : (earlier : ℕ) → earlier < slot → gxid_at image earlier ≢ gxid_at image slot
  pub blank : IsBlankBehind image slot

-- a slot before the end is sound, and one behind it isn't open
pub record IsGood (image : Image) (end slot : ℕ) : Type 0 where
  pub before : slot < end → IsSound image slot
  pub behind : end < slot → gate_at image slot ≢ 1

-- no slot is bad
abbrev pub IsLog : ℕ → Image → ℕ → Type 0
IsLog slots image end = (slot : ℕ) → slot < slots → IsGood image end slot

-- the first slot that is bad
pub record IsFirstBad (slots : ℕ) (image : Image) (bad : ℕ) : Type 0 where
  pub end : ℕ
  pub is_end : IsEnd slots image end
  pub inside : bad < slots
  pub is : IsGood image end bad → ⊥
  pub first : (slot : ℕ) → slot < bad → IsGood image end slot
