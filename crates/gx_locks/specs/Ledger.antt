-- What the ledger keeps of its slots.
use Rattle.std.specs.Prelude.{ℕ, ◌+◌, ◌<◌, ◌≤◌, ◌^◌, List, All, AllPairs, length}
use Rattle.gx_locks.specs.declared.slot.Slot.{Slot}

-- the numbers rise
abbrev pub AreRising : List Slot → Type 0
AreRising slots = AllPairs (λ earlier later. earlier.hold.number < later.hold.number) slots

-- the numbers are below this one
abbrev pub AreBelow : ℕ → List Slot → Type 0
AreBelow next slots = All (λ slot. slot.hold.number < next) slots

-- the numbers rise to the next one, and there is a slot and a number for each of the places
pub record IsLedger (slots : List Slot) (next places capacity : ℕ) : Type 0 where
  pub rising : AreRising slots
  pub below : AreBelow next slots
  pub room : length slots + places ≤ capacity
  pub numbers : next + places < 2 ^ 64
