-- What journals hold, and what an append makes of one.
use Rattle.std.specs.Prelude.{◌≡◌, ◌<◌, ◌≤◌, ◌⊎◌, ℕ, ◌++◌, ◌∷◌, [], Bool, true, false, List, All, Result, Ok, Err}
use Rattle.gx_outside.specs.declared.journal.AppendFault.{AppendFault}
use Rattle.gx_outside.specs.declared.journal.AppendFault.TheVariants.{Failed, OutOfMemory}

-- the items of a journal, the oldest first, and how often it has failed
pub record Shelf : Type 0 where
  pub items : List (List ℕ)
  pub faults : ℕ

-- the items are the same, or one stands behind them
abbrev pub IsAtMostOneMore : List (List ℕ) → List (List ℕ) → Type 0
IsAtMostOneMore before after = (after ≡ before) ⊎ ((item : List ℕ) × (after ≡ before ++ item ∷ []))

-- the count never falls, and at most one item is added
pub record IsLater (before after : Shelf) : Type 0 where
  pub faults : before.faults ≤ after.faults
  pub items : IsAtMostOneMore before.items after.items

-- these items stand behind the others; where an append failed, the count rose, and where none did, it is as before
pub record HasAdded (before after : Shelf) (added : List (List ℕ)) (failed : Bool) : Type 0 where
  pub items : after.items ≡ before.items ++ added
  pub later : IsLater before after
  pub caused : failed ≡ true → before.faults < after.faults
  pub calm : failed ≡ false → after.faults ≡ before.faults

-- no item was added, and no append failed
pub record HasKept (before after : Shelf) : Type 0 where
  pub items : after.items ≡ before.items
  pub later : IsLater before after
  pub calm : after.faults ≡ before.faults

-- by this answer the item was added, or none was, and a failure raised the count
abbrev pub IsAppended : Shelf → Shelf → List ℕ → Result (Unit {0}) AppendFault → Type 0
IsAppended before after item (Ok _) = HasAdded before after (item ∷ []) false
IsAppended before after item (Err Failed) = HasAdded before after [] true
IsAppended before after item (Err OutOfMemory) = HasKept before after

-- no journal holds an item
abbrev pub AreEmpty : List Shelf → Type 0
AreEmpty shelves = All (λ shelf. shelf.items ≡ []) shelves
