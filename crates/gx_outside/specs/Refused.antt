-- What no append of a journal is.
use Rattle.std.specs.Prelude.{◌≡◌, ◌<◌, ◌∷◌, false, ℕ, List, [], Err}
use Rattle.gx_outside.specs.Shelves.{Shelf, HasAdded, IsAppended}
use Rattle.gx_outside.specs.declared.journal.AppendFault.TheVariants.{Failed, OutOfMemory}

-- a failure that leaves the count as it was
pub record HasFailedUncounted (before after : Shelf) (item : List ℕ) : Type 0 where
  pub answered : IsAppended before after item (Err Failed)
  pub same : after.faults ≡ before.faults

-- an append that failed and was then tried again, and is told as if none had failed
pub record HasFailedUntold (before after : Shelf) (item : List ℕ) : Type 0 where
  pub told : HasAdded before after (item ∷ []) false
  pub rose : before.faults < after.faults

-- a failure that is told as want of memory
pub record HasFailedForMemory (before after : Shelf) (item : List ℕ) : Type 0 where
  pub answered : IsAppended before after item (Err OutOfMemory)
  pub rose : before.faults < after.faults
