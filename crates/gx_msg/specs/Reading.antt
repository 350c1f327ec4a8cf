-- Which bytes are a journal item, and where they stop being one.
use Rattle.std.specs.Prelude.{◌≡◌, ℕ, ◌^◌, ◌<◌, pos, negsuc, List, [], ◌∷◌, ◌++◌, length, Option, None, Some, Result, Ok, Err}
use Rattle.gx_tree.specs.declared.value.Value.{Value}
use Rattle.gx_tree.specs.declared.value.Value.TheVariants.{Int, Text}
use Rattle.gx_msg.specs.declared.item.ItemFault.{ItemFault}
use Rattle.gx_msg.specs.declared.item.ItemFault.TheVariants.{NotAnItem, OutOfMemory}
use Rattle.gx_msg.specs.declared.item.JournalItem.{JournalItem}
use Rattle.gx_msg.specs.declared.item.JournalItem.TheVariants.{Prepare, Commit, Finish, Decide, Abort, Forget}
use Rattle.gx_msg.specs.declared.item.Kept.{Kept}
use Rattle.gx_msg.specs.ItemBytes.{bytes_of_item}

-- P holds of each
abbrev pub Each : {A : Type 0} → (A → Type 0) → List A → Type 0
Each P [] = Unit {0}
Each P (x ∷ xs) = P x × Each P xs

-- a whole number of 64 bits, or a text
abbrev pub IsValue : Value → Type 0
IsValue (Int (pos n)) = n < 2 ^ 63
IsValue (Int (negsuc n)) = n < 2 ^ 63
IsValue (Text t) = Unit {0}

-- a row has a value
abbrev pub IsImage : Option (List Value) → Type 0
IsImage None = Unit {0}
IsImage (Some []) = ⊥
IsImage (Some (value ∷ values)) = IsValue value × Each IsValue values

-- the numbers have the sizes of their types
pub record IsKept (kept : Kept) : Type 0 where
  pub gxid : kept.rid.gxid.0 < 2 ^ 64
  pub cid : kept.rid.cid.0 < 2 ^ 32
  pub ordinal : kept.rid.ordinal < 2 ^ 32
  pub table : kept.table.0 < 2 ^ 8
  pub image : IsImage kept.image

-- the numbers have the sizes of their types
abbrev pub IsItem : JournalItem → Type 0
IsItem (Prepare gxid rows) = (gxid.0 < 2 ^ 64) × (length rows < 2 ^ 64) × Each IsKept rows
IsItem (Commit gxid rows) = (gxid.0 < 2 ^ 64) × (length rows < 2 ^ 64) × Each IsKept rows
IsItem (Finish gxid) = gxid.0 < 2 ^ 64
IsItem (Decide gxid) = gxid.0 < 2 ^ 64
IsItem (Abort gxid) = gxid.0 < 2 ^ 64
IsItem (Forget gxid) = gxid.0 < 2 ^ 64

-- an item's bytes begin so
pub record BeginsItem (front : List ℕ) : Type 0 where
  pub item : JournalItem
  pub rest : List ℕ
  pub is : IsItem item
  pub bytes : bytes_of_item item ≡ front ++ rest

-- no item's bytes go on so behind the front; and where nothing comes, the front is no item's bytes
abbrev pub EndsThere : List ℕ → List ℕ → Type 0
EndsThere front [] = (item : JournalItem) → IsItem item → front ≡ bytes_of_item item → ⊥
EndsThere front (b ∷ _) = BeginsItem (front ++ b ∷ []) → ⊥

-- the bytes before the place begin an item, and with what stands there nothing does
pub record IsFirstBad (bytes : List ℕ) (place : ℕ) : Type 0 where
  pub front : List ℕ
  pub rest : List ℕ
  pub parts : bytes ≡ front ++ rest
  pub at : length front ≡ place
  pub begins : BeginsItem front
  pub ends : EndsThere front rest

-- what a reading says of the bytes
abbrev pub IsVerdict : List ℕ → Result JournalItem ItemFault → Type 0
IsVerdict bytes (Ok item) = IsItem item × (bytes ≡ bytes_of_item item)
IsVerdict bytes (Err OutOfMemory) = Unit {0}
IsVerdict bytes (Err (NotAnItem place)) = IsFirstBad bytes place

-- the same answer, unless memory ran out
abbrev pub Says : Result JournalItem ItemFault → Result JournalItem ItemFault → Type 0
Says (Ok item) answer = answer ≡ Ok item
Says (Err OutOfMemory) answer = Unit {0}
Says (Err (NotAnItem place)) answer = answer ≡ Err (NotAnItem place)
