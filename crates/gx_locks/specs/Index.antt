-- What an index has under a key.
use Rattle.std.specs.Prelude.{◌≡◌, ◌≢◌, ◌<◌, ℕ, Bool, List, Option, Some, None, true, false, is_some, unwrap_or, slice_index_or, vec_len}
use Rattle.std.specs.HashMap.{get}
use Rattle.gx_locks.specs.declared.hold.Hold.{Hold}
use Rattle.gx_locks.specs.declared.key.Key.{Key}
use Rattle.gx_locks.specs.declared.key.Key.TheVariants.{On, Of}
use Rattle.gx_waits.specs.declared.object.Object.TheVariants.{Relation, Tuple, Transaction}
use Rattle.gx_locks.specs.declared.index.Index.{Index}
use Rattle.gx_locks.specs.contracts.key.KeyPartialEq.TheImpl as block
use Rattle.gx_locks.specs.Owners.{owner_in, holds_of, end_of, is_idle, is_spent}
use Rattle.gx_locks.specs.Rack.{Rack, no_shelf}

abbrev pub other_shelf_at : Index → Key → Rack
other_shelf_at index key = unwrap_or (get block.ghosts.eq index.others key) no_shelf

-- the key has a shelf
abbrev pub IsThere : Index → Key → Type 0
IsThere index (On (Relation table)) = table.0 < vec_len index.tables
IsThere index (On (Tuple rid)) = is_some (get block.ghosts.eq index.others (On (Tuple rid))) ≡ true
IsThere index (On (Transaction gxid)) = is_some (owner_in index.owners.items gxid) ≡ true
IsThere index (Of gxid) = is_some (owner_in index.owners.items gxid) ≡ true

-- the shelf of a key, empty where there is none
abbrev pub shelf_at : Index → Key → Rack
shelf_at index (On (Relation table)) = slice_index_or index.tables.items table.0 no_shelf
shelf_at index (On (Tuple rid)) = other_shelf_at index (On (Tuple rid))
shelf_at index (On (Transaction gxid)) = end_of (owner_in index.owners.items gxid)
shelf_at index (Of gxid) = holds_of (owner_in index.owners.items gxid)

abbrev pub holds_at : Index → Key → List Hold
holds_at index key = (shelf_at index key).holds

abbrev pub places_at : Index → Key → ℕ
places_at index key = (shelf_at index key).places

-- the key whose container has what stands under this one: a transaction's record has what it holds and who holds its end
abbrev pub keeper : Key → Key
keeper (On (Relation table)) = On (Relation table)
keeper (On (Tuple rid)) = On (Tuple rid)
keeper (On (Transaction gxid)) = Of gxid
keeper (Of gxid) = Of gxid

-- whether there is a shelf, and it is kept for nothing
abbrev pub is_idle_there : Option Rack → Bool
is_idle_there None = false
is_idle_there (Some rack) = is_idle rack

-- whether a row's shelf or a transaction's record is left in which nothing is held and nothing may come; a table's
-- shelf stays for good
abbrev pub is_left : Index → Key → Bool
is_left index (On (Relation table)) = false
is_left index (On (Tuple rid)) = is_idle_there (get block.ghosts.eq index.others (On (Tuple rid)))
is_left index (On (Transaction gxid)) = is_spent (owner_in index.owners.items gxid)
is_left index (Of gxid) = is_spent (owner_in index.owners.items gxid)

-- nothing is left
unfoldable pub IsTidy : Index → Type 0
IsTidy index = (k : Key) → is_left index k ≡ false

-- nothing is left but perhaps in this key's container
unfoldable pub IsTidyBut : Key → Index → Type 0
IsTidyBut place index = (k : Key) → keeper k ≢ place → is_left index k ≡ false

-- of what is kept for other keys the same is left
abbrev pub IsLeftElse : Key → Index → Index → Type 0
IsLeftElse key old new = (k : Key) → keeper k ≢ keeper key → is_left new k ≡ is_left old k
