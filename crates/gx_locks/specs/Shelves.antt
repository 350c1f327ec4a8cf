-- What an index ends as once a borrow of a shelf has ended.
use Rattle.std.specs.Prelude.{◌≡◌, ◌≢◌, Option, OnSome}
use Rattle.std.specs.Borrow.{LendsSo, MutBor, Fml}
use Rattle.gx_locks.specs.declared.index.Index.{Index}
use Rattle.gx_locks.specs.declared.key.Key.{Key}
use Rattle.gx_locks.specs.contracts.index.Index.{the_row}
use Rattle.gx_locks.specs.contracts.shelf.Shelf as shelf
use Rattle.gx_locks.specs.Index.{IsLeftElse, shelf_at}
use Rattle.gx_locks.specs.Rack.{Rack}

-- the key has this shelf, and each other key the one that it had, and no more is left of these
pub record IsWritten (key : Key) (old : Index) (rack : Rack) (new : Index) : Type 0 where
  pub there : shelf_at new key ≡ rack
  pub elsewhere : (k : Key) → k ≢ key → shelf_at new k ≡ shelf_at old k
  pub left : IsLeftElse key old new

abbrev pub LendsShelf : MutBor Index → Key → Option (MutBor Rack) → Fml
LendsShelf index key lent = LendsSo the_row shelf.the_row index lent (λ new rack. OnSome lent (IsWritten key index.now rack new)) (λ new. new ≡ index.now)
