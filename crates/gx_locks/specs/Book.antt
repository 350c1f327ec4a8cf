-- The holds with their index, and what the calls make of them.
use Rattle.std.specs.Prelude.{◌≡◌, ◌+◌, ◌-◌, ◌≤◌, List, filter, length}
use Rattle.gx_waits.specs.declared.claim.Claim.{Claim}
use Rattle.gx_locks.specs.declared.key.Key.{Key}
use Rattle.gx_locks.specs.declared.book.Book.{Book}
use Rattle.gx_locks.specs.Holds.{is_under, claims_of}
use Rattle.gx_locks.specs.Index.{IsTidy, holds_at, places_at}
use Rattle.gx_locks.specs.Kept.{AreExclusive, AreOnce, WaitOnce}
use Rattle.gx_locks.specs.Room.{bit, awaited}

-- under each key the index has the holds that stand there, in their order
abbrev pub IsFiled : Book → Type 0
IsFiled book = (k : Key) → holds_at book.index k ≡ filter (λ hold. is_under k hold.claim) book.ledger.holds

-- the claims that are held
abbrev pub claims_in : Book → List Claim
claims_in book = claims_of book.ledger.holds

-- the holds are the same, in all lists
pub record HasSameHolds (old new : Book) : Type 0 where
  pub ledger : new.ledger.holds ≡ old.ledger.holds
  pub index : (k : Key) → holds_at new.index k ≡ holds_at old.index k

-- the places are as many
pub record HasSamePlaces (old new : Book) : Type 0 where
  pub ledger : new.ledger.places ≡ old.ledger.places
  pub index : (k : Key) → places_at new.index k ≡ places_at old.index k

-- there is one place more for the claim
pub record HasPlaceMore (old new : Book) (claim : Claim) : Type 0 where
  pub ledger : new.ledger.places ≡ old.ledger.places + 1
  pub index : (k : Key) → places_at new.index k ≡ places_at old.index k + bit (is_under k claim)

-- there is one place less
pub record HasPlaceLess (old new : Book) (claim : Claim) : Type 0 where
  pub ledger : new.ledger.places ≡ old.ledger.places - 1
  pub index : (k : Key) → places_at new.index k ≡ places_at old.index k - bit (is_under k claim)

-- there is a place for the claim
pub record HasPlace (book : Book) (claim : Claim) : Type 0 where
  pub ledger : 1 ≤ book.ledger.places
  pub index : (k : Key) → bit (is_under k claim) ≤ places_at book.index k

-- the book is filed, the claims exclude one another and are held once, the waits are of different transactions, and
-- each wait has a place, and nobody else; no shelf or record is kept in which nothing is held and nothing may come
pub record IsWhole (book : Book) (waits : List Claim) : Type 0 where
  pub filed : IsFiled book
  pub exclusive : AreExclusive (claims_in book)
  pub held_once : AreOnce (claims_in book)
  pub once : WaitOnce waits
  pub places : book.ledger.places ≡ length waits
  pub room : (k : Key) → places_at book.index k ≡ awaited k waits
  pub tidy : IsTidy book.index
