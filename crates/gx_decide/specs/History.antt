-- Lists of opens, settles and stops, what they may do to a disk, and what then holds of it. The newest comes first.
use Rattle.std.specs.Prelude.{◌≡◌, ◌⊎◌, ℕ, ◌<◌, ◌^◌, Bool, true, false, List, [], ◌∷◌, ◌++◌, length, Option, None, Some}
use Rattle.gx_decide.specs.declared.decision.Decision.{Decision}
use Rattle.gx_decide.specs.Disk.{DiskState, StopLeaves}
use Rattle.gx_decide.specs.Log.{IsEnd, IsLog, Pair, pairs_before, slots_of, verdict_in}
use Rattle.gx_decide.specs.Calls.{AreMade, AreMadePartly, opening, settling}

-- an open that was answered; one that failed, or with a stop within it; a settle that was answered; one that failed, or with a stop
-- within it; a stop, after which the disk has what it left
pub data Event : Type 0 where
  Opened : Event
  OpenBroken : Event
  Settled : (gxid : ℕ) → (wish answer : Decision) → Event
  SettleBroken : (gxid : ℕ) → (wish : Decision) → Event
  Stopped : Event

-- as far as the disk goes, all places are zeros, and none is pending
pub record IsBlank (disk : DiskState) : Type 0 where
  pub zeros : (place : ℕ) → place < disk.size → disk.seen place ≡ 0
  pub durable : (place : ℕ) → place < disk.size → disk.pending place ≡ false

-- a settle that was answered, where this verdict was kept: it changes nothing; where none was, the pair is kept in the slot at the end
abbrev pub DoesSettle : ℕ → ℕ → Decision → Decision → Option Decision → DiskState → DiskState → Type 0
DoesSettle end gxid wish answer (Some kept) old new = (answer ≡ kept) × (new ≡ old)
DoesSettle end gxid wish answer None old new = (answer ≡ wish) × (end < slots_of old.size) × AreMade (settling end gxid wish) old new

-- one that wasn't
abbrev pub DoesBreak : ℕ → ℕ → Decision → Option Decision → DiskState → DiskState → Type 0
DoesBreak end gxid wish (Some kept) old new = new ≡ old
DoesBreak end gxid wish None old new = (new ≡ old) ⊎ ((end < slots_of old.size) × AreMadePartly (settling end gxid wish) old new)

-- What an event does to a disk, and whether there is a decider to settle by before it and after.
abbrev pub Happens : Event → DiskState → Bool → DiskState → Bool → Type 0
Happens Opened old was new now = (now ≡ true) × (end : ℕ) × IsEnd (slots_of old.size) old.seen end × AreMade (opening (slots_of old.size) old.seen end) old new
Happens OpenBroken old was new now = (now ≡ false) × (end : ℕ) × IsEnd (slots_of old.size) old.seen end × AreMadePartly (opening (slots_of old.size) old.seen end) old new
Happens (Settled gxid wish answer) old was new now =
    (was ≡ true) × (now ≡ true) × (0 < gxid) × (gxid < 2 ^ 64) × (end : ℕ) × IsEnd (slots_of old.size) old.seen end
    × DoesSettle end gxid wish answer (verdict_in (pairs_before old.seen end) gxid) old new
Happens (SettleBroken gxid wish) old was new now =
    (was ≡ true) × (now ≡ false) × (0 < gxid) × (gxid < 2 ^ 64) × (end : ℕ) × IsEnd (slots_of old.size) old.seen end
    × DoesBreak end gxid wish (verdict_in (pairs_before old.seen end) gxid) old new
Happens Stopped old was new now = (now ≡ false) × StopLeaves old new

-- these events led from a disk of zeros to this one
abbrev pub Led : List Event → DiskState → Bool → Type 0
Led [] disk ready = IsBlank disk × (ready ≡ false)
Led (event ∷ events) disk ready = (before : DiskState) × (was : Bool) × Led events before was × Happens event before was disk ready

-- the pairs with one more, unless its transaction has one
abbrev pub with_pair : List Pair → ℕ → Decision → Option Decision → List Pair
with_pair pairs gxid decision (Some kept) = pairs
with_pair pairs gxid decision None = pairs ++ (let pair : Pair = record { gxid = gxid; decision = decision } in pair) ∷ []

-- the pairs are, in the order of the calls, those of all settles that wrote and were answered and of some that were not, each transaction once
abbrev pub AreOf : List Event → List Pair → Type 0
AreOf [] pairs = pairs ≡ []
AreOf (Settled gxid wish answer ∷ events) pairs = (before : List Pair) × AreOf events before × (pairs ≡ with_pair before gxid answer (verdict_in before gxid))
AreOf (SettleBroken gxid wish ∷ events) pairs =
    AreOf events pairs ⊎ ((before : List Pair) × AreOf events before × (pairs ≡ with_pair before gxid wish (verdict_in before gxid)))
AreOf (Opened ∷ events) pairs = AreOf events pairs
AreOf (OpenBroken ∷ events) pairs = AreOf events pairs
AreOf (Stopped ∷ events) pairs = AreOf events pairs

-- this was answered for the transaction
abbrev pub WasAnswered : List Event → ℕ → Decision → Type 0
WasAnswered [] gxid answer = ⊥
WasAnswered (Settled other wish told ∷ events) gxid answer = ((other ≡ gxid) × (told ≡ answer)) ⊎ WasAnswered events gxid answer
WasAnswered (SettleBroken other wish ∷ events) gxid answer = WasAnswered events gxid answer
WasAnswered (Opened ∷ events) gxid answer = WasAnswered events gxid answer
WasAnswered (OpenBroken ∷ events) gxid answer = WasAnswered events gxid answer
WasAnswered (Stopped ∷ events) gxid answer = WasAnswered events gxid answer

-- The disk is the log of these events: no slot is bad, its pairs are those of the calls, and each answered pair is among them.
pub record IsLogOf (events : List Event) (disk : DiskState) : Type 0 where
  pub pairs : List Pair
  pub end : IsEnd (slots_of disk.size) disk.seen (length pairs)
  pub log : IsLog (slots_of disk.size) disk.seen (length pairs)
  pub stand : pairs_before disk.seen (length pairs) ≡ pairs
  pub are : AreOf events pairs
  pub answered : (gxid : ℕ) (answer : Decision) → WasAnswered events gxid answer → verdict_in pairs gxid ≡ Some answer

-- whatever a stop leaves now is their log
abbrev pub IsDurable : List Event → DiskState → Type 0
IsDurable events disk = (left : DiskState) → StopLeaves disk left → IsLogOf events left

-- two answers for one transaction are equal
abbrev pub AreAnswersEqual : List Event → Type 0
AreAnswersEqual events = (gxid : ℕ) (one other : Decision) → WasAnswered events gxid one → WasAnswered events gxid other → one ≡ other

-- a call that is this event goes on from every list of events that led to the disk before it, with all that holds of such lists
pub record GoesOn (event : Event) (events : List Event) (new : DiskState) (ready : Bool) : Type 0 where
  pub led : Led (event ∷ events) new ready
  pub durable : IsDurable (event ∷ events) new
  pub equal : AreAnswersEqual (event ∷ events)
