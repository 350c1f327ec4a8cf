-- What a decider is to those who call it, what it knows of a disk, and what a settle comes to.
use Rattle.std.specs.Prelude.{◌≡◌, ◌≢◌, ℕ, ◌<◌, Bool, false, List, Option, None}
use Rattle.std.specs.Ordering.{nat_cmp}
use Rattle.std.specs.BTreeMap.{is_at}
use Rattle.std.specs.Map.{lookup}
use Rattle.gx_decide.specs.declared.decision.Decision.{Decision}
use Rattle.gx_decide.specs.declared.decide_fault.DecideFault.{DecideFault}
use Rattle.gx_decide.specs.declared.decide_fault.DecideFault.TheVariants.{Disk, Full, NotLog, OutOfMemory}
use Rattle.gx_decide.specs.Disk.{DiskState, Synced}
use Rattle.gx_decide.specs.History.{Event, Led}
use Rattle.gx_decide.specs.Log.{IsEnd, IsFirstBad, gate_at, pairs_before, slots_of, verdict_in}

-- how many slots a decider's log has, how many of them have a pair, and the verdicts by transaction, rising
pub record Kept : Type 0 where
  pub slots : ℕ
  pub used : ℕ
  pub verdicts : List (ℕ × Decision)

-- the verdict that it has for a transaction
abbrev pub verdict_by : Kept → ℕ → Option Decision
verdict_by kept gxid = lookup (is_at (nat_cmp gxid)) kept.verdicts

-- the disk's log has the slots, the pairs and the end that the decider has, no slot behind the end is open, and nothing is pending
pub record Knows (decider : Kept) (disk : DiskState) : Type 0 where
  pub slots : decider.slots ≡ slots_of disk.size
  pub end : IsEnd (decider.slots) disk.seen (decider.used)
  pub behind : (slot : ℕ) → decider.used < slot → slot < decider.slots → gate_at disk.seen slot ≢ 1
  pub verdicts : (gxid : ℕ) → verdict_by decider gxid ≡ verdict_in (pairs_before disk.seen (decider.used)) gxid
  pub durable : (place : ℕ) → disk.pending place ≡ false

-- no list of opens, settles and stops led to this disk
abbrev pub IsStrange : DiskState → Type 0
IsStrange disk = (events : List Event) (ready : Bool) → Led events disk ready → ⊥

-- Why an open is refused. Nothing is written before memory runs out, nor where the disk is no log.
abbrev pub IsOpenRefused : DiskState → DiskState → ℕ → ℕ → DecideFault → Type 0
IsOpenRefused old new before now Disk = before < now
IsOpenRefused old new before now (Full most) = ⊥
IsOpenRefused old new before now (NotLog bad) = IsFirstBad (slots_of old.size) old.seen bad × Synced old new × IsStrange old
IsOpenRefused old new before now OutOfMemory = Synced old new

-- the transaction has no verdict, and there is no slot for one
pub record IsFull (decider : Kept) (gxid many : ℕ) : Type 0 where
  pub none : verdict_by decider gxid ≡ None
  pub used : decider.used ≡ decider.slots
  pub most : many ≡ decider.slots

-- Why a settle is refused. Nothing is written before memory runs out, nor where the log is full.
abbrev pub IsSettleRefused : Kept → ℕ → DiskState → DiskState → ℕ → ℕ → DecideFault → Type 0
IsSettleRefused decider gxid old new before now Disk = before < now
IsSettleRefused decider gxid old new before now (Full most) = IsFull decider gxid most × (new ≡ old)
IsSettleRefused decider gxid old new before now (NotLog bad) = ⊥
IsSettleRefused decider gxid old new before now OutOfMemory = new ≡ old
