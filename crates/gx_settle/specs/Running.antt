-- What becomes of commands, and what is told of it. The newest event comes first.
use Rattle.std.specs.Prelude.{◌≡◌, ◌<◌, ⊤, ℕ, Bool, true, false, List, [], ◌∷◌, ◌++◌, None, codes}
use Rattle.std.specs.Fmt.{decimal}
use Rattle.gx_decide.specs.declared.decision.Decision.{Decision}
use Rattle.gx_decide.specs.declared.decision.Decision.TheVariants.{Commit, Abort}
use Rattle.gx_decide.specs.declared.decide_fault.DecideFault.{DecideFault}
use Rattle.gx_decide.specs.declared.decide_fault.DecideFault.TheVariants.{Disk, Full, NotLog, OutOfMemory}
use Rattle.gx_decide.specs.Disk.{DiskState, Synced}
use Rattle.gx_decide.specs.History.{AreAnswersEqual, Event, Happens, IsDurable, Led, OpenBroken, Opened, SettleBroken, Settled, Stopped}
use Rattle.gx_decide.specs.Kept.{IsStrange}
use Rattle.gx_decide.specs.Log.{IsEnd, IsFirstBad, pairs_before, slots_of, verdict_in}
use Rattle.gx_settle.specs.declared.command.Command.{Command}
use Rattle.gx_settle.specs.declared.command.Command.TheVariants.{Settle, Reopen}

-- the command that was answered, or failed
abbrev pub asked : Event → List Command
asked Opened = Reopen ∷ []
asked OpenBroken = Reopen ∷ []
asked (Settled gxid wish answer) = Settle (record { 0 = gxid }) wish ∷ []
asked (SettleBroken gxid wish) = Settle (record { 0 = gxid }) wish ∷ []
asked Stopped = []

abbrev pub all_asked : List Event → List Command
all_asked [] = []
all_asked (event ∷ events) = all_asked events ++ asked event

-- none of them failed, and there was no stop
abbrev pub AreAnswered : List Event → Type 0
AreAnswered [] = ⊤
AreAnswered (Opened ∷ events) = AreAnswered events
AreAnswered (Settled gxid wish answer ∷ events) = AreAnswered events
AreAnswered (_ ∷ events) = ⊥

abbrev pub answer_text : Decision → List ℕ
answer_text Commit = codes " commit\n"
answer_text Abort = codes " abort\n"

-- a settle's line: the transaction and its verdict
abbrev pub told : Event → List ℕ
told (Settled gxid wish answer) = decimal gxid ++ answer_text answer
told _ = []

-- all lines, the first answer's first
abbrev pub text_of : List Event → List ℕ
text_of [] = []
text_of (event ∷ events) = text_of events ++ told event

-- these events, one after the other, led from a disk to another
abbrev pub Went : List Event → DiskState → Bool → DiskState → Bool → Type 0
Went [] old was new now = (new ≡ old) × (now ≡ was)
Went (event ∷ events) old was new now = (mid : DiskState) × (at : Bool) × Went events old was mid at × Happens event mid at new now

-- all that holds of events that led from a disk of zeros: each answered pair stands in every later image, two answers are equal
pub record Lasts (events : List Event) (disk : DiskState) (ready : Bool) : Type 0 where
  pub led : Led events disk ready
  pub durable : IsDurable events disk
  pub equal : AreAnswersEqual events

-- the disk was opened and the commands were run, and each was answered
pub record IsRun (commands : List Command) (old new : DiskState) (events : List Event) : Type 0 where
  pub asked : all_asked events ≡ Reopen ∷ commands
  pub answered : AreAnswered events
  pub went : (was : Bool) → Went events old was new true
  pub lasts : (earlier : List Event) (ready : Bool) → Led earlier old ready → Lasts (events ++ earlier) new true

-- the settle found no verdict and no slot, and the disk is as it was
pub record IsFull (mid new : DiskState) (event : Event) (most : ℕ) : Type 0 where
  pub gxid : ℕ
  pub wish : Decision
  pub is : event ≡ SettleBroken gxid wish
  pub slots : slots_of mid.size ≡ most
  pub end : IsEnd most mid.seen most
  pub none : verdict_in (pairs_before mid.seen most) gxid ≡ None
  pub same : new ≡ mid

-- the open found a slot that is bad, nothing was written, and no opens, settles and stops led to the disk with which the run began
pub record IsNoLog (old mid new : DiskState) (event : Event) (bad : ℕ) : Type 0 where
  pub is : event ≡ OpenBroken
  pub first : IsFirstBad (slots_of mid.size) mid.seen bad
  pub synced : Synced mid new
  pub strange : IsStrange old

-- why a call failed
abbrev pub IsCause : DecideFault → DiskState → DiskState → DiskState → Event → ℕ → ℕ → Type 0
IsCause Disk old mid new event before now = before < now
IsCause (Full most) old mid new event before now = IsFull mid new event most
IsCause (NotLog bad) old mid new event before now = IsNoLog old mid new event bad
IsCause OutOfMemory old mid new event before now = ⊤

-- all of them were answered, but perhaps the newest
abbrev pub AreAnsweredUpTo : List Event → Type 0
AreAnsweredUpTo [] = ⊤
AreAnsweredUpTo (Stopped ∷ events) = ⊥
AreAnsweredUpTo (_ ∷ events) = AreAnswered events

-- the disk was opened and commands were run up to one that failed; the text is that of those before it
pub record IsStopped (fault : DecideFault) (commands : List Command) (old new : DiskState) (before now : ℕ) (text : List ℕ) : Type 0 where
  pub events : List Event
  pub failed : Event
  pub command : Command
  pub asked : asked failed ≡ command ∷ []
  pub rest : List Command
  pub mid : DiskState
  pub parts : Reopen ∷ commands ≡ all_asked (failed ∷ events) ++ rest
  pub answered : AreAnswered events
  pub went : (was : Bool) → (at : Bool) × Went events old was mid at × Happens failed mid at new false
  pub lasts : (earlier : List Event) (ready : Bool) → Led earlier old ready → Lasts (failed ∷ events ++ earlier) new false
  pub cause : IsCause fault old mid new failed before now
  pub told : text ≡ text_of events

-- the disk was opened and commands were run, up to some
pub record IsPart (commands : List Command) (old new : DiskState) : Type 0 where
  pub events : List Event
  pub rest : List Command
  pub parts : Reopen ∷ commands ≡ all_asked events ++ rest
  pub answered : AreAnsweredUpTo events
  pub went : (was : Bool) → (now : Bool) × Went events old was new now
  pub lasts : (earlier : List Event) (ready : Bool) → Led earlier old ready → (now : Bool) × Lasts (events ++ earlier) new now

-- what a run that wasn't done came to
abbrev pub IsCut : DecideFault → List Command → DiskState → DiskState → ℕ → ℕ → List ℕ → Type 0
IsCut OutOfMemory commands old new before now text = IsPart commands old new
IsCut fault commands old new before now text = IsStopped fault commands old new before now text

-- ONE COMMAND
-- it was answered, and its line was added to the text
pub record IsStep (command : Command) (old new : DiskState) (text shown : List ℕ) : Type 0 where
  pub event : Event
  pub asked : asked event ≡ command ∷ []
  pub answered : AreAnswered (event ∷ [])
  pub happens : Happens event old true new true
  pub told : shown ≡ text ++ told event

-- it failed, and the text is as it was
pub record IsFailed (fault : DecideFault) (command : Command) (old new : DiskState) (before now : ℕ) (text shown : List ℕ) : Type 0 where
  pub event : Event
  pub asked : asked event ≡ command ∷ []
  pub happens : Happens event old true new false
  pub cause : IsCause fault old old new event before now
  pub same : shown ≡ text

-- memory ran out before it was answered or behind that
pub record IsLost (command : Command) (old new : DiskState) : Type 0 where
  pub event : Event
  pub now : Bool
  pub asked : asked event ≡ command ∷ []
  pub happens : Happens event old true new now

abbrev pub IsStepCut : DecideFault → Command → DiskState → DiskState → ℕ → ℕ → List ℕ → List ℕ → Type 0
IsStepCut OutOfMemory command old new before now text shown = IsLost command old new
IsStepCut fault command old new before now text shown = IsFailed fault command old new before now text shown
