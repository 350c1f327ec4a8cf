-- How a command that changes rows has gone through them: what it has made of each, and how it stands behind them.
use Rattle.std.specs.Prelude.{◌≡◌, ◌⊎◌, ℕ, ◌+◌, Bool, true, false, List, [], ◌∷◌, ◌++◌, Some, None, Ok, Err}
use Rattle.std.specs.declared.option.Option.{Option}
use Rattle.gx_ids.specs.declared.ids.Gxid.{Gxid}
use Rattle.gx_ids.specs.declared.rid.Rid.{Rid}
use Rattle.gx_tree.specs.declared.stmt.Level.{Level}
use Rattle.gx_tree.specs.declared.stmt.Level.TheVariants.{ReadCommitted, RepeatableRead}
use Rattle.gx_tree.specs.declared.value.Value.{Value}
use Rattle.gx_meaning.specs.declared.fault.ArithFault.{ArithFault}
use Rattle.gx_msg.specs.declared.reply.Cause.{Cause}
use Rattle.gx_msg.specs.declared.reply.Cause.TheVariants.{Serialization}
use Rattle.gx_msg.specs.declared.reply.Reply.TheVariants as reply
use Rattle.gx_waits.specs.Claims.{is_clear}
use Rattle.gx_store.specs.declared.mark.Mark.TheVariants as mark
use Rattle.gx_store.specs.Commands.{condition_on}
use Rattle.gx_rules.specs.Changes.{Change, RowEnd, RowTurn, does_row, end_lock, ended, gives_back_if_held, is_done, is_settled, new_image, suspended_at, suspends_at, tuple_lock, waits}
use Rattle.gx_rules.specs.Changes.RowEnd.{Failing, Skipped, Waiting, Written}
use Rattle.gx_rules.specs.Segments.{SegTurn, Version}
use Rattle.gx_rules.specs.Shown.{counts, current_of}
use Rattle.gx_rules.specs.Slices.{Moved, answers, cause_of, is_holding, noted, takes_lock, writes_row}

-- the row's current version at the segment, whose writer is the command's own transaction or has ended there
pub record IsSettled (m : Moved) (g : Gxid) (k : Change) (rid : Rid) (v : Version) : Type 0 where
  pub current : current_of m.seg k.table rid ≡ Some v
  pub settled : is_settled m g v.gxid ≡ true

-- at read committed the condition is true on the current image; at repeatable read the current version is one that counts
abbrev pub IsNow : Level → Moved → Gxid → Change → Version → List Value → Type 0
IsNow ReadCommitted m g k v old = condition_on k.cond old ≡ Ok true
IsNow RepeatableRead m g k v old = counts m.seg k.snapshot g k.cid v ≡ true

pub record WritesIt (m : Moved) (g : Gxid) (k : Change) (rid : Rid) (image : Option (List Value)) : Type 0 where
  pub version : Version
  pub settled : IsSettled m g k rid version
  pub old : List Value
  pub before : version.image ≡ Some old
  pub now : IsNow k.level m g k version old
  pub made : new_image k.set old ≡ Ok image

-- it is gone, or the condition is false on the current image
abbrev pub IsLeft : Change → Version → Type 0
IsLeft k v = (v.image ≡ None) ⊎ ((old : List Value) × (v.image ≡ Some old) × (condition_on k.cond old ≡ Ok false))

pub record SkipsIt (m : Moved) (g : Gxid) (k : Change) (rid : Rid) : Type 0 where
  pub version : Version
  pub settled : IsSettled m g k rid version
  pub isolation : k.level ≡ ReadCommitted
  pub left : IsLeft k version

-- no version of it is current, or at repeatable read the one that counts is gone: neither is so of a row that is shown
abbrev pub IsUnshown : Moved → Gxid → Change → Rid → Type 0
IsUnshown m g k rid =
    (current_of m.seg k.table rid ≡ None)
    ⊎ ((v : Version) × (current_of m.seg k.table rid ≡ Some v) × (k.level ≡ RepeatableRead) × (counts m.seg k.snapshot g k.cid v ≡ true) × (v.image ≡ None))

pub record FaultsAt (m : Moved) (g : Gxid) (k : Change) (rid : Rid) (image : Option (List Value)) (fault : ArithFault) : Type 0 where
  pub version : Version
  pub settled : IsSettled m g k rid version
  pub old : List Value
  pub before : version.image ≡ Some old
  pub noted : image ≡ Some old
  pub faults : ((k.level ≡ ReadCommitted) × (condition_on k.cond old ≡ Err fault)) ⊎ (IsNow k.level m g k version old × (new_image k.set old ≡ Err fault))

-- another transaction has changed it since the snapshot
pub record IsOvertakenAt (m : Moved) (g : Gxid) (k : Change) (rid : Rid) (writer : Gxid) : Type 0 where
  pub version : Version
  pub settled : IsSettled m g k rid version
  pub isolation : k.level ≡ RepeatableRead
  pub uncounted : counts m.seg k.snapshot g k.cid version ≡ false
  pub is : writer ≡ version.gxid

-- ROWS ONE BEHIND THE OTHER
-- a row that the command is done with: how it found the segment, whether it wrote the row or skipped it, and how it left it
pub record Visit : Type 0 where
  pub before : Moved
  pub rid : Rid
  pub wrote : Bool
  pub after : Moved

abbrev pub end_of : Bool → RowEnd
end_of true = Written
end_of false = Skipped

-- these visits lead from the one to the other
abbrev pub IsPath : Gxid → Change → Moved → List Visit → Moved → Type 0
IsPath g k m [] last = m ≡ last
IsPath g k m (v ∷ vs) last = (v.before ≡ m) × (does_row m g k v.rid ≡ ended v.after (end_of v.wrote)) × IsPath g k v.after vs last

-- how many of them wrote
abbrev pub one_if : Bool → ℕ
one_if true = 1
one_if false = 0

abbrev pub written_in : List Visit → ℕ
written_in [] = 0
written_in (v ∷ vs) = one_if v.wrote + written_in vs

abbrev pub visited : List Visit → List Rid
visited [] = []
visited (v ∷ vs) = v.rid ∷ visited vs

-- The command has gone through all rows; or it waits at one; or it has failed at one.
pub record IsThrough (g : Gxid) (k : Change) (rids : List Rid) (m : Moved) (count : ℕ) (turn : SegTurn) : Type 0 where
  pub visits : List Visit
  pub last : Moved
  pub path : IsPath g k m visits last
  pub all : visited visits ≡ rids
  pub is : turn ≡ is_done last g k.cid (count + written_in visits)

pub record IsStopped (g : Gxid) (k : Change) (rids : List Rid) (m : Moved) (count : ℕ) (turn : SegTurn) : Type 0 where
  pub visits : List Visit
  pub last : Moved
  pub path : IsPath g k m visits last
  pub rid : Rid
  pub rest : List Rid
  pub split : rids ≡ visited visits ++ rid ∷ rest
  pub stopped : Moved
  pub waits : does_row last g k rid ≡ ended stopped Waiting
  pub is : turn ≡ suspends_at stopped g k (suspended_at k rid rest (count + written_in visits))

pub record IsFailed (g : Gxid) (k : Change) (rids : List Rid) (m : Moved) (count : ℕ) (turn : SegTurn) : Type 0 where
  pub visits : List Visit
  pub last : Moved
  pub path : IsPath g k m visits last
  pub rid : Rid
  pub rest : List Rid
  pub split : rids ≡ visited visits ++ rid ∷ rest
  pub failed : Moved
  pub cause : Cause
  pub fails : does_row last g k rid ≡ ended failed (Failing cause)
  pub is : turn ≡ answers failed.seg g k.cid failed.marks (reply.Failed k.cid cause)

abbrev pub GoesThrough : Gxid → Change → List Rid → Moved → ℕ → SegTurn → Type 0
GoesThrough g k rids m count turn = IsThrough g k rids m count turn ⊎ IsStopped g k rids m count turn ⊎ IsFailed g k rids m count turn

-- WHAT COMES OF A ROW
-- it is written, or skipped, and its lock, where held, given back
pub record DidWrite (m : Moved) (g : Gxid) (k : Change) (rid : Rid) (t : RowTurn) : Type 0 where
  pub image : Option (List Value)
  pub why : WritesIt m g k rid image
  pub is : t ≡ ended (gives_back_if_held (tuple_lock g rid) (writes_row g k.cid k.table m rid image)) Written

pub record DidSkip (m : Moved) (g : Gxid) (k : Change) (rid : Rid) (t : RowTurn) : Type 0 where
  pub why : SkipsIt m g k rid ⊎ IsUnshown m g k rid
  pub is : t ≡ ended (gives_back_if_held (tuple_lock g rid) (noted m (mark.Skip g k.cid rid))) Skipped

-- the command fails at it
pub record DidFault (m : Moved) (g : Gxid) (k : Change) (rid : Rid) (t : RowTurn) : Type 0 where
  pub image : Option (List Value)
  pub fault : ArithFault
  pub why : FaultsAt m g k rid image fault
  pub is : t ≡ ended (noted m (mark.Fault g k.cid rid image)) (Failing (cause_of fault))

pub record WasOvertaken (m : Moved) (g : Gxid) (k : Change) (rid : Rid) (t : RowTurn) : Type 0 where
  pub writer : Gxid
  pub why : IsOvertakenAt m g k rid writer
  pub is : t ≡ ended m (Failing (Serialization rid writer))

-- The command waits at it: with the row's lock, which it has or takes, for its writer's end; or for the row's lock.
abbrev pub WaitsAt : Moved → Gxid → Rid → Gxid → Moved → Type 0
WaitsAt m g rid writer stopped =
    ((is_holding m (tuple_lock g rid) ≡ true) × (stopped ≡ (waits (end_lock g writer) m).moved))
    ⊎ ((is_clear m.seg.locks.holds m.seg.locks.waits (tuple_lock g rid) ≡ true) × (stopped ≡ (waits (end_lock g writer) (takes_lock (tuple_lock g rid) m)).moved))
    ⊎ ((is_clear m.seg.locks.holds m.seg.locks.waits (tuple_lock g rid) ≡ false) × (stopped ≡ (waits (tuple_lock g rid) m).moved))

pub record DidStop (m : Moved) (g : Gxid) (k : Change) (rid : Rid) (t : RowTurn) : Type 0 where
  pub version : Version
  pub current : current_of m.seg k.table rid ≡ Some version
  pub unsettled : is_settled m g version.gxid ≡ false
  pub stopped : Moved
  pub how : WaitsAt m g rid version.gxid stopped
  pub is : t ≡ ended stopped Waiting

abbrev pub Does : Moved → Gxid → Change → Rid → RowTurn → Type 0
Does m g k rid t = DidWrite m g k rid t ⊎ DidSkip m g k rid t ⊎ DidFault m g k rid t ⊎ WasOvertaken m g k rid t ⊎ DidStop m g k rid t
