-- Which locks a history has (PostgreSQL manual 13.3): no two that conflict, and whoever reads or writes holds what it must.
use Rattle.std.specs.Prelude.{◌≡◌, ◌⊎◌, ℕ, true, false, if◌then◌else◌, List, [], ◌∷◌, ◌++◌, Some, None, IfSome, All, Any, AllPairs, Contains}
use Rattle.std.specs.declared.option.Option.{Option}
use Rattle.gx_ids.specs.declared.ids.Cid.{Cid}
use Rattle.gx_ids.specs.declared.ids.Gxid.{Gxid}
use Rattle.gx_ids.specs.declared.ids.Node.{Node}
use Rattle.gx_ids.specs.declared.ids.SessionId.{SessionId}
use Rattle.gx_ids.specs.declared.ids.Table.{Table}
use Rattle.gx_tree.specs.declared.slice.Slice.{Slice}
use Rattle.gx_tree.specs.declared.slice.Slice.TheVariants as slice
use Rattle.gx_tree.specs.declared.stmt.Level.{Level}
use Rattle.gx_tree.specs.declared.stmt.Stmt.{Stmt}
use Rattle.gx_tree.specs.declared.stmt.Stmt.TheVariants as stmt
use Rattle.gx_dsnap.specs.declared.snapshot.Snapshot.{Snapshot}
use Rattle.gx_modes.specs.declared.modes.Mode.{Mode}
use Rattle.gx_modes.specs.declared.modes.Mode.TheVariants.{AccessShare, RowExclusive, Share, Exclusive}
use Rattle.gx_msg.specs.declared.message.Message.TheVariants as message
use Rattle.gx_script.specs.declared.Script.{Script}
use Rattle.gx_waits.specs.Claim.{Meets, in_the_way}
use Rattle.gx_waits.specs.declared.claim.Claim.{Claim}
use Rattle.gx_waits.specs.declared.object.Object.{Object}
use Rattle.gx_waits.specs.declared.object.Object.TheVariants.{Relation, Tuple, Transaction}
use Rattle.gx_store.specs.declared.answer.StmtAnswer.{StmtAnswer}
use Rattle.gx_store.specs.declared.answer.StmtAnswer.TheVariants.{Refused}
use Rattle.gx_store.specs.declared.event.Event.{Event}
use Rattle.gx_store.specs.declared.mark.Mark.{Mark}
use Rattle.gx_store.specs.declared.mark.Mark.TheVariants.{Write, Answer, Hold, Wait, Release, Sent}
use Rattle.gx_store.specs.declared.run.Step.{Step}
use Rattle.gx_store.specs.Commands.{RunsCommand}
use Rattle.gx_store.specs.Marks.{is_aborted, is_ended, is_snapped}
use Rattle.gx_store.specs.Points.{Point, before, marks_in}
use Rattle.gx_store.specs.Refusals.{the_coordinator}
use Rattle.gx_store.specs.Waits.{holds_at, is_held, waits_at}
use Rattle.gx_waits.specs.Claims.{claim}

-- a lock is granted only where it meets nobody who holds, or who waits ahead of it, and waited for only where it meets somebody
abbrev pub LegalHold : List Mark → Node → Claim → Type 0
LegalHold marks node wanted = All (λ other. Meets wanted other → ⊥) (in_the_way (holds_at marks node) (waits_at marks node) wanted)

abbrev pub LegalWait : List Mark → Node → Claim → Type 0
LegalWait marks node wanted = Any (λ other. Meets wanted other) (in_the_way (holds_at marks node) (waits_at marks node) wanted)

-- each hold among these marks, behind those before, meets nobody there
abbrev pub AreGranted : List Mark → List Mark → Type 0
AreGranted before [] = Unit {0}
AreGranted before (Hold n g object mode ∷ ms) = LegalHold before n (claim g object mode) × AreGranted (before ++ Hold n g object mode ∷ []) ms
AreGranted before (m ∷ ms) = AreGranted (before ++ m ∷ []) ms

-- THE LOCK ON A TABLE
-- the mode in which UPDATE and DELETE lock their table
abbrev pub changing_mode : Script → Mode
changing_mode script = if script.detector then RowExclusive else Exclusive

-- the lock that a statement takes on its table
abbrev pub table_lock : Script → Gxid → Stmt → Option Claim
table_lock script g (stmt.Select query) = Some (claim g (Relation query.table) AccessShare)
table_lock script g (stmt.Insert table tuples) = Some (claim g (Relation table) RowExclusive)
table_lock script g (stmt.Update table assigns cond) = Some (claim g (Relation table) (changing_mode script))
table_lock script g (stmt.Delete table cond) = Some (claim g (Relation table) (changing_mode script))
table_lock script g (stmt.Lock table mode) = Some (claim g (Relation table) mode)
table_lock script g _ = None

-- a slice takes its statement's, at its segment
abbrev pub slice_lock : Script → Gxid → Slice → Claim
slice_lock script g (slice.Select query) = claim g (Relation query.table) AccessShare
slice_lock script g (slice.Insert table rows) = claim g (Relation table) RowExclusive
slice_lock script g (slice.Update table assigns cond) = claim g (Relation table) (changing_mode script)
slice_lock script g (slice.Delete table cond) = claim g (Relation table) (changing_mode script)
slice_lock script g (slice.Lock table mode) = claim g (Relation table) mode

-- at the coordinator the transaction holds what the statement takes
abbrev pub HoldsTable : Script → List Mark → Gxid → Stmt → Type 0
HoldsTable script marks g line = IfSome (table_lock script g line) (λ lock. is_held marks the_coordinator g lock.object lock.mode ≡ true)

-- who writes a row holds the table at the coordinator and at the row's node, unless the transaction has aborted
abbrev pub HoldsAt : Script → List Mark → Node → Gxid → Table → Type 0
HoldsAt script marks node g table =
    (is_held marks node g (Relation table) RowExclusive ≡ true) ⊎ ((script.detector ≡ false) × (is_held marks node g (Relation table) Exclusive ≡ true))

pub record WritesUnderLock (script : Script) (marks : List Mark) (node : Node) (g : Gxid) (table : Table) : Type 0 where
  pub coordinator : HoldsAt script marks the_coordinator g table
  pub segment : HoldsAt script marks node g table

-- a segment gives back a tuple's lock, or one on a transaction's end, at any time
abbrev pub IsMomentary : Node → Object → Mode → Type 0
IsMomentary node (Tuple rid) mode = node ≡ the_coordinator → ⊥
IsMomentary node (Transaction other) mode = (node ≡ the_coordinator → ⊥) × (mode ≡ Share)
IsMomentary node _ mode = ⊥

-- a command that succeeds holds its table at the coordinator when it is answered
abbrev pub HoldsAtAnswer : Script → Point → SessionId → StmtAnswer → Type 0
HoldsAtAnswer script point session (Refused reason) = Unit {0}
HoldsAtAnswer script point session answer = (line : Stmt) (level : Level) (g : Gxid) (c : Cid) → RunsCommand script point session line level g c → HoldsTable script (before point) g line

abbrev pub LocksAt : Script → Point → Mark → Type 0
LocksAt script point (Hold node g object mode) = LegalHold (before point) node (claim g object mode)
LocksAt script point (Wait node g object mode) = LegalWait (before point) node (claim g object mode)
LocksAt script point (Release node g object mode) = IsMomentary node object mode ⊎ (is_ended (before point) g ≡ true)
LocksAt script point (Write g c node table rid image) = (is_aborted (before point) g ≡ false) → WritesUnderLock script (before point) node g table
LocksAt script point (Answer session number answer) = HoldsAtAnswer script point session answer
LocksAt script point _ = Unit {0}

-- the command was sent to some segment
pub record HasGoneOut (marks : List Mark) (g : Gxid) (c : Cid) : Type 0 where
  pub node : Node
  pub number : ℕ
  pub level : Level
  pub snapshot : Option Snapshot
  pub horizon : Gxid
  pub slice : Slice
  pub sent : Contains marks (Sent node number (message.Exec g c level snapshot horizon slice))

-- from its own snapshot, or from its first sending, to its answer, a command holds its table at the coordinator, whoever has
-- ended in between
abbrev pub LocksWhileReading : Script → Point → Type 0
LocksWhileReading script point =
    (session : SessionId) (line : Stmt) (level : Level) (g : Gxid) (c : Cid) → RunsCommand script point session line level g c
    → (is_snapped (before point) g c ≡ true) ⊎ HasGoneOut (before point) g c → HoldsTable script (before point) g line

pub record LegalLocksAt (script : Script) (point : Point) (mark : Mark) : Type 0 where
  pub here : LocksAt script point mark
  pub reading : LocksWhileReading script point

abbrev pub AreLockedMarks : Script → List Step → Event → List Mark → List Mark → Type 0
AreLockedMarks script steps event earlier [] = Unit {0}
AreLockedMarks script steps event earlier (m ∷ ms) =
    LegalLocksAt script (record { steps = steps; event = event; earlier = earlier; later = ms }) m × AreLockedMarks script steps event (earlier ++ m ∷ []) ms

-- whoever has written in a step holds its own transaction there at the step's end, unless it had aborted
abbrev pub HoldOwn : List Mark → List Mark → List Mark → Type 0
HoldOwn marks after [] = Unit {0}
HoldOwn marks after (Write g c node table rid image ∷ ms) =
    ((is_aborted marks g ≡ false) → is_held after node g (Transaction g) Exclusive ≡ true) × HoldOwn (marks ++ Write g c node table rid image ∷ []) after ms
HoldOwn marks after (m ∷ ms) = HoldOwn (marks ++ m ∷ []) after ms

abbrev pub AreLockedSteps : Script → List Step → List Step → Type 0
AreLockedSteps script before [] = Unit {0}
AreLockedSteps script before (s ∷ ss) =
    AreLockedMarks script before s.event [] s.marks × HoldOwn (marks_in before) (marks_in before ++ s.marks) s.marks × AreLockedSteps script (before ++ s ∷ []) ss

-- no two transactions hold conflicting modes on one object at one node; this holds at each point of a run with legal locks
abbrev pub AreExclusive : List Mark → Type 0
AreExclusive marks = (node : Node) → AllPairs (λ earlier later. Meets later earlier → ⊥) (holds_at marks node)
