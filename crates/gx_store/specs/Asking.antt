-- Who asks for locks: a transaction waits for one, or is granted it, for a command that is at work at the node, and asks for what its
-- statement needs there (PostgreSQL manual 13.3).
use Rattle.std.specs.Prelude.{◌≡◌, ◌⊎◌, Bool, true, false, not, ◌&&◌, ◌||◌, List, [], ◌∷◌, ◌++◌, Some, None, Ok, Contains}
use Rattle.std.specs.List.{list_any}
use Rattle.std.specs.declared.option.Option.{Option}
use Rattle.gx_ids.specs.declared.ids.Cid.{Cid}
use Rattle.gx_ids.specs.declared.ids.Gxid.{Gxid}
use Rattle.gx_ids.specs.declared.ids.Node.{Node}
use Rattle.gx_ids.specs.declared.ids.SessionId.{SessionId}
use Rattle.gx_ids.specs.declared.ids.Table.{Table}
use Rattle.gx_ids.specs.declared.rid.Rid.{Rid}
use Rattle.gx_tree.specs.declared.cond.Cond.{Cond}
use Rattle.gx_tree.specs.declared.row.KeyedRow.{KeyedRow}
use Rattle.gx_tree.specs.declared.slice.Slice.{Slice}
use Rattle.gx_tree.specs.declared.stmt.Level.{Level}
use Rattle.gx_tree.specs.declared.stmt.Stmt.{Stmt}
use Rattle.gx_tree.specs.declared.stmt.Stmt.TheVariants as stmt
use Rattle.gx_tree.specs.declared.value.Value.{Value}
use Rattle.gx_dsnap.specs.declared.snapshot.Snapshot.{Snapshot}
use Rattle.gx_modes.specs.declared.modes.Mode.{Mode}
use Rattle.gx_modes.specs.declared.modes.Mode.TheVariants.{Share, Exclusive}
use Rattle.gx_msg.specs.declared.message.Message.TheVariants as message
use Rattle.gx_msg.specs.declared.reply.Reply.TheVariants as reply
use Rattle.gx_script.specs.declared.Script.{Script}
use Rattle.gx_waits.specs.Claim.{same_claim}
use Rattle.gx_waits.specs.declared.object.Object.{Object}
use Rattle.gx_waits.specs.declared.object.Object.TheVariants.{Relation, Tuple, Transaction}
use Rattle.gx_store.specs.declared.event.Event.{Event}
use Rattle.gx_store.specs.declared.mark.Mark.{Mark}
use Rattle.gx_store.specs.declared.mark.Mark.TheVariants.{Hold, Sent, Wait, Write}
use Rattle.gx_store.specs.declared.run.Step.{Step}
use Rattle.gx_store.specs.Commands.{IsUnderWay, Sees, condition_on}
use Rattle.gx_store.specs.Journals.{is_same_node}
use Rattle.gx_store.specs.Locks.{table_lock}
use Rattle.gx_store.specs.Marks.{is_aborted, is_command_of, is_processed, is_same_gxid}
use Rattle.gx_store.specs.Messages.{HasReceived}
use Rattle.gx_store.specs.Points.{Point, before}
use Rattle.gx_store.specs.Refusals.{the_coordinator}
use Rattle.gx_store.specs.Rows.{row_at}
use Rattle.gx_store.specs.Waits.{is_held, waits_at}
use Rattle.gx_waits.specs.Claims.{claim}
use Rattle.gx_store.specs.Writes.{IsLate, Written, last_write}

-- WHAT A STATEMENT NEEDS
-- the lock on its table
abbrev pub NeedsTable : Script → Gxid → Stmt → Object → Mode → Type 0
NeedsTable script g line object mode = table_lock script g line ≡ Some (claim g object mode)

-- UPDATE and DELETE go through the rows of their table that they have selected by their condition, one behind the other
abbrev pub GoesThroughRows : Stmt → Table → Option Cond → Type 0
GoesThroughRows (stmt.Update t assigns d) table cond = (table ≡ t) × (cond ≡ d)
GoesThroughRows (stmt.Delete t d) table cond = (table ≡ t) × (cond ≡ d)
GoesThroughRows _ table cond = ⊥

-- The command has selected the row: it sees it, and the condition is true on what it sees. It has neither written nor skipped it yet.
pub record IsToDo (marks : List Mark) (level : Level) (g : Gxid) (c : Cid) (table : Table) (cond : Option Cond) (rid : Rid) : Type 0 where
  pub rows : List KeyedRow
  pub sees : Sees marks level g c table rows
  pub row : List Value
  pub shown : row_at rows rid ≡ Some row
  pub chosen : condition_on cond row ≡ Ok true
  pub left : is_processed marks g c rid ≡ false

-- whose writes count at a node: who hasn't aborted, or hasn't ended there yet, where a writer holds itself until then
abbrev pub counts_at : List Mark → Node → Gxid → Bool
counts_at marks node h = is_held marks node h (Transaction h) Exclusive || not (is_aborted marks h)

-- Another transaction is in the way at a row of the table: the newest write of the row that counts at the node is its, made there, and it
-- hasn't ended there.
pub record IsInTheWay (marks : List Mark) (node : Node) (g : Gxid) (table : Table) (rid : Rid) (h : Gxid) : Type 0 where
  pub other : is_same_gxid h g ≡ false
  pub write : Written
  pub newest : last_write (λ i d. counts_at marks node i) rid 0 None marks ≡ Some write
  pub writer : write.gxid ≡ h
  pub made : Contains marks (Write h write.cid node table rid write.image)
  pub unended : is_held marks node h (Transaction h) Exclusive ≡ true

-- At a row at which another is in the way they need the row, or, with the row's lock, in mode Share, the other's end. It is one that they
-- have selected, unless their transaction has aborted, whose view counts for nothing.
abbrev pub NeedsAt : List Mark → Node → Level → Gxid → Cid → Table → Option Cond → Rid → Gxid → Type 0
NeedsAt marks node level g c table cond rid h = IsInTheWay marks node g table rid h × (is_aborted marks g ≡ false → IsToDo marks level g c table cond rid)

abbrev pub NeedsRow : List Mark → Node → Level → Gxid → Cid → Table → Option Cond → Object → Mode → Type 0
NeedsRow marks node level g c table cond (Tuple rid) mode = (mode ≡ Exclusive) × ((h : Gxid) × NeedsAt marks node level g c table cond rid h)
NeedsRow marks node level g c table cond (Transaction h) mode = (mode ≡ Share) × ((rid : Rid) × (is_held marks node g (Tuple rid) Exclusive ≡ true) × NeedsAt marks node level g c table cond rid h)
NeedsRow marks node level g c table cond (Relation other) mode = ⊥

-- what a command needs at a segment
abbrev pub Needs : Script → List Mark → Node → Level → Gxid → Cid → Stmt → Object → Mode → Type 0
Needs script marks node level g c line object mode =
    NeedsTable script g line object mode ⊎ ((table : Table) × (cond : Option Cond) × GoesThroughRows line table cond × NeedsRow marks node level g c table cond object mode)

-- AT WORK
-- these marks send DONE or FAILED of the command
abbrev pub tells : List Mark → Gxid → Cid → Bool
tells [] g c = false
tells (Sent to number (message.Answer h (reply.Done d wrote count part)) ∷ ms) g c = is_command_of g c h d || tells ms g c
tells (Sent to number (message.Answer h (reply.Failed d cause)) ∷ ms) g c = is_command_of g c h d || tells ms g c
tells (_ ∷ ms) g c = tells ms g c

-- the node has sent it in one of these steps
abbrev pub has_told : List Step → Node → Gxid → Cid → Bool
has_told [] node g c = false
has_told (s ∷ ss) node g c = (is_same_node s.stamp.node node && tells s.marks g c) || has_told ss node g c

-- the command is under way, or it was and its transaction has aborted since
abbrev pub IsOrWasUnderWay : Script → Point → Gxid → Cid → Stmt → Type 0
IsOrWasUnderWay script point g c line = ((session : SessionId) × (level : Level) × IsUnderWay script point session line level g c) ⊎ IsLate script point g c line

-- The node has received an EXEC of the command, in this step or before it, and has sent neither DONE nor FAILED of it. The command's
-- line is under way; or it may be answered by now, where the transaction has aborted.
pub record IsAtWork (script : Script) (point : Point) (node : Node) (g : Gxid) (c : Cid) (line : Stmt) : Type 0 where
  pub level : Level
  pub snapshot : Option Snapshot
  pub horizon : Gxid
  pub slice : Slice
  pub received : HasReceived point the_coordinator node (message.Exec g c level snapshot horizon slice)
  pub untold : has_told point.steps node g c ≡ false
  pub untold_here : tells point.earlier g c ≡ false
  pub under_way : IsOrWasUnderWay script point g c line

-- WHO ASKS
-- at the coordinator for the table of the command under way
pub record AsksHere (script : Script) (point : Point) (node : Node) (g : Gxid) (object : Object) (mode : Mode) : Type 0 where
  pub here : node ≡ the_coordinator
  pub session : SessionId
  pub line : Stmt
  pub level : Level
  pub cid : Cid
  pub under_way : IsUnderWay script point session line level g cid
  pub needs : NeedsTable script g line object mode

-- at a segment for what a command at work there needs, at the level at which it is under way, unless its transaction has aborted
pub record AsksThere (script : Script) (point : Point) (node : Node) (g : Gxid) (object : Object) (mode : Mode) : Type 0 where
  pub cid : Cid
  pub line : Stmt
  pub at_work : IsAtWork script point node g cid line
  pub level : Level
  pub runs : is_aborted (before point) g ≡ false → (session : SessionId) × IsUnderWay script point session line level g cid
  pub needs : Needs script (before point) node level g cid line object mode

abbrev pub Asks : Script → Point → Node → Gxid → Object → Mode → Type 0
Asks script point node g object mode = AsksHere script point node g object mode ⊎ AsksThere script point node g object mode

-- a wait that stands at a segment is granted, while a command of its transaction is at work there
pub record GrantsWait (script : Script) (point : Point) (node : Node) (g : Gxid) (object : Object) (mode : Mode) : Type 0 where
  pub cid : Cid
  pub line : Stmt
  pub at_work : IsAtWork script point node g cid line
  pub waited : list_any (same_claim (claim g object mode)) (waits_at (before point) node) ≡ true

-- a writer locks itself directly behind its write
pub record LocksItself (earlier : List Mark) (node : Node) (g : Gxid) (object : Object) (mode : Mode) : Type 0 where
  pub own : (object ≡ Transaction g) × (mode ≡ Exclusive)
  pub front : List Mark
  pub cid : Cid
  pub table : Table
  pub rid : Rid
  pub image : Option (List Value)
  pub behind : earlier ≡ front ++ Write g cid node table rid image ∷ []

-- A row is written for a command at work at its node, which holds its table there in its statement's mode, unless the transaction has
-- aborted.
pub record WritesAtWork (script : Script) (point : Point) (node : Node) (g : Gxid) (c : Cid) (table : Table) : Type 0 where
  pub line : Stmt
  pub at_work : IsAtWork script point node g c line
  pub mode : Mode
  pub locks : NeedsTable script g line (Relation table) mode
  pub held : is_aborted (before point) g ≡ false → is_held (before point) node g (Relation table) mode ≡ true

-- every wait and every hold is asked for so, and every row is written so
abbrev pub IsAsked : Script → Point → Mark → Type 0
IsAsked script point (Wait node g object mode) = Asks script point node g object mode
IsAsked script point (Hold node g object mode) = Asks script point node g object mode ⊎ GrantsWait script point node g object mode ⊎ LocksItself point.earlier node g object mode
IsAsked script point (Write g c node table rid image) = WritesAtWork script point node g c table
IsAsked script point _ = Unit {0}

abbrev pub AreAskedMarks : Script → List Step → Event → List Mark → List Mark → Type 0
AreAskedMarks script steps event earlier [] = Unit {0}
AreAskedMarks script steps event earlier (m ∷ ms) =
    IsAsked script (record { steps = steps; event = event; earlier = earlier; later = ms }) m × AreAskedMarks script steps event (earlier ++ m ∷ []) ms

abbrev pub AreAsked : Script → List Step → List Step → Type 0
AreAsked script before [] = Unit {0}
AreAsked script before (s ∷ ss) = AreAskedMarks script before s.event [] s.marks × AreAsked script (before ++ s ∷ []) ss
