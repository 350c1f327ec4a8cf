-- What is true of a segment's answer to a command, by the marks behind the step that sent it first.
use Rattle.std.specs.Prelude.{◌≡◌, ◌≤◌, ◌⊎◌, ◌+◌, ℕ, true, false, List, [], ◌∷◌, ◌++◌, length, take, slice_get, Some}
use Rattle.std.specs.declared.option.Option.{Option}
use Rattle.gx_ids.specs.declared.ids.Cid.{Cid}
use Rattle.gx_ids.specs.declared.ids.Gxid.{Gxid}
use Rattle.gx_ids.specs.declared.ids.Node.{Node}
use Rattle.gx_ids.specs.declared.ids.Table.{Table}
use Rattle.gx_ids.specs.declared.rid.Rid.{Rid}
use Rattle.gx_modes.specs.declared.modes.Mode.{Mode}
use Rattle.gx_tree.specs.declared.part.Part.{Part}
use Rattle.gx_tree.specs.declared.cond.Cond.{Cond}
use Rattle.gx_tree.specs.declared.query.Query.{Query}
use Rattle.gx_tree.specs.declared.row.KeyedRow.{KeyedRow}
use Rattle.gx_tree.specs.declared.slice.Slice.{Slice}
use Rattle.gx_tree.specs.declared.slice.Slice.TheVariants as slice
use Rattle.gx_tree.specs.declared.stmt.Level.{Level}
use Rattle.gx_tree.specs.declared.stmt.Level.TheVariants.{RepeatableRead}
use Rattle.gx_tree.specs.declared.stmt.Stmt.{Stmt}
use Rattle.gx_tree.specs.declared.stmt.Stmt.TheVariants as stmt
use Rattle.gx_tree.specs.declared.value.Value.{Value}
use Rattle.gx_meaning.specs.declared.fault.ArithFault.{ArithFault}
use Rattle.gx_msg.specs.declared.message.Message.TheVariants as message
use Rattle.gx_msg.specs.declared.reply.Cause.{Cause}
use Rattle.gx_msg.specs.declared.reply.Cause.TheVariants.{Serialization}
use Rattle.gx_msg.specs.declared.reply.Reply.{Reply}
use Rattle.gx_msg.specs.declared.reply.Reply.TheVariants as reply
use Rattle.gx_store.specs.declared.mark.Mark.{Mark}
use Rattle.gx_store.specs.declared.mark.Mark.TheVariants as mark
use Rattle.gx_store.specs.Commands.{IsSnapshotAt}
use Rattle.gx_store.specs.Faults.{IsFaultOf}
use Rattle.gx_store.specs.Marks.{is_aborted, is_ended}
use Rattle.gx_store.specs.Refusals.{IsOvertakenRow, the_coordinator}
use Rattle.gx_store.specs.Waits.{is_held}
use Rattle.gx_waits.specs.declared.object.Object.TheVariants.{Relation}
use Rattle.gx_rules.specs.Slices.{cause_of}
use Rattle.gx_law_writes.specs.Rows.{is_own_written}
use Rattle.gx_law_writes.specs.Says.{IsPartDone}
use Rattle.gx_law_answers.specs.Parts.{SaysItsPart}

-- the part is of the node's rows of what the command sees
pub record IsTruePart (marks : List Mark) (node : Node) (level : Level) (g : Gxid) (c : Cid) (query : Query) (part : Part) : Type 0 where
  pub place : ℕ
  pub taken : IsSnapshotAt marks level g c place
  pub says : SaysItsPart marks (take place marks) node g c query part

-- An evaluation of the command has faulted so, before its transaction was aborted; this was noted in the step.
pub record IsTrueFault (before marks : List Mark) (level : Level) (g : Gxid) (c : Cid) (line : Stmt) (cause : Cause) : Type 0 where
  pub place : ℕ
  pub behind : length before ≤ place
  pub rid : Rid
  pub image : Option (List Value)
  pub fault : ArithFault
  pub noted : slice_get marks place ≡ Some (mark.Fault g c rid image)
  pub unaborted : is_aborted (take place marks) g ≡ false
  pub faults : IsFaultOf (take place marks) level g c line rid image fault
  pub is : cause ≡ cause_of fault

-- A SELECT's fault is noted directly behind the mark of its table's lock.
pub record IsTrueSelectFault (before marks : List Mark) (level : Level) (g : Gxid) (c : Cid) (query : Query) (cause : Cause) : Type 0 where
  pub fault : IsTrueFault before marks level g c (stmt.Select query) cause
  pub behind_lock : fault.place ≡ length before + 1

abbrev pub AreWritten : List Mark → List KeyedRow → Type 0
AreWritten marks [] = Unit {0}
AreWritten marks (row ∷ rows) = (is_own_written marks row.rid ≡ true) × AreWritten marks rows

-- the mode is held on the table at the node, and at the coordinator too, unless the transaction has ended
pub record IsLocked (marks : List Mark) (node : Node) (g : Gxid) (table : Table) (mode : Mode) : Type 0 where
  pub segment : is_held marks node g (Relation table) mode ≡ true
  pub coordinator : is_ended marks g ≡ false → is_held marks the_coordinator g (Relation table) mode ≡ true

-- marks that send nothing
abbrev pub SendNothing : List Mark → Type 0
SendNothing [] = Unit {0}
SendNothing (mark.Sent to number told ∷ ms) = ⊥
SendNothing (_ ∷ ms) = SendNothing ms

-- At repeatable read a selected row was overtaken, at the point of the step where its answer is sent.
pub record IsTrueLoss (before marks : List Mark) (level : Level) (g : Gxid) (c : Cid) (table : Table) (cond : Option Cond) (cause : Cause) : Type 0 where
  pub own : List Mark
  pub number : ℕ
  pub are : marks ≡ before ++ (own ++ mark.Sent the_coordinator number (message.Answer g (reply.Failed c cause)) ∷ [])
  pub silent : SendNothing own
  pub isolation : level ≡ RepeatableRead
  pub rid : Rid
  pub writer : Gxid
  pub is : cause ≡ Serialization rid writer
  pub row : IsOvertakenRow (before ++ own) level g c table cond rid writer

-- an UPDATE or DELETE has failed
abbrev pub IsTrueFailure : List Mark → List Mark → Level → Gxid → Cid → Stmt → Table → Option Cond → Cause → Type 0
IsTrueFailure before marks level g c line table cond cause =
    (is_aborted marks g ≡ true) ⊎ IsTrueFault before marks level g c line cause ⊎ IsTrueLoss before marks level g c table cond cause

-- A SELECT's answer is its part, or the fault of its condition, unless its transaction has aborted; an INSERT's counts the rows
-- that were sent to it, which are all written; an UPDATE's or DELETE's counts the rows that it has written there, and all that it
-- selects are processed, or it tells of a fault or of a row that was overtaken, unless its transaction has aborted; a LOCK TABLE's counts
-- none, and its mode is held.
abbrev pub IsTruth : List Mark → List Mark → Node → Level → Gxid → Cid → Slice → Reply → Type 0
IsTruth before marks node level g c (slice.Select query) (reply.Done d wrote count part) = (is_aborted marks g ≡ true) ⊎ IsTruePart marks node level g c query part
IsTruth before marks node level g c (slice.Select query) (reply.Failed d cause) = (is_aborted marks g ≡ true) ⊎ IsTrueSelectFault before marks level g c query cause
IsTruth before marks node level g c (slice.Insert table rows) (reply.Done d wrote count part) = (count ≡ length rows) × AreWritten marks rows
IsTruth before marks node level g c (slice.Update table assigns cond) (reply.Done d wrote count part) = (is_aborted marks g ≡ true) ⊎ IsPartDone marks node level g c table cond count
IsTruth before marks node level g c (slice.Update table assigns cond) (reply.Failed d cause) = IsTrueFailure before marks level g c (stmt.Update table assigns cond) table cond cause
IsTruth before marks node level g c (slice.Delete table cond) (reply.Done d wrote count part) = (is_aborted marks g ≡ true) ⊎ IsPartDone marks node level g c table cond count
IsTruth before marks node level g c (slice.Delete table cond) (reply.Failed d cause) = IsTrueFailure before marks level g c (stmt.Delete table cond) table cond cause
IsTruth before marks node level g c (slice.Lock table mode) (reply.Done d wrote count part) = (count ≡ 0) × IsLocked marks node g table mode
IsTruth before marks node level g c slice r = ⊥
