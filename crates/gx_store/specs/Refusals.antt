-- When a statement may be refused, and for what.
use Rattle.std.specs.Prelude.{◌≡◌, ◌⊎◌, ℕ, ◌<◌, ◌≤◌, Bool, true, false, not, ◌&&◌, List, length, take, slice_get, Some, Contains, zero, suc}
use Rattle.std.specs.declared.option.Option.{Option}
use Rattle.gx_ids.specs.declared.ids.Gxid.{Gxid}
use Rattle.gx_ids.specs.declared.ids.Cid.{Cid}
use Rattle.gx_ids.specs.declared.ids.Node.{Node}
use Rattle.gx_ids.specs.declared.ids.SessionId.{SessionId}
use Rattle.gx_ids.specs.declared.ids.Table.{Table}
use Rattle.gx_ids.specs.declared.rid.Rid.{Rid}
use Rattle.gx_tree.specs.declared.cond.Cond.{Cond}
use Rattle.gx_tree.specs.declared.stmt.Level.{Level}
use Rattle.gx_tree.specs.declared.stmt.Level.TheVariants.{RepeatableRead}
use Rattle.gx_tree.specs.declared.stmt.Stmt.{Stmt}
use Rattle.gx_tree.specs.declared.stmt.Stmt.TheVariants.{Commit, Insert, Update, Delete}
use Rattle.gx_tree.specs.declared.value.Value.{Value}
use Rattle.gx_meaning.specs.declared.fault.ArithFault.{ArithFault}
use Rattle.gx_meaning.specs.declared.fault.ArithFault.TheVariants as arith
use Rattle.gx_msg.specs.declared.message.Message.{Message}
use Rattle.gx_msg.specs.declared.message.Message.TheVariants as message
use Rattle.gx_msg.specs.declared.reply.Cause.{Cause}
use Rattle.gx_msg.specs.declared.reply.Cause.TheVariants as cause
use Rattle.gx_msg.specs.declared.reply.Reply.TheVariants as reply
use Rattle.gx_script.specs.declared.Script.{Script}
use Rattle.gx_waits.specs.declared.graph.LocalGraph.{LocalGraph}
use Rattle.gx_waits.specs.declared.verdict.Verdict.TheVariants.{Victims}
use Rattle.gx_store.specs.declared.answer.Refused.{Refused}
use Rattle.gx_store.specs.declared.answer.Refused.TheVariants.{Serialization, Victim, Overflow, DivisionByZero, InFailedBlock, JournalFault, NotInBlock, Restarted}
use Rattle.gx_store.specs.declared.mark.Mark.{Mark}
use Rattle.gx_store.specs.declared.mark.Mark.TheVariants.{Fault, JournalFailed, Recheck}
use Rattle.gx_store.specs.declared.run.Step.{Step}
use Rattle.gx_store.specs.Faults.{IsFaultOf}
use Rattle.gx_store.specs.Lines.{BlockState, InBlock, cid_of, is_command, level_of, transaction_of}
use Rattle.gx_store.specs.Marks.{is_aborted, is_committed}
use Rattle.gx_store.specs.Messages.{IsSending, Receives, marks_before}
use Rattle.gx_store.specs.Points.{Point, before, marks_in}
use Rattle.gx_store.specs.Writes.{IsSelectedAndFree}

abbrev pub the_coordinator : Node
the_coordinator = record { 0 = 0 }

-- FAILED OF A COMMAND
-- That it failed is said by a message's kind, transaction and command, and what it failed for by the message's content, of which a trace
-- prints nothing.
abbrev pub failed : Gxid → Cid → Cause → Message
failed g c reason = message.Answer g (reply.Failed c reason)

-- the point's step receives FAILED of the command from the segment, whatever its cause
abbrev pub HearsFailed : Point → Node → Gxid → Cid → Type 0
HearsFailed point segment g c = (reason : Cause) × Receives point.steps point.event segment the_coordinator (failed g c reason)

-- the message that is received has this cause
abbrev pub HearsCause : Point → Node → Gxid → Cid → Cause → Type 0
HearsCause point segment g c reason = Receives point.steps point.event segment the_coordinator (failed g c reason)

-- the marks before the segment first sends FAILED of the command, whatever its cause
pub record IsFirstFailed (steps : List Step) (segment : Node) (g : Gxid) (c : Cid) (marks : List Mark) : Type 0 where
  pub step : ℕ
  pub mark : ℕ
  pub number : ℕ
  pub reason : Cause
  pub sending : IsSending steps step mark segment the_coordinator number (failed g c reason)
  pub first : (s m n : ℕ) (other : Cause) → IsSending steps s m segment the_coordinator n (failed g c other) → ((step < s) ⊎ ((step ≡ s) × (mark ≤ m)))
  pub before : marks ≡ marks_before steps step mark

-- FAULTS
-- FAILED of the command is received from a segment, which had noted the fault when it first sent one: in that step or before.
pub record IsWord (point : Point) (g : Gxid) (c : Cid) (rid : Rid) (image : Option (List Value)) (reason : Cause) : Type 0 where
  pub segment : Node
  pub received : HearsFailed point segment g c
  pub content : HearsCause point segment g c reason
  pub then : List Mark
  pub first : IsFirstFailed point.steps segment g c then
  pub place : ℕ
  pub step : Step
  pub at : slice_get point.steps place ≡ Some step
  pub by_then : place ≤ first.step
  pub node : step.stamp.node ≡ segment
  pub noted : Contains step.marks (Fault g c rid image)

-- An INSERT's constants are evaluated at the coordinator, in the step of its refusal, which notes the fault. Of another
-- command a segment has noted it, and says that it failed.
abbrev pub IsHeard : Point → ℕ → Stmt → Gxid → Cid → Rid → Option (List Value) → Cause → Type 0
IsHeard point place (Insert table tuples) g c rid image reason = length (marks_in point.steps) ≤ place
IsHeard point place _ g c rid image reason = IsWord point g c rid image reason

-- an evaluation of the command faulted so, before its transaction aborted, and this is why it is refused
pub record HasFaulted (point : Point) (stmt : Stmt) (level : Level) (g : Gxid) (c : Cid) (fault : ArithFault) (reason : Cause) : Type 0 where
  pub place : ℕ
  pub rid : Rid
  pub image : Option (List Value)
  pub noted : slice_get (before point) place ≡ Some (Fault g c rid image)
  pub unaborted : is_aborted (take place (before point)) g ≡ false
  pub faults : IsFaultOf (take place (before point)) level g c stmt rid image fault
  pub heard : IsHeard point place stmt g c rid image reason

-- OVERTAKEN ROWS
-- the condition of an UPDATE or DELETE
abbrev pub IsChange : Stmt → Table → Option Cond → Type 0
IsChange (Update t assigns where_) table cond = (t ≡ table) × (where_ ≡ cond)
IsChange (Delete t where_) table cond = (t ≡ table) × (where_ ≡ cond)
IsChange _ table cond = ⊥

-- a selected row's current write is of a transaction that committed after the snapshot
pub record IsOvertakenRow (marks : List Mark) (level : Level) (g : Gxid) (c : Cid) (table : Table) (cond : Option Cond) (rid : Rid) (h : Gxid) : Type 0 where
  pub selected : IsSelectedAndFree marks level g c table cond rid
  pub writer : selected.write.gxid ≡ h
  pub committed : is_committed marks h ≡ true
  pub unseen : is_committed (take selected.place marks) h ≡ false

-- At repeatable read, a selected row's current write is of a transaction that committed after the snapshot. This held when a segment first sent
-- FAILED of the command, which the step receives from it.
pub record IsOvertaken (point : Point) (stmt : Stmt) (level : Level) (g : Gxid) (c : Cid) (rid : Rid) (h : Gxid) : Type 0 where
  pub isolation : level ≡ RepeatableRead
  pub table : Table
  pub cond : Option Cond
  pub change : IsChange stmt table cond
  pub segment : Node
  pub received : HearsFailed point segment g c
  pub content : HearsCause point segment g c (cause.Serialization rid h)
  pub then : List Mark
  pub first : IsFirstFailed point.steps segment g c then
  pub rows : IsOvertakenRow then level g c table cond rid h

-- OTHER CAUSES
-- the step's detector round has named the transaction
pub record IsNamed (earlier : List Mark) (round : ℕ) (g : Gxid) : Type 0 where
  pub place : ℕ
  pub own : LocalGraph
  pub victims : List Gxid
  pub verdict : slice_get earlier place ≡ Some (Recheck round own (Victims victims))
  pub named : Contains victims g

-- the coordinator's journal failed in this step, or a segment's has failed and the step receives its word
abbrev pub HasJournalFailed : Point → Gxid → Node → Type 0
HasJournalFailed point g node = failed_at node.0
  where
    failed_at : ℕ → Type 0
    failed_at zero = Contains point.earlier (JournalFailed node g)
    failed_at (suc i) = Receives point.steps point.event node the_coordinator (message.Answer g reply.Jfault) × Contains (before point) (JournalFailed node g)

-- no segment restarts yet
abbrev pub IsCause : Point → Stmt → Level → Gxid → Cid → Refused → Type 0
IsCause point stmt level g c (Serialization rid h) = IsOvertaken point stmt level g c rid h
IsCause point stmt level g c (Victim round) = IsNamed point.earlier round g
IsCause point stmt level g c Overflow = HasFaulted point stmt level g c arith.Overflow cause.Overflow
IsCause point stmt level g c DivisionByZero = HasFaulted point stmt level g c arith.DivisionByZero cause.DivisionByZero
IsCause point stmt level g c (JournalFault node) = HasJournalFailed point g node
IsCause point stmt level g c InFailedBlock = ⊥
IsCause point stmt level g c NotInBlock = ⊥
IsCause point stmt level g c (Restarted node) = ⊥

abbrev pub is_journal : Refused → Bool
is_journal (JournalFault node) = true
is_journal _ = false

-- A line that may be refused so: in a block COMMIT for a journal alone, and a command for all else; outside one a command.
abbrev pub may_refuse : BlockState → Stmt → Refused → Bool
may_refuse (InBlock level commands) Commit reason = is_journal reason
may_refuse (InBlock level commands) line reason = is_command (InBlock level commands) line && not (is_journal reason)
may_refuse state line reason = is_command state line

-- a line that has a transaction is refused for a cause, in the step in which the transaction aborts
pub record IsRefusal (script : Script) (point : Point) (session : SessionId) (state : BlockState) (stmt : Stmt) (reason : Refused) : Type 0 where
  pub kind : may_refuse state stmt reason ≡ true
  pub g : Gxid
  pub transaction : transaction_of state session (before point) ≡ Some g
  pub aborted : is_aborted point.earlier g ≡ true
  pub cause : IsCause point stmt (level_of state) g (cid_of state) reason
