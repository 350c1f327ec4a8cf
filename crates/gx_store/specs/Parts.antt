-- What is legal of a mark, in four parts: writes and skips; statements; refusals; and what is asked beside these, that whoever a round names is
-- cancelled, that each node to which a command goes has returned, and that the segment which refuses has noted the fault. A mark is legal where
-- all four are (`legal_marks_have_four_parts` of gx_legal).
use Rattle.std.specs.Prelude.{◌≡◌, ℕ, ◌+◌, ◌≤◌, true, false, List, length, take, slice_get, Some}
use Rattle.std.specs.declared.option.Option.{Option}
use Rattle.gx_ids.specs.declared.ids.Gxid.{Gxid}
use Rattle.gx_ids.specs.declared.ids.Cid.{Cid}
use Rattle.gx_ids.specs.declared.ids.Node.{Node}
use Rattle.gx_ids.specs.declared.ids.SessionId.{SessionId}
use Rattle.gx_ids.specs.declared.rid.Rid.{Rid}
use Rattle.gx_tree.specs.declared.stmt.Level.{Level}
use Rattle.gx_tree.specs.declared.stmt.Stmt.{Stmt}
use Rattle.gx_tree.specs.declared.stmt.Stmt.TheVariants as stmt
use Rattle.gx_tree.specs.declared.value.Value.{Value}
use Rattle.gx_meaning.specs.declared.fault.ArithFault.{ArithFault}
use Rattle.gx_meaning.specs.declared.fault.ArithFault.TheVariants as arith
use Rattle.gx_msg.specs.declared.reply.Cause.{Cause}
use Rattle.gx_msg.specs.declared.reply.Cause.TheVariants as cause
use Rattle.gx_script.specs.declared.Script.{Script}
use Rattle.gx_store.specs.declared.answer.Refused.{Refused as Reason}
use Rattle.gx_store.specs.declared.answer.Refused.TheVariants.{Serialization, Victim, Overflow, DivisionByZero, InFailedBlock, JournalFault, NotInBlock, Restarted}
use Rattle.gx_store.specs.declared.answer.StmtAnswer.{StmtAnswer}
use Rattle.gx_store.specs.declared.answer.StmtAnswer.TheVariants.{Begin, Commit, Rollback, Refused}
use Rattle.gx_store.specs.declared.mark.Mark.{Mark}
use Rattle.gx_store.specs.declared.mark.Mark.TheVariants as mark
use Rattle.gx_store.specs.Answers.{GoesTo, HasAborted, HasCommitted, IsAtItsEnd, Tells}
use Rattle.gx_store.specs.Commands.{RunsLine, state_at}
use Rattle.gx_store.specs.Faults.{IsFaultOf, LegalFault}
use Rattle.gx_store.specs.Legal.{LegalAbort, LegalCommit, LegalSnap, LegalStart, LegalVerdict}
use Rattle.gx_store.specs.Lines.{BlockState, Failed, InBlock, Outside, cid_of, is_command, level_of, transaction_of}
use Rattle.gx_store.specs.Marks.{answer_count, is_aborted, is_begun}
use Rattle.gx_store.specs.Points.{Point, before, marks_in}
use Rattle.gx_store.specs.Protocol.{IsReturned}
use Rattle.gx_store.specs.Refusals.{HasJournalFailed, HearsCause, HearsFailed, IsCause, IsNamed, IsOvertaken, may_refuse}
use Rattle.gx_store.specs.Writes.{LegalSkip, LegalWrite}

-- WRITES AND SKIPS
abbrev pub IsLegalRow : Script → Point → Mark → Type 0
IsLegalRow script point (mark.Write g c node table rid image) = LegalWrite script point g c node table rid image
IsLegalRow script point (mark.Skip g c rid) = LegalSkip script point g c rid
IsLegalRow script point _ = Unit {0}

-- STATEMENTS
-- the line is a command, which succeeded, and did what its answer says
pub record HasSucceeded (script : Script) (point : Point) (session : SessionId) (state : BlockState) (line : Stmt) (answer : StmtAnswer) : Type 0 where
  pub command : is_command state line ≡ true
  pub g : Gxid
  pub transaction : transaction_of state session (before point) ≡ Some g
  pub end : IsAtItsEnd state point g
  pub told : Tells script (before point) (level_of state) g (cid_of state) line answer

-- an answer that is no refusal
abbrev pub IsReply : Script → Point → SessionId → BlockState → Stmt → StmtAnswer → Type 0
IsReply script point session state line (Refused reason) = Unit {0}
IsReply script point session Outside (stmt.Begin level) Begin = is_begun session (before point) ≡ true
IsReply script point session Outside stmt.Commit Commit = Unit {0}
IsReply script point session Outside stmt.Rollback Rollback = Unit {0}
IsReply script point session (InBlock level commands) (stmt.Begin other) Begin = Unit {0}
IsReply script point session (InBlock level commands) stmt.Commit Commit = HasCommitted point session (InBlock level commands)
IsReply script point session (InBlock level commands) stmt.Rollback Rollback = HasAborted point session (InBlock level commands)
IsReply script point session Failed stmt.Commit Rollback = Unit {0}
IsReply script point session Failed stmt.Rollback Rollback = Unit {0}
IsReply script point session Failed line reply = ⊥
IsReply script point session state line reply = HasSucceeded script point session state line reply

-- a session's lines are answered in their order, each once it was started
pub record IsLegalReply (script : Script) (point : Point) (session : SessionId) (number : ℕ) (answer : StmtAnswer) : Type 0 where
  pub order : number ≡ answer_count session (before point) + 1
  pub line : Stmt
  pub runs : RunsLine script point session line
  pub is : IsReply script point session (state_at script session point) line answer

abbrev pub IsLegalStatement : Script → Point → Mark → Type 0
IsLegalStatement script point (mark.Start g s) = LegalStart script point g s
IsLegalStatement script point (mark.Snap g c s) = LegalSnap script point g c s
IsLegalStatement script point (mark.Commit g) = LegalCommit script point g
IsLegalStatement script point (mark.Abort g) = LegalAbort script point g
IsLegalStatement script point (mark.Answer s n a) = IsLegalReply script point s n a
IsLegalStatement script point _ = Unit {0}

-- REFUSALS
-- an INSERT's fault stands in the step of its refusal; of another command FAILED is received, for this cause
abbrev pub IsSaid : Point → ℕ → Stmt → Gxid → Cid → Cause → Type 0
IsSaid point place (stmt.Insert table tuples) g c reason = length (marks_in point.steps) ≤ place
IsSaid point place _ g c reason = (segment : Node) × HearsFailed point segment g c × HearsCause point segment g c reason

-- an evaluation of the command faulted so, before its transaction aborted, whoever noted it
pub record IsFaulted (point : Point) (line : Stmt) (level : Level) (g : Gxid) (c : Cid) (fault : ArithFault) (reason : Cause) : Type 0 where
  pub place : ℕ
  pub rid : Rid
  pub image : Option (List Value)
  pub noted : slice_get (before point) place ≡ Some (mark.Fault g c rid image)
  pub unaborted : is_aborted (take place (before point)) g ≡ false
  pub faults : IsFaultOf (take place (before point)) level g c line rid image fault
  pub said : IsSaid point place line g c reason

abbrev pub IsReason : Point → Stmt → Level → Gxid → Cid → Reason → Type 0
IsReason point line level g c (Serialization rid h) = IsOvertaken point line level g c rid h
IsReason point line level g c (Victim round) = IsNamed point.earlier round g
IsReason point line level g c Overflow = IsFaulted point line level g c arith.Overflow cause.Overflow
IsReason point line level g c DivisionByZero = IsFaulted point line level g c arith.DivisionByZero cause.DivisionByZero
IsReason point line level g c (JournalFault node) = HasJournalFailed point g node
IsReason point line level g c InFailedBlock = ⊥
IsReason point line level g c NotInBlock = ⊥
IsReason point line level g c (Restarted node) = ⊥

-- a line that has a transaction is refused for a reason, in the step in which the transaction aborts
pub record IsRefusedFor (point : Point) (session : SessionId) (state : BlockState) (line : Stmt) (reason : Reason) : Type 0 where
  pub kind : may_refuse state line reason ≡ true
  pub g : Gxid
  pub transaction : transaction_of state session (before point) ≡ Some g
  pub aborted : is_aborted point.earlier g ≡ true
  pub why : IsReason point line (level_of state) g (cid_of state) reason

abbrev pub IsRefused : Point → SessionId → BlockState → Stmt → Reason → Type 0
IsRefused point session Outside (stmt.Lock table mode) NotInBlock = Unit {0}
IsRefused point session Failed stmt.Commit reason = ⊥
IsRefused point session Failed stmt.Rollback reason = ⊥
IsRefused point session Failed line InFailedBlock = Unit {0}
IsRefused point session Failed line reason = ⊥
IsRefused point session state line reason = IsRefusedFor point session state line reason

pub record IsLegalRefused (script : Script) (point : Point) (session : SessionId) (reason : Reason) : Type 0 where
  pub line : Stmt
  pub runs : RunsLine script point session line
  pub is : IsRefused point session (state_at script session point) line reason

abbrev pub IsAnswerRefused : Script → Point → SessionId → StmtAnswer → Type 0
IsAnswerRefused script point session (Refused reason) = IsLegalRefused script point session reason
IsAnswerRefused script point session _ = Unit {0}

abbrev pub IsLegalRefusal : Script → Point → Mark → Type 0
IsLegalRefusal script point (mark.Fault g c rid image) = LegalFault script point g c rid image
IsLegalRefusal script point (mark.Answer s n a) = IsAnswerRefused script point s a
IsLegalRefusal script point _ = Unit {0}

-- BESIDE THESE
-- where the session's line is a command, each node to which it goes has returned
abbrev pub IsLineBack : Script → Point → SessionId → Stmt → Type 0
IsLineBack script point session line = is_command (state_at script session point) line ≡ true
    → (g : Gxid) → transaction_of (state_at script session point) session (before point) ≡ Some g
    → (node : Node) → GoesTo script g (cid_of (state_at script session point)) line node → IsReturned point g (cid_of (state_at script session point)) node

abbrev pub HasReturned : Script → Point → SessionId → Type 0
HasReturned script point session = (line : Stmt) → RunsLine script point session line → IsLineBack script point session line

-- where the session's line may be refused so, its cause stands as a segment has noted it
abbrev pub IsLineCaused : Script → Point → SessionId → Reason → Stmt → Type 0
IsLineCaused script point session reason line = may_refuse (state_at script session point) line reason ≡ true
    → (g : Gxid) → transaction_of (state_at script session point) session (before point) ≡ Some g
    → IsCause point line (level_of (state_at script session point)) g (cid_of (state_at script session point)) reason

abbrev pub HasCause : Script → Point → SessionId → Reason → Type 0
HasCause script point session reason = (line : Stmt) → RunsLine script point session line → IsLineCaused script point session reason line

abbrev pub IsAnswerBeside : Script → Point → SessionId → StmtAnswer → Type 0
IsAnswerBeside script point session (Refused reason) = HasCause script point session reason
IsAnswerBeside script point session _ = HasReturned script point session

abbrev pub IsLegalBeside : Script → Point → Mark → Type 0
IsLegalBeside script point (mark.Recheck round own verdict) = LegalVerdict point round verdict
IsLegalBeside script point (mark.Answer s n a) = IsAnswerBeside script point s a
IsLegalBeside script point _ = Unit {0}
