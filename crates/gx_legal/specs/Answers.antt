-- By what an answer to a line is judged.
use Rattle.std.specs.Prelude.{◌≡◌, ◌+◌, ℕ, Bool, true, false, Option, Some, None}
use Rattle.gx_ids.specs.declared.ids.SessionId.{SessionId}
use Rattle.gx_script.specs.declared.Script.{Script}
use Rattle.gx_store.specs.declared.answer.Refused.{Refused as Reason}
use Rattle.gx_store.specs.declared.answer.Refused.TheVariants.{InFailedBlock, NotInBlock}
use Rattle.gx_store.specs.declared.answer.StmtAnswer.{StmtAnswer}
use Rattle.gx_store.specs.declared.answer.StmtAnswer.TheVariants.{Begin, Commit, Rollback, Refused}
use Rattle.gx_store.specs.Answers.{HasAborted, HasCommitted}
use Rattle.gx_store.specs.Commands.{state_at}
use Rattle.gx_store.specs.Lines.{BlockState, Outside, InBlock, Failed}
use Rattle.gx_store.specs.Marks.{answer_count, is_begun}
use Rattle.gx_store.specs.Points.{Point, before}
use Rattle.gx_store.specs.Parts.{HasSucceeded, IsRefusedFor, IsReply}
use Rattle.gx_tree.specs.declared.stmt.Stmt.{Stmt}
use Rattle.gx_tree.specs.declared.stmt.Stmt.TheVariants as stmt
use Rattle.gx_legal.specs.declared.judgement.Judgement.{Judgement}
use Rattle.gx_legal.specs.declared.judgement.Judgement.TheVariants as by

abbrev pub judged_reply : StmtAnswer → Judgement
judged_reply (Refused reason) = by.Refused reason
judged_reply _ = by.Done

abbrev pub judged_outside : Stmt → StmtAnswer → Judgement
judged_outside (stmt.Begin level) Begin = by.Begun
judged_outside stmt.Commit Commit = by.Holds
judged_outside stmt.Rollback Rollback = by.Holds
judged_outside (stmt.Lock table mode) (Refused NotInBlock) = by.Holds
judged_outside line reply = judged_reply reply

abbrev pub judged_inside : Stmt → StmtAnswer → Judgement
judged_inside (stmt.Begin level) Begin = by.Holds
judged_inside stmt.Commit Commit = by.Committed
judged_inside stmt.Rollback Rollback = by.Aborted
judged_inside line reply = judged_reply reply

abbrev pub judged_failed : Stmt → StmtAnswer → Judgement
judged_failed stmt.Commit Rollback = by.Holds
judged_failed stmt.Rollback Rollback = by.Holds
judged_failed stmt.Commit reply = by.Fails
judged_failed stmt.Rollback reply = by.Fails
judged_failed line (Refused InFailedBlock) = by.Holds
judged_failed line reply = by.Fails

abbrev pub judged : BlockState → Stmt → StmtAnswer → Judgement
judged Outside line reply = judged_outside line reply
judged (InBlock level commands) line reply = judged_inside line reply
judged Failed line reply = judged_failed line reply

-- and a refusal
abbrev pub judged_refusal : BlockState → Stmt → Reason → Judgement
judged_refusal Outside (stmt.Lock table mode) NotInBlock = by.Holds
judged_refusal Failed stmt.Commit reason = by.Fails
judged_refusal Failed stmt.Rollback reason = by.Fails
judged_refusal Failed line InFailedBlock = by.Holds
judged_refusal Failed line reason = by.Fails
judged_refusal state line reason = by.Refused reason

abbrev pub refusal_in : StmtAnswer → Option Reason
refusal_in (Refused reason) = Some reason
refusal_in _ = None

abbrev pub is_refusal : StmtAnswer → Bool
is_refusal (Refused reason) = true
is_refusal _ = false

-- what so judged an answer that is no refusal has to meet
abbrev pub Meets : Script → Point → SessionId → BlockState → Stmt → StmtAnswer → Judgement → Type 0
Meets script point session state line reply by.Holds = Unit {0}
Meets script point session state line reply by.Fails = ⊥
Meets script point session state line reply by.Begun = is_begun session (before point) ≡ true
Meets script point session state line reply by.Committed = HasCommitted point session state
Meets script point session state line reply by.Aborted = HasAborted point session state
Meets script point session state line reply (by.Refused reason) = Unit {0}
Meets script point session state line reply by.Done = HasSucceeded script point session state line reply

-- and a refusal
abbrev pub MeetsAs : Point → SessionId → BlockState → Stmt → Reason → Judgement → Type 0
MeetsAs point session state line reason by.Holds = Unit {0}
MeetsAs point session state line reason (by.Refused other) = IsRefusedFor point session state line reason
MeetsAs point session state line reason _ = ⊥

-- the session's line of this number, which is this one, may have the answer, if that is no refusal
abbrev pub MayReply : Script → Point → SessionId → ℕ → StmtAnswer → Stmt → Type 0
MayReply script point session number answer line =
    (number ≡ answer_count session (before point) + 1) × IsReply script point session (state_at script session point) line answer
