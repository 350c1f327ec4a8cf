-- The lines of a script, by session, and where a session stands between them: outside a block, in one, or in a failed one.
use Rattle.std.specs.Prelude.{◌≡◌, ℕ, ◌+◌, ◌==◌, Bool, true, false, if◌then◌else◌, ◌&&◌, List, [], ◌∷◌, Some, None}
use Rattle.std.specs.declared.option.Option.{Option}
use Rattle.gx_ids.specs.declared.ids.Gxid.{Gxid}
use Rattle.gx_ids.specs.declared.ids.Cid.{Cid}
use Rattle.gx_ids.specs.declared.ids.SessionId.{SessionId}
use Rattle.gx_tree.specs.declared.stmt.Level.{Level}
use Rattle.gx_tree.specs.declared.stmt.Level.TheVariants.{ReadCommitted}
use Rattle.gx_tree.specs.declared.stmt.Stmt.{Stmt}
use Rattle.gx_tree.specs.declared.stmt.Stmt.TheVariants.{Begin, Commit, Rollback, Select, Insert, Update, Delete, Lock}
use Rattle.gx_script.specs.declared.Line.{Line}
use Rattle.gx_script.specs.declared.Script.{Script}
use Rattle.gx_store.specs.declared.answer.StmtAnswer.{StmtAnswer}
use Rattle.gx_store.specs.declared.answer.StmtAnswer.TheVariants as answer
use Rattle.gx_store.specs.declared.mark.Mark.{Mark}
use Rattle.gx_store.specs.declared.mark.Mark.TheVariants as mark
use Rattle.gx_store.specs.Marks.{answer_count, is_begun, is_same_session, started_after}

-- the statement of a session's line of this number
abbrev pub stmt_of : SessionId → ℕ → List Line → Option Stmt
stmt_of session number [] = None
stmt_of session number (l ∷ ls) = if is_same_session l.session session && (l.number == number) then Some l.stmt else stmt_of session number ls

-- how many lines the session has
abbrev pub line_count : SessionId → List Line → ℕ
line_count session [] = 0
line_count session (l ∷ ls) = if is_same_session l.session session then line_count session ls + 1 else line_count session ls

-- the statement of the session's first line that isn't answered
abbrev pub next_stmt : SessionId → Script → List Mark → Option Stmt
next_stmt session script marks = stmt_of session (answer_count session marks + 1) script.lines

-- every line of every session was answered
abbrev pub AreAllAnswered : Script → List Mark → Type 0
AreAllAnswered script marks = (session : SessionId) → answer_count session marks ≡ line_count session script.lines

-- WHERE A SESSION STANDS
-- outside a block, in one of a level after so many of its commands, or in one that has failed
pub data BlockState : Type 0 where
  Outside : BlockState
  InBlock : (level : Level) (commands : ℕ) → BlockState
  Failed : BlockState

-- SELECT, INSERT, UPDATE and DELETE
abbrev pub is_on_rows : Stmt → Bool
is_on_rows (Select query) = true
is_on_rows (Insert table tuples) = true
is_on_rows (Update table assigns cond) = true
is_on_rows (Delete table cond) = true
is_on_rows _ = false

-- the line is a command there; LOCK TABLE is one in a block alone
abbrev pub is_command : BlockState → Stmt → Bool
is_command Outside stmt = is_on_rows stmt
is_command (InBlock level commands) (Lock table mode) = true
is_command (InBlock level commands) stmt = is_on_rows stmt
is_command Failed stmt = false

-- a line with which a transaction may commit: COMMIT in its block, or its one command
abbrev pub may_commit : BlockState → Stmt → Bool
may_commit Outside stmt = is_on_rows stmt
may_commit (InBlock level commands) Commit = true
may_commit _ stmt = false

-- where the session stands once the line has this answer
abbrev pub state_after : BlockState → Stmt → StmtAnswer → BlockState
state_after Outside (Begin level) reply = InBlock level 0
state_after Outside stmt reply = Outside
state_after (InBlock level commands) (Begin other) reply = InBlock level commands
state_after (InBlock level commands) Commit reply = Outside
state_after (InBlock level commands) Rollback reply = Outside
state_after (InBlock level commands) stmt (answer.Refused reason) = Failed
state_after (InBlock level commands) stmt reply = InBlock level (commands + 1)
state_after Failed Commit reply = Outside
state_after Failed Rollback reply = Outside
state_after Failed stmt reply = Failed

abbrev pub state_after_line : BlockState → Option Stmt → StmtAnswer → BlockState
state_after_line state None reply = state
state_after_line state (Some stmt) reply = state_after state stmt reply

-- where the session stands after these marks, from where it stood before them
abbrev pub state_from : Script → SessionId → BlockState → List Mark → BlockState
state_from script session state [] = state
state_from script session state (mark.Answer s n reply ∷ ms) =
    state_from script session (if is_same_session s session then state_after_line state (stmt_of session n script.lines) reply else state) ms
state_from script session state (_ ∷ ms) = state_from script session state ms

abbrev pub state_of : Script → SessionId → List Mark → BlockState
state_of script session marks = state_from script session Outside marks

-- a statement outside a block is at read committed, and the first command of its transaction
abbrev pub level_of : BlockState → Level
level_of (InBlock level commands) = level
level_of _ = ReadCommitted

abbrev pub cid_of : BlockState → Cid
cid_of (InBlock level commands) = record { 0 = commands + 1 }
cid_of _ = record { 0 = 1 }

-- the transaction that the session is in: its block's, or outside a block that of the line under way
abbrev pub transaction_of : BlockState → SessionId → List Mark → Option Gxid
transaction_of Outside session marks = if is_begun session marks then started_after session None marks else None
transaction_of (InBlock level commands) session marks = started_after session None marks
transaction_of Failed session marks = None
