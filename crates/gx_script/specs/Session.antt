-- The table of what a session's line does, by where the session stands.
use Rattle.std.specs.Prelude.{◌≡◌, true, false}
use Rattle.gx_tree.specs.declared.stmt.Stmt.{Stmt}
use Rattle.gx_tree.specs.declared.stmt.Stmt.TheVariants as stmt
use Rattle.gx_script.specs.declared.line_step.LineStep.{LineStep}
use Rattle.gx_script.specs.declared.line_step.LineStep.TheVariants.{Answer, InFailedBlock, NotInBlock, BeginBlock, CommitBlock, RollbackBlock, Command}
use Rattle.gx_script.specs.declared.line_step.Plain.TheVariants as plain
use Rattle.gx_script.specs.declared.state.Block.{Block}
use Rattle.gx_script.specs.declared.state.Block.TheVariants.{Outside, Open, Failed}
use Rattle.gx_script.specs.declared.state.Pending.{Pending}
use Rattle.gx_script.specs.declared.state.Pending.TheVariants as pending
use Rattle.gx_script.specs.declared.state.SessionState.{SessionState}

abbrev pub IsIdle : SessionState → Type 0
IsIdle s = s.pending ≡ pending.Nothing

abbrev pub idle_in : Block → SessionState
idle_in block = record { block = block; pending = pending.Nothing }

abbrev pub idle_outside : SessionState
idle_outside = idle_in Outside

-- what a line asks for
abbrev pub line_step : Block → Stmt → LineStep
line_step Outside (stmt.Begin level) = BeginBlock level
line_step Outside stmt.Commit = Answer plain.Commit
line_step Outside stmt.Rollback = Answer plain.Rollback
line_step Outside (stmt.Lock table mode) = NotInBlock
line_step Outside _ = Command true
line_step (Open level) (stmt.Begin other) = Answer plain.Begin
line_step (Open level) stmt.Commit = CommitBlock
line_step (Open level) stmt.Rollback = RollbackBlock
line_step (Open level) _ = Command false
line_step Failed stmt.Commit = Answer plain.Rollback
line_step Failed stmt.Rollback = Answer plain.Rollback
line_step Failed _ = InFailedBlock

-- the block after a line has asked for this: a commit closes it when it has ended
abbrev pub block_after : Block → LineStep → Block
block_after Outside (BeginBlock level) = Open level
block_after (Open level) RollbackBlock = Outside
block_after Failed (Answer plain) = Outside
block_after block _ = block

-- what the session then waits for
abbrev pub pending_after : LineStep → Pending
pending_after CommitBlock = pending.Commit
pending_after (Command alone) = pending.Command
pending_after _ = pending.Nothing

abbrev pub after_line : Block → LineStep → SessionState
after_line block step = record { block = block_after block step; pending = pending_after step }

-- a commit that has ended closes the block
abbrev pub block_after_done : Block → Pending → Block
block_after_done block pending.Commit = Outside
block_after_done block _ = block

abbrev pub after_done : SessionState → SessionState
after_done s = idle_in (block_after_done s.block s.pending)

-- a command's refusal makes its block fail, and a commit's closes it
abbrev pub block_after_refusal : Block → Pending → Block
block_after_refusal block pending.Commit = Outside
block_after_refusal (Open level) pending.Command = Failed
block_after_refusal block _ = block

abbrev pub after_refused : SessionState → SessionState
after_refused s = idle_in (block_after_refusal s.block s.pending)
