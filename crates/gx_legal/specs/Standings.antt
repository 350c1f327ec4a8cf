-- Where a session stands behind marks.
use Rattle.std.specs.Prelude.{◌≡◌, ℕ, ◌+◌, ◌<◌, ◌≤◌, ◌^◌, List, None}
use Rattle.gx_ids.specs.declared.ids.SessionId.{SessionId}
use Rattle.gx_script.specs.declared.Script.{Script}
use Rattle.gx_store.specs.declared.mark.Mark.{Mark}
use Rattle.gx_store.specs.Lines.{BlockState, InBlock, state_from, state_of}
use Rattle.gx_store.specs.Lines as lines
use Rattle.gx_store.specs.Marks.{answer_count, is_begun, is_begun_after, started_after}
use Rattle.gx_legal.specs.declared.standing.Block.{Block}
use Rattle.gx_legal.specs.declared.standing.Block.TheVariants as block
use Rattle.gx_legal.specs.declared.standing.Standing.{Standing}

abbrev pub state_in : Block → BlockState
state_in block.Outside = lines.Outside
state_in (block.Inside level commands) = InBlock level commands
state_in block.Failed = lines.Failed

-- how many commands its block has had
abbrev pub commands_in : Block → ℕ
commands_in (block.Inside level commands) = commands
commands_in _ = 0

abbrev pub commands_of : BlockState → ℕ
commands_of (InBlock level commands) = commands
commands_of _ = 0

-- its next command has a number of 32 bits
abbrev pub HasNumber : BlockState → Type 0
HasNumber state = commands_of state + 1 < 2 ^ 32

-- a session that stood so stands so behind these marks
pub record IsMoved (script : Script) (session : SessionId) (old : Standing) (marks : List Mark) (new : Standing) : Type 0 where
  pub state : state_in new.block ≡ state_from script session (state_in old.block) marks
  pub begun : new.begun ≡ is_begun_after session old.begun marks
  pub started : new.started ≡ started_after session old.started marks
  pub answered : new.answered ≡ old.answered + answer_count session marks

-- one more mark makes its counts greater by one at most
pub record HasRoom (old new : Standing) : Type 0 where
  pub commands : commands_in new.block ≤ commands_in old.block + 1
  pub answers : new.answered ≤ old.answered + 1

-- it stands so behind all marks of a run so far
pub record IsStanding (script : Script) (session : SessionId) (marks : List Mark) (standing : Standing) : Type 0 where
  pub state : state_in standing.block ≡ state_of script session marks
  pub begun : standing.begun ≡ is_begun session marks
  pub started : standing.started ≡ started_after session None marks
  pub answered : standing.answered ≡ answer_count session marks
