-- What a line that has started asks of what is known.
use Rattle.std.specs.Prelude.{◌≡◌, ◌+◌, ◌<◌, ◌^◌, true, false, [], ◌∷◌}
use Rattle.std.specs.List.{list_any}
use Rattle.gx_ids.specs.declared.ids.Gxid.{Gxid}
use Rattle.gx_ids.specs.declared.ids.SessionId.{SessionId}
use Rattle.gx_tree.specs.declared.stmt.Level.TheVariants.{ReadCommitted}
use Rattle.gx_tree.specs.declared.stmt.Stmt.{Stmt}
use Rattle.gx_dtx.specs.Rules.{on_abort}
use Rattle.gx_dtx.specs.Table.{IsActive}
use Rattle.gx_waits.specs.Claims.{is_of}
use Rattle.gx_script.specs.declared.line_step.LineStep.{LineStep}
use Rattle.gx_script.specs.declared.line_step.LineStep.TheVariants as step
use Rattle.gx_store.specs.declared.answer.StmtAnswer.TheVariants as told
use Rattle.gx_rules.specs.AtCoordinator.{answer_mark, begins, rolls_back}
use Rattle.gx_rules.specs.Coordinators as rule
use Rattle.gx_coord.specs.Faults.{IsCommand}
use Rattle.gx_coord.specs.Sound.{IsDrawn}
use Rattle.gx_coord.specs.Turns.{IsBusy, IsReady}

-- a command of the transaction may go out
pub record MaySend (c : rule.Coord) (g : Gxid) (line : Stmt) : Type 0 where
  pub command : IsCommand line
  pub room : (c.works g.0).last + 1 < 2 ^ 32
  pub active : IsActive c.table g
  pub drawn : IsDrawn c.table
  pub busy : IsBusy c g.0
  pub waits_not : list_any (is_of g) c.locks.waits ≡ false

-- by what the line asks for
abbrev pub MayAsk : rule.Coord → SessionId → Stmt → LineStep → Type 0
MayAsk c s line step.CommitBlock = IsReady c (c.sessions s.0).transaction
MayAsk c s line step.RollbackBlock = IsActive c.table (c.sessions s.0).transaction
MayAsk c s line (step.Command true) = MaySend (begins c s ReadCommitted) c.table.next line
MayAsk c s line (step.Command false) = MaySend c (c.sessions s.0).transaction line
MayAsk c s line _ = Unit {0}

-- ROLLBACK of a session's block
abbrev pub closes_block : rule.Coord → SessionId → rule.CoordTurn
closes_block c s = rolls_back c (c.sessions s.0).transaction (answer_mark c s told.Rollback ∷ []) (on_abort c.table (c.sessions s.0).transaction)
