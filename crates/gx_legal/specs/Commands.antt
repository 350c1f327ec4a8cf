-- What makes a line under way a command that may do something.
use Rattle.std.specs.Prelude.{◌≡◌, ◌+◌, true, false, Some}
use Rattle.gx_ids.specs.declared.ids.Cid.{Cid}
use Rattle.gx_ids.specs.declared.ids.Gxid.{Gxid}
use Rattle.gx_ids.specs.declared.ids.SessionId.{SessionId}
use Rattle.gx_script.specs.declared.Script.{Script}
use Rattle.gx_store.specs.declared.event.Event.TheVariants as event
use Rattle.gx_store.specs.Commands.{state_at}
use Rattle.gx_store.specs.Legal.{draws}
use Rattle.gx_store.specs.Lines.{cid_of, is_command, transaction_of}
use Rattle.gx_store.specs.Marks.{is_begun, is_ended, start_count}
use Rattle.gx_store.specs.Points.{Point, before}
use Rattle.gx_tree.specs.declared.stmt.Stmt.{Stmt}

-- the session's line is the command of this number in this transaction, which has not ended
pub record IsCommandOf (script : Script) (point : Point) (session : SessionId) (stmt : Stmt) (g : Gxid) (c : Cid) : Type 0 where
  pub command : is_command (state_at script session point) stmt ≡ true
  pub transaction : transaction_of (state_at script session point) session (before point) ≡ Some g
  pub number : c ≡ cid_of (state_at script session point)
  pub running : is_ended (before point) g ≡ false

-- the line draws the next transaction in the step that starts it, and the session has started none since its last answer
pub record StartsWith (script : Script) (point : Point) (g : Gxid) (session : SessionId) (line : Stmt) : Type 0 where
  pub number : g.0 ≡ start_count (before point) + 1
  pub event : point.event ≡ event.Start session
  pub drawing : draws (state_at script session point) line ≡ true
  pub once : is_begun session (before point) ≡ false
