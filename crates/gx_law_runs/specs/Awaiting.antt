-- What a session waits for.
use Rattle.std.specs.Prelude.{◌≡◌, ◌≤◌, ◌<◌, false, true, if◌then◌else◌, is_some}
use Rattle.gx_ids.specs.declared.ids.Gxid.{Gxid}
use Rattle.gx_ids.specs.declared.ids.Node.{Node}
use Rattle.gx_ids.specs.declared.ids.SessionId.{SessionId}
use Rattle.gx_script.specs.declared.Script.{Script}
use Rattle.gx_rules.specs.AtCoordinator.{awaited}
use Rattle.gx_rules.specs.Coordinators.{Coord, session_of}
use Rattle.gx_rules.specs.Machine.{World}
use Rattle.gx_locks.specs.Locks.{Locks, may_take, wait_of}
use Rattle.gx_store.specs.Journals.{is_same_node}
use Rattle.gx_store.specs.Refusals.{the_coordinator}

-- some segment's answer, for the session's transaction, which was drawn
pub record IsAwaiting (script : Script) (c : Coord) (session : SessionId) : Type 0 where
  pub at : Node
  pub segment : (1 ≤ at.0) × (at.0 ≤ script.segments)
  pub g : Gxid
  pub own : g ≡ (session_of c session).transaction
  pub drawn : (1 ≤ g.0) × (g.0 < c.table.next.0)
  pub answer : is_some (awaited c g at) ≡ true

-- the locks of a node
abbrev pub locks_at : World → Node → Locks
locks_at w node = if is_same_node node the_coordinator then w.coord.locks else (w.segs node.0).locks

-- the session's transaction waits for a lock at a node, of the coordinator's or a segment's, and what it waits for
-- meets somebody there, who holds or waits ahead
pub record IsBlocked (script : Script) (w : World) (session : SessionId) : Type 0 where
  pub at : Node
  pub node : at.0 ≤ script.segments
  pub waits : is_some (wait_of (locks_at w at) (session_of w.coord session).transaction) ≡ true
  pub meets : may_take (locks_at w at) (session_of w.coord session).transaction ≡ false
