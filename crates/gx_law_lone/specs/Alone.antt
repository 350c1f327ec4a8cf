-- Who waits while nothing but a round is enabled.
use Rattle.std.specs.Prelude.{◌≡◌, ◌≤◌, true, is_some, List, Contains}
use Rattle.gx_ids.specs.declared.ids.Gxid.{Gxid}
use Rattle.gx_ids.specs.declared.ids.Node.{Node}
use Rattle.gx_script.specs.declared.Script.{Script}
use Rattle.gx_locks.specs.Locks.{wait_of}
use Rattle.gx_rules.specs.Machine.{World}
use Rattle.gx_store.specs.declared.mark.Mark.{Mark}
use Rattle.gx_store.specs.Rounds.{StandsAt}
use Rattle.gx_waits.specs.declared.placed_edge.PlacedEdge.{PlacedEdge}
use Rattle.gx_law_runs.specs.Awaiting.{locks_at}

-- the transaction waits for a lock at a node, of the coordinator's or a segment's
pub record WaitsSomewhere (script : Script) (w : World) (g : Gxid) : Type 0 where
  pub at : Node
  pub within : at.0 ≤ script.segments
  pub waits : is_some (wait_of (locks_at w at) g) ≡ true

-- these are the waits that stand at all nodes, and no others
pub record AreAllWaits (script : Script) (marks : List Mark) (edges : List PlacedEdge) : Type 0 where
  pub all_of_them : (e : PlacedEdge) → e.node.0 ≤ script.segments → StandsAt marks e → Contains edges e
  pub no_others : (e : PlacedEdge) → Contains edges e → (e.node.0 ≤ script.segments) × StandsAt marks e
