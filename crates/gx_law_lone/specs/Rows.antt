-- Who holds the locks of rows at a segment.
use Rattle.std.specs.Prelude.{◌≡◌, ◌⊎◌, Bool, true, false, Some, Contains}
use Rattle.std.specs.declared.option.Option.{Option}
use Rattle.gx_ids.specs.declared.ids.Gxid.{Gxid}
use Rattle.gx_ids.specs.declared.ids.Node.{Node}
use Rattle.gx_ids.specs.declared.rid.Rid.{Rid}
use Rattle.gx_msg.specs.declared.reply.Reply.{Reply}
use Rattle.gx_msg.specs.declared.reply.Reply.TheVariants as reply
use Rattle.gx_store.specs.Marks.{is_aborted}
use Rattle.gx_store.specs.Points.{marks_in}
use Rattle.gx_waits.specs.declared.claim.Claim.{Claim}
use Rattle.gx_waits.specs.declared.object.Object.TheVariants.{Tuple}
use Rattle.gx_rules.specs.Coordinators.{work_of}
use Rattle.gx_rules.specs.Fits.{holds_locks}
use Rattle.gx_rules.specs.Machine.{World}
use Rattle.gx_rules.specs.Segments.{Suspended, has_ended, local_of}
use Rattle.gx_law_order.specs.Standings.{waits_in}

-- what was answered to a transaction's last command, which is kept, is FAILED
abbrev pub has_failed : Option Reply → Bool
has_failed (Some (reply.Failed c cause)) = true
has_failed _ = false

-- a slice of the transaction waits at the segment, at this row
pub record WaitsAtRow (w : World) (node : Node) (g : Gxid) (rid : Rid) : Type 0 where
  pub slice : Suspended
  pub waits : (local_of (w.segs node.0) g).suspended ≡ Some slice
  pub row : slice.row ≡ Some rid

-- Its last command there has failed, and it hasn't ended there. That command is its last of all, and the coordinator awaits the
-- segment's answer to it.
pub record HasFailedThere (w : World) (node : Node) (g : Gxid) : Type 0 where
  pub failed : has_failed (local_of (w.segs node.0) g).answer ≡ true
  pub stays : has_ended (local_of (w.segs node.0) g).phase ≡ false
  pub last : (local_of (w.segs node.0) g).last ≡ (work_of w.coord g).last
  pub awaited : waits_in (work_of w.coord g).command node.0 ≡ true

-- Each row's lock that is held at the segment is held by a transaction whose slice waits there, at that row; or by one that has failed
-- there; or by one that has aborted.
abbrev pub AreRowsHeldByWaiters : World → Node → Type 0
AreRowsHeldByWaiters w node =
    (hold : Claim) (rid : Rid) → Contains (w.segs node.0).locks.holds hold → hold.object ≡ Tuple rid
    → WaitsAtRow w node hold.gxid rid ⊎ HasFailedThere w node hold.gxid ⊎ (is_aborted (marks_in w.steps) hold.gxid ≡ true)

-- each lock that is held at the segment is held by a transaction that has had a command taken there, and hasn't ended there
abbrev pub AreHoldersRunning : World → Node → Type 0
AreHoldersRunning w node = (hold : Claim) → Contains (w.segs node.0).locks.holds hold → holds_locks (local_of (w.segs node.0) hold.gxid) ≡ true
