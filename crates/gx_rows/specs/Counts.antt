-- Which versions a reader sees.
use Rattle.std.specs.Prelude.{Bool, true, false, List, ◌==◌, ◌&&◌, ◌||◌, nat_lt, Option, None, Some}
use Rattle.gx_ids.specs.declared.ids.Lxid.{Lxid}
use Rattle.gx_ids.specs.declared.ids.Cid.{Cid}
use Rattle.gx_ids.specs.declared.ids.Gxid.{Gxid}
use Rattle.gx_dsnap.specs.declared.snapshot.Snapshot.{Snapshot}
use Rattle.gx_dsnap.specs.Snapshot.{sees}
use Rattle.gx_rows.specs.Xids.{Xids, gxid_of, status_of}
use Rattle.gx_rows.specs.declared.status.LocalStatus.{LocalStatus}
use Rattle.gx_rows.specs.declared.status.LocalStatus.TheVariants.{Running, Prepared, Committed, Aborted}
use Rattle.gx_rows.specs.declared.version.Version.{Version}
use Rattle.gx_rows.specs.Rows.{last_passing}

-- the reader wrote it by an earlier command
abbrev pub is_own : Version → Option Lxid → Cid → Bool
is_own v None cid = false
is_own v (Some own) cid = (v.lxid.0 == own.0) && nat_lt v.cid.0 cid.0

abbrev pub is_committed : LocalStatus → Bool
is_committed Running = false
is_committed Prepared = false
is_committed Committed = true
is_committed Aborted = false

-- the snapshot sees the gxid; where that isn't known any more the local status alone decides
abbrev pub is_seen : Snapshot → Option Gxid → Bool
is_seen snap None = true
is_seen snap (Some g) = sees snap g

-- a version counts for a reader where it is the reader's own, of an earlier command, or where it is locally committed
-- and its transaction is seen
abbrev pub counts : Version → Xids → Snapshot → Option Lxid → Cid → Bool
counts v x snap own cid = is_own v own cid || (is_committed (status_of x v.lxid) && is_seen snap (gxid_of x v.lxid))

-- the last version that counts
abbrev pub shown_of : List Version → Xids → Snapshot → Option Lxid → Cid → Option Version
shown_of versions x snap own cid = last_passing (λ v. counts v x snap own cid) versions
