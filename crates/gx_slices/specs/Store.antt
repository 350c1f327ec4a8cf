-- What one segment keeps of rows, told without lxids, and what it shows of them.
use Rattle.std.specs.Prelude.{◌≡◌, ◌≤◌, map, Bool, false, not, List, [], ◌==◌, ◌&&◌, ◌||◌, nat_lt, if◌then◌else◌, find, Option, None, Some, option_map, option_and_then, unwrap_or}
use Rattle.std.specs.declared.cmp.Ordering.{Ordering}
use Rattle.std.specs.Ordering.{nat_cmp}
use Rattle.std.specs.Map.{lookup}
use Rattle.std.specs.BTreeMap.{is_at}
use Rattle.gx_ids.specs.declared.ids.Gxid.{Gxid}
use Rattle.gx_ids.specs.declared.ids.Cid.{Cid}
use Rattle.gx_ids.specs.declared.ids.Table.{Table}
use Rattle.gx_ids.specs.declared.rid.Rid.{Rid}
use Rattle.gx_tree.specs.declared.value.Value.{Value}
use Rattle.gx_dsnap.specs.declared.snapshot.Snapshot.{Snapshot}
use Rattle.gx_rows.specs.declared.status.LocalStatus.{LocalStatus}
use Rattle.gx_rows.specs.Xids.{gxid_cmp, kept}
use Rattle.gx_rows.specs.Rids.{rid_cmp}
use Rattle.gx_rows.specs.Rows.{last_passing, is_unaborted}
use Rattle.gx_rows.specs.Counts.{is_committed, is_seen}
use Rattle.gx_sweep.specs.Swept.{is_past, living}
use Rattle.gx_slices.specs.declared.current.Current.{Current}

-- what a command of a transaction made of a row, none is the row gone; what became of the transaction here; and who it is, from the
-- horizon on
pub record Write : Type 0 where
  pub writer : Option Gxid
  pub cid : Cid
  pub status : LocalStatus
  pub image : Option (List Value)

-- the writes to each row of each table that are kept, in order; who has written here, from the horizon on, with what became of it here;
-- and the horizon
pub record Store : Type 0 where
  pub tables : List (Table × List (Rid × List Write))
  pub writers : List (Gxid × LocalStatus)
  pub horizon : Gxid

abbrev pub empty : Store
empty = record { tables = []; writers = []; horizon = record { 0 = 0 } }

abbrev pub table_cmp : Table → Table → Ordering
table_cmp a b = nat_cmp a.0 b.0

-- what stands at a row of a table
abbrev pub kept_at : {X : Type 0} → List (Table × List (Rid × List X)) → Table → Rid → List X
kept_at tables table rid = unwrap_or (lookup (is_at (rid_cmp rid)) (unwrap_or (lookup (is_at (table_cmp table)) tables) [])) []

-- the writes to a row of a table, in order
abbrev pub writes_of : Store → Table → Rid → List Write
writes_of store table rid = kept_at store.tables table rid

-- what became of a transaction here; none where it never wrote here, or is below the horizon
abbrev pub status_of : Store → Gxid → Option LocalStatus
status_of store g = lookup (is_at (gxid_cmp g)) store.writers

-- a test of what became of it here, which fails where it never wrote here, or is below the horizon
abbrev pub passes : (LocalStatus → Bool) → Option LocalStatus → Bool
passes test None = false
passes test (Some status) = test status

abbrev pub is_by : Option Gxid → Gxid → Bool
is_by None g = false
is_by (Some writer) g = writer.0 == g.0

-- the reader is the write's own transaction, in a later command
abbrev pub is_own : Option Gxid → Cid → Write → Bool
is_own None cid w = false
is_own (Some own) cid w = is_by w.writer own && nat_lt w.cid.0 cid.0

-- a reader is shown its own writes of earlier commands, and those that are committed here and that its snapshot sees; who is below the
-- horizon counts as seen, however old a snapshot is
abbrev pub is_shown : Snapshot → Option Gxid → Cid → Write → Bool
is_shown snap own cid w = is_own own cid w || (is_committed w.status && is_seen snap w.writer)

-- the row that a reader is shown: the image of the last write that it is shown; none where that is gone, or where there is none
abbrev pub shown_row : Store → Snapshot → Option Gxid → Cid → Table → Rid → Option (List Value)
shown_row store snap own cid table rid = option_and_then (λ w. w.image) (last_passing (is_shown snap own cid) (writes_of store table rid))

-- the last write to a row that isn't aborted here
abbrev pub newest_of : Store → Table → Rid → Option Write
newest_of store table rid = last_passing (λ w. is_unaborted w.status) (writes_of store table rid)

-- who wrote, where that isn't below the horizon, and by which command
abbrev pub current_of : Write → Current
current_of w = record { writer = w.writer; cid = w.cid }

-- the greater of two
abbrev pub greater : Gxid → Gxid → Gxid
greater a b = if nat_lt a.0 b.0 then b else a

-- WHAT BECOMES OF WRITES
-- once a transaction has this status
abbrev pub with_status : Gxid → LocalStatus → Write → Write
with_status g status w = if is_by w.writer g then record w { status = status } else w

-- once the horizon is there
abbrev pub forgotten : Gxid → Write → Write
forgotten horizon w = record w { writer = option_and_then (kept horizon) w.writer }

-- the horizon has risen to this one, where it is greater
pub record IsRaised (old : Store) (horizon : Gxid) (new : Store) : Type 0 where
  pub horizon_is : new.horizon ≡ greater old.horizon horizon
  pub writes : (t : Table) (r : Rid) → writes_of new t r ≡ map (forgotten horizon) (writes_of old t r)
  pub status : (g : Gxid) → horizon.0 ≤ g.0 → status_of new g ≡ status_of old g

-- SWEEPING
abbrev pub has_aborted : Write → Bool
has_aborted w = not (is_unaborted w.status)

-- committed here, by a transaction below the horizon
abbrev pub is_settled : Gxid → Write → Bool
is_settled horizon w = is_committed w.status && is_past horizon w.writer

-- what a sweep leaves of a row
abbrev pub swept : Store → List Write → List Write
swept store writes = living has_aborted (is_settled store.horizon) writes
