-- How the store is kept: versions name their writers by lxids.
use Rattle.std.specs.Prelude.{◌≡◌, ◌≤◌, true, List, [], ◌∷◌, length, map, Option, None, Some, unwrap_or, option_and_then, is_some, if◌then◌else◌}
use Rattle.std.specs.List.{flat_map, AllByRecursion}
use Rattle.std.specs.Map.{lookup}
use Rattle.std.specs.BTreeMap.{is_at, insert_entry}
use Rattle.gx_ids.specs.declared.ids.Gxid.{Gxid}
use Rattle.gx_ids.specs.declared.ids.Lxid.{Lxid}
use Rattle.gx_ids.specs.declared.ids.Table.{Table}
use Rattle.gx_ids.specs.declared.ids.Cid.{Cid}
use Rattle.gx_ids.specs.declared.rid.Rid.{Rid}
use Rattle.gx_tree.specs.declared.row.KeyedRow.{KeyedRow}
use Rattle.gx_tree.specs.declared.value.Value.{Value}
use Rattle.gx_dsnap.specs.declared.snapshot.Snapshot.{Snapshot}
use Rattle.gx_rows.specs.declared.status.LocalStatus.{LocalStatus}
use Rattle.gx_rows.specs.Xids.{Xids, is_given, lxid_of, gxid_of, assigned, status_of, with_status}
use Rattle.gx_rows.specs.declared.version.Version.{Version}
use Rattle.gx_rows.specs.Rows.{versions_of, added, is_of_table, rids_of, last_passing, is_unaborted}
use Rattle.gx_rows.specs.Counts.{shown_of}
use Rattle.gx_slices.specs.Store.{Store, Write, kept_at, table_cmp}
use Rattle.gx_slices.specs.declared.current.Current.{Current}
use Rattle.gx_slices.specs.declared.newest.Newest.{Newest}

abbrev pub write_of : Xids → Version → Write
write_of x v = record { writer = gxid_of x v.lxid; cid = v.cid; status = status_of x v.lxid; image = v.image }

-- the store of these versions
abbrev pub store_of : List (Table × List (Rid × List Version)) → Xids → Store
store_of tables x = record {
  tables = map (λ t. (t.0, map (λ r. (r.0, map (write_of x) r.1)) t.1)) tables;
  writers = map (λ e. (e.0, status_of x e.1)) x.lxids;
  horizon = x.horizon;
}

-- a version stands in its table, and its lxid was given out
abbrev pub IsFiled : Xids → Table → Version → Type 0
IsFiled x table v = (v.table.0 ≡ table.0) × (is_given x v.lxid ≡ true)

-- entries lead both ways, to gxids from the horizon on and to lxids that were given out, and each version is filed
pub record IsSound (tables : List (Table × List (Rid × List Version))) (x : Xids) : Type 0 where
  pub there : (g : Gxid) (l : Lxid) → lxid_of x g ≡ Some l → gxid_of x l ≡ Some g
  pub back : (g : Gxid) (l : Lxid) → gxid_of x l ≡ Some g → lxid_of x g ≡ Some l
  pub given : (g : Gxid) (l : Lxid) → lxid_of x g ≡ Some l → is_given x l ≡ true
  pub high : (g : Gxid) (l : Lxid) → lxid_of x g ≡ Some l → x.horizon.0 ≤ g.0
  pub filed : (table : Table) (rid : Rid) → AllByRecursion (IsFiled x table) (kept_at tables table rid)

-- the versions of the rows of a table
abbrev pub versions_in : List (Table × List (Rid × List Version)) → Table → List (Rid × List Version)
versions_in tables table = unwrap_or (lookup (is_at (table_cmp table)) tables) []

-- with one version more
abbrev pub filed : List (Table × List (Rid × List Version)) → Table → Rid → Version → List (Table × List (Rid × List Version))
filed tables table rid v = insert_entry table_cmp tables table (added (versions_in tables table) rid v)

-- with a transaction that is new here or not
abbrev pub with_writer : Xids → Gxid → Xids
with_writer x g = if is_some (lxid_of x g) then x else assigned x g

-- the row that versions show to a reader which has this lxid
abbrev pub image_of : List Version → Xids → Snapshot → Option Lxid → Cid → Option (List Value)
image_of versions x snap own cid = option_and_then (λ v. v.image) (shown_of versions x snap own cid)

-- the row that a rid shows
abbrev pub image_at : List (Rid × List Version) → Xids → Snapshot → Option Lxid → Cid → Rid → Option (List Value)
image_at versions x snap own cid rid = image_of (versions_of versions rid) x snap own cid

-- a row with its identity, if it is there
abbrev pub keyed : Rid → Option (List Value) → List KeyedRow
keyed rid None = []
keyed rid (Some row) = (record { rid = rid; row = row }) ∷ []

-- the rows of a table that are shown
abbrev pub rows_at : List (Rid × List Version) → Xids → Table → Snapshot → Option Lxid → Cid → List KeyedRow
rows_at versions x table snap own cid = flat_map (λ rid. keyed rid (image_at versions x snap own cid rid)) (rids_of versions table)

-- the row of a rid, if its versions are of the table and show one
abbrev pub rows_in_entry : Xids → Table → Snapshot → Option Lxid → Cid → Rid × List Version → List KeyedRow
rows_in_entry x table snap own cid e = if is_of_table table e then keyed e.0 (image_of e.1 x snap own cid) else []

-- the same rows, as the versions of each rid show them
abbrev pub listed_rows : List (Rid × List Version) → Xids → Table → Snapshot → Option Lxid → Cid → List KeyedRow
listed_rows versions x table snap own cid = flat_map (rows_in_entry x table snap own cid) versions

-- the last of the versions that isn't aborted
abbrev pub last_unaborted : List Version → Xids → Option Version
last_unaborted versions x = last_passing (λ v. is_unaborted (status_of x v.lxid)) versions

-- who wrote a version, where that is known, and by which command
abbrev pub current_at : Xids → Version → Current
current_at x v = record { writer = gxid_of x v.lxid; cid = v.cid }

-- a version with its writer, where that is known
abbrev pub newest_at : Xids → Version → Newest
newest_at x v = record { writer = gxid_of x v.lxid; cid = v.cid; image = v.image }

-- with this status of a transaction, if it is here
abbrev pub with_status_at : Option Lxid → Xids → LocalStatus → Xids
with_status_at None x s = x
with_status_at (Some l) x s = with_status x l s

-- the tables and the transactions with one version more, which has its writer's lxid
pub record IsWritten (tables tables' : List (Table × List (Rid × List Version))) (x x' : Xids) (g : Gxid) (c : Cid) (table : Table) (rid : Rid) (image : Option (List Value)) : Type 0 where
  pub lxid : Lxid
  pub found : lxid_of x' g ≡ Some lxid
  pub writer : x' ≡ with_writer x g
  pub version : tables' ≡ filed tables table rid (record { image = image; table = table; lxid = lxid; cid = c })
