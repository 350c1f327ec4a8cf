-- The versions of rows.
use Rattle.std.specs.Prelude.{Bool, List, [], ◌∷◌, ◌++◌, ◌==◌, true, false, Option, unwrap_or, map, filter, find, reverse}
use Rattle.std.specs.List.{list_any}
use Rattle.std.specs.Map.{lookup}
use Rattle.std.specs.BTreeMap.{is_at, insert_entry}
use Rattle.gx_ids.specs.declared.ids.Table.{Table}
use Rattle.gx_ids.specs.declared.rid.Rid.{Rid}
use Rattle.gx_rows.specs.declared.version.Version.{Version}
use Rattle.gx_rows.specs.Rids.{rid_cmp}
use Rattle.gx_rows.specs.Xids.{Xids, status_of}
use Rattle.gx_rows.specs.declared.status.LocalStatus.{LocalStatus}
use Rattle.gx_rows.specs.declared.status.LocalStatus.TheVariants.{Running, Prepared, Committed, Aborted}

-- the versions of a rid, from its first on
abbrev pub versions_of : List (Rid × List Version) → Rid → List Version
versions_of rows r = unwrap_or (lookup (is_at (rid_cmp r)) rows) []

-- the rows with a version more at the end of its rid's
abbrev pub added : List (Rid × List Version) → Rid → Version → List (Rid × List Version)
added rows r v = insert_entry rid_cmp rows r (versions_of rows r ++ v ∷ [])

-- whether a version of these is in the table
abbrev pub is_of_table : Table → Rid × List Version → Bool
is_of_table table e = list_any (λ v. v.table.0 == table.0) e.1

-- the rids that have a version in the table, rising
abbrev pub rids_of : List (Rid × List Version) → Table → List Rid
rids_of rows table = map (λ e. e.0) (filter (is_of_table table) rows)

-- not locally aborted
abbrev pub is_unaborted : LocalStatus → Bool
is_unaborted Running = true
is_unaborted Prepared = true
is_unaborted Committed = true
is_unaborted Aborted = false

-- the last that passes the test
abbrev pub last_passing : {X : Type 0} → (X → Bool) → List X → Option X
last_passing p xs = find p (reverse xs)

-- the last version that isn't aborted
abbrev pub newest_of : List (Rid × List Version) → Rid → Xids → Option Version
newest_of rows r x = last_passing (λ v. is_unaborted (status_of x v.lxid)) (versions_of rows r)
