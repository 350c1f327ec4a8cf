-- Which versions of a row nobody is shown any more.
use Rattle.std.specs.Prelude.{Bool, true, not, ◌&&◌, ◌||◌, nat_lt, if◌then◌else◌, List, [], ◌∷◌, Option, None, Some}
use Rattle.std.specs.List.{list_any}
use Rattle.gx_ids.specs.declared.ids.Gxid.{Gxid}
use Rattle.gx_rows.specs.Counts.{is_committed}
use Rattle.gx_rows.specs.Rows.{is_unaborted}
use Rattle.gx_rows.specs.Xids.{Xids, gxid_of, status_of}
use Rattle.gx_rows.specs.declared.version.Version.{Version}

-- ANY ROW
-- it is of an aborted transaction, or some later one is settled
abbrev pub is_dead : {X : Type 0} → (X → Bool) → (X → Bool) → X → List X → Bool
is_dead aborted settled x later = aborted x || list_any settled later

-- the others, in their order
abbrev pub living : {X : Type 0} → (X → Bool) → (X → Bool) → List X → List X
living aborted settled [] = []
living aborted settled (x ∷ later) = if is_dead aborted settled x later then living aborted settled later else x ∷ living aborted settled later

-- A ROW AT A SEGMENT
abbrev pub has_aborted : Xids → Version → Bool
has_aborted x v = not (is_unaborted (status_of x v.lxid))

-- below the horizon; so is who isn't known any more
abbrev pub is_past : Gxid → Option Gxid → Bool
is_past horizon None = true
is_past horizon (Some g) = nat_lt g.0 horizon.0

-- committed here, by a transaction below the horizon
abbrev pub is_settled : Xids → Gxid → Version → Bool
is_settled x horizon v = is_committed (status_of x v.lxid) && is_past horizon (gxid_of x v.lxid)

-- what a sweep leaves of a row
abbrev pub swept : Xids → Gxid → List Version → List Version
swept x horizon versions = living (has_aborted x) (is_settled x horizon) versions
