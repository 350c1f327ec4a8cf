-- The rows that stand under a value of a table's distribution column.
use Rattle.std.specs.Prelude.{Bool, List, [], None, Some}
use Rattle.std.specs.declared.option.Option.{Option}
use Rattle.std.specs.List.{list_any}
use Rattle.std.specs.BTreeMap.{is_at}
use Rattle.std.specs.HashMap.{get}
use Rattle.gx_ids.specs.declared.ids.Table.{Table}
use Rattle.gx_ids.specs.declared.rid.Rid.{Rid}
use Rattle.gx_tree.specs.declared.value.Value.{Value}
use Rattle.gx_rows.specs.Rids.{rid_cmp}
use Rattle.gx_sweep.specs.Rids.{listed}
use Rattle.gx_sweep.specs.declared.index.KeyIndex.{KeyIndex}
use Rattle.gx_sweep.specs.declared.rids.Rids.{Rids}
use Rattle.gx_sweep.specs.declared.table_key.TableKey.{TableKey}
use Rattle.gx_sweep.specs.contracts.table_key.TableKeyPartialEq.TheImpl as block

abbrev pub key_at : Table → Value → TableKey
key_at table key = record { table = table; key = key }

abbrev pub listed_in : Option Rids → List Rid
listed_in None = []
listed_in (Some rids) = listed rids

-- the rows there, rising
abbrev pub rids_under : KeyIndex → TableKey → List Rid
rids_under index at = listed_in (get block.ghosts.eq index.places at)

-- the row stands there
abbrev pub has_under : KeyIndex → TableKey → Rid → Bool
has_under index at rid = list_any (is_at (rid_cmp rid)) (rids_under index at)
