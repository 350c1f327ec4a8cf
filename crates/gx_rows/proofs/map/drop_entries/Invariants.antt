use Rattle.std.proofs.Common.{◌≡◌}
use Rattle.std.specs.Prelude.{Some}
use Rattle.std.specs.BTreeMap.{btree_map_len, get}
use Rattle.gx_ids.specs.declared.ids.Gxid.{Gxid}
use Rattle.gx_ids.specs.declared.ids.Lxid.{Lxid}
use Rattle.gx_rows.specs.Keys.{AreLeft, HasEntry}
use Rattle.gx_rows.specs.Xids.{gxid_cmp}
use Rattle.gx_rows.proofs.map.drop_entries.Given as goal

abbrev pub invariant-loop-gxid : goal.invariant-loop-gxid
invariant-loop-gxid l = ((g : Gxid) (k : Lxid) → get gxid_cmp l.lxids g ≡ Some k → HasEntry l.entries g k) × AreLeft l.initial.lxids l.initial.entries l.horizon l.lxids l.entries

abbrev pub decreases-loop-gxid : goal.decreases-loop-gxid
decreases-loop-gxid l = btree_map_len l.lxids
