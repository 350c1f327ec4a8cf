use Rattle.std.proofs.Common.{◌≡◌, ◌≤◌}
use Rattle.std.specs.BTreeMap.{get, btree_map_len}
use Rattle.gx_ids.specs.declared.ids.Gxid.{Gxid}
use Rattle.gx_rows.specs.Xids.{gxid_cmp}
use Rattle.gx_rows.proofs.below.drop_below.Given as goal

abbrev pub invariant-loop-first : goal.invariant-loop-first
invariant-loop-first g l = (q : Gxid) → l.horizon.0 ≤ q.0 → get gxid_cmp l.entries q ≡ get gxid_cmp l.initial.entries q

abbrev pub decreases-loop-first : goal.decreases-loop-first
decreases-loop-first g l = btree_map_len l.entries
