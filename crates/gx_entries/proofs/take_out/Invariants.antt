use Rattle.std.proofs.Common.{◌≡◌, length}
use Rattle.std.specs.BTreeMap.{is_at}
use Rattle.std.specs.Map.{lookup}
use Rattle.std.specs.Prelude.{cond, None}
use Rattle.gx_dsnap.specs.Gxids.{gxid_cmp}
use Rattle.gx_ids.specs.declared.ids.Gxid.{Gxid}
use Rattle.gx_entries.proofs.take_out.Given as goal

abbrev pub invariant-loop-place : goal.invariant-loop-place
invariant-loop-place g l = (q : Gxid) → cond (is_at (gxid_cmp l.gxid) q) None (lookup (is_at (gxid_cmp q)) l.entries.items) ≡ cond (is_at (gxid_cmp l.gxid) q) None (lookup (is_at (gxid_cmp q)) l.fn.entries.items)

abbrev pub decreases-loop-place : goal.decreases-loop-place
decreases-loop-place g l = length l.entries.items
