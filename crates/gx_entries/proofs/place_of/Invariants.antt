use Rattle.std.proofs.Common.{◌≡◌, None, take}
use Rattle.std.specs.BTreeMap.{is_at}
use Rattle.std.specs.Map.{lookup}
use Rattle.gx_dsnap.specs.Gxids.{gxid_cmp}
use Rattle.gx_entries.proofs.place_of.Given as goal

abbrev pub invariant-loop-place : goal.invariant-loop-place
invariant-loop-place g l = lookup (is_at (gxid_cmp l.gxid)) (take l.place l.entries) ≡ None
