use Rattle.std.proofs.Common.{◌≡◌}
use Rattle.std.specs.List.{flat_map}
use Rattle.gx_dsnap.specs.Gxids.{least_of}
use Rattle.gx_dtx.specs.Table.{holds_back}
use Rattle.gx_dtx.proofs.map.horizon.Given as goal

abbrev pub invariant-loop-gxid : goal.invariant-loop-gxid
invariant-loop-gxid l = least_of (flat_map holds_back l.gxid-iterator) l.least ≡ least_of (flat_map holds_back l.txns.entries) l.fn.next
