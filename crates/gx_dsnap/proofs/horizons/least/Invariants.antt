use Rattle.std.proofs.Common.{◌≡◌, drop}
use Rattle.gx_dsnap.specs.Gxids.{least_of}
use Rattle.gx_dsnap.proofs.horizons.least.Given as goal

abbrev pub invariant-loop-gxid : goal.invariant-loop-gxid
invariant-loop-gxid l = least_of (drop l.gxid-index l.gxids) l.least ≡ least_of l.gxids l.fn.other
