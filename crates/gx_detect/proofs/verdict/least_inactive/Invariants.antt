use Rattle.std.proofs.Common.{◌≡◌, drop}
use Rattle.std.specs.Prelude.{None, fold}
use Rattle.gx_detect.specs.Inactive.{with_waiter}
use Rattle.gx_detect.proofs.verdict.least_inactive.Given as goal

abbrev pub invariant-loop-edge : goal.invariant-loop-edge
invariant-loop-edge l = fold (with_waiter l.active) l.least (drop l.edge-index l.edges) ≡ fold (with_waiter l.active) None l.edges
