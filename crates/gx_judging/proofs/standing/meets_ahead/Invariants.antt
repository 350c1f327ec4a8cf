use Rattle.std.proofs.Common.{◌≡◌, drop, filter}
use Rattle.std.specs.List.{list_any}
use Rattle.gx_waits.specs.Claim.{ahead, is_ahead}
use Rattle.gx_judging.specs.Standing.{is_edge_to}
use Rattle.gx_judging.proofs.standing.meets_ahead.Given as goal

abbrev pub invariant-loop-other : goal.invariant-loop-other
invariant-loop-other l =
    list_any (is_edge_to l.wait l.edge) (filter (is_ahead l.holds l.wait) (ahead l.wait (drop l.other-index l.waits)))
    ≡ list_any (is_edge_to l.wait l.edge) (filter (is_ahead l.holds l.wait) (ahead l.wait l.waits))
