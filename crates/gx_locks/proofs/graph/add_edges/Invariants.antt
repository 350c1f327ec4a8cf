use Rattle.std.proofs.Common.{◌≡◌, drop}
use Rattle.gx_locks.specs.Graphs.{with_holds}
use Rattle.gx_locks.specs.Holds.{claims_of}
use Rattle.gx_locks.proofs.graph.add_edges.Given as goal

abbrev pub invariant-loop-hold : goal.invariant-loop-hold
invariant-loop-hold l = (l.graph.node ≡ l.initial.graph.node) × (with_holds (claims_of (drop l.hold-index l.holds)) l.graph.edges l.wait ≡ with_holds (claims_of l.holds) l.initial.graph.edges l.wait)
