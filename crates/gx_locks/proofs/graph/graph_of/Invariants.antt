use Rattle.std.proofs.Common.{◌≡◌, drop}
use Rattle.std.specs.Prelude.{fold}
use Rattle.gx_locks.specs.Book.{claims_in}
use Rattle.gx_waits.specs.Graph.{edges_at, with_wait}
use Rattle.gx_locks.proofs.graph.graph_of.Given as goal

abbrev pub invariant-loop-wait : goal.invariant-loop-wait
invariant-loop-wait l = (l.graph.node ≡ l.fn.node) × (fold (with_wait (claims_in l.book) l.waits) l.graph.edges (drop l.wait-index l.waits) ≡ edges_at l.waits (claims_in l.book))
