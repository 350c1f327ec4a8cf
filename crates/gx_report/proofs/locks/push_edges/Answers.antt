use Rattle.std.proofs.Common.{rules}
use Rattle.gx_report.specs.LockText.{edge_text}
use Rattle.gx_report.proofs.Adding.{added-next}
use Rattle.gx_report.proofs.locks.push_edges.Goals as goal

pub loop-edge-preserved : goal.loop-edge-preserved
loop-edge-preserved c =
    added-next edge_text c.args.edges.now c.loop-edge.edge-index _ _ _ _ c.loop-edge-test.true (search rules) c.loop-edge.invariant c.in_ok-push_edge.ensures
