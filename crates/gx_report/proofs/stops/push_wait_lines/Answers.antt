use Rattle.std.proofs.Common.{rules}
use Rattle.gx_report.specs.Stops.{wait_line}
use Rattle.gx_report.proofs.Adding.{added-next}
use Rattle.gx_report.proofs.stops.push_wait_lines.Goals as goal

pub loop-edge-preserved : goal.loop-edge-preserved
loop-edge-preserved c =
    added-next (wait_line c.args.node) c.args.edges.now c.loop-edge.edge-index _ _ _ _ c.loop-edge-test.true (search rules) c.loop-edge.invariant c.in_ok-push_wait.ensures
