use Rattle.gx_report.specs.Stops.{wait_lines}
use Rattle.gx_report.proofs.Adding.{added-next}
use Rattle.gx_report.proofs.stops.push_waits_behind.Goals as goal

pub loop-graph-preserved : goal.loop-graph-preserved
loop-graph-preserved c =
    added-next wait_lines c.args.graphs.now c.loop-graph.graph-index c.graph-item.result _ _ _ c.loop-graph-test.true c.graph-item.is c.loop-graph.invariant c.in_ok-push_waits.ensures
