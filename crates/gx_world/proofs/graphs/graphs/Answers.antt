use Rattle.gx_store.specs.Cancelled.{wait_graph}
use Rattle.gx_store.specs.Points.{marks_in}
use Rattle.gx_store.specs.Refusals.{the_coordinator}
use Rattle.gx_world.proofs.EachNode.{one-more}
use Rattle.gx_world.proofs.graphs.graphs.Goals as goal

pub loop-place-preserved : goal.loop-place-preserved
loop-place-preserved c =
    one-more (wait_graph (marks_in c.args.network.now.run.steps)) the_coordinator c.loop-place.place _ _ _ c.loop-place.invariant c.in_ok-graph_at_place.ensures c.in_ok-push-2.ensures.items
