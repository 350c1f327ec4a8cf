use Rattle.std.proofs.Common.{◌≡◌, ◌∷◌, map}
use Rattle.gx_meaning.specs.Plan.{nodes_from}
use Rattle.gx_store.specs.Cancelled.{wait_graph}
use Rattle.gx_store.specs.Points.{marks_in}
use Rattle.gx_store.specs.Refusals.{the_coordinator}
use Rattle.gx_world.proofs.graphs.graphs.Given as goal

abbrev pub invariant-loop-place : goal.invariant-loop-place
invariant-loop-place l = l.graphs.items ≡ map (wait_graph (marks_in l.network.run.steps)) (the_coordinator ∷ nodes_from 1 l.place)
