use Rattle.std.proofs.Common.{ap, ◌∙◌}
use Rattle.std.proofs.lemmas.Result.{IfOk-weaker}
use Rattle.gx_locks.specs.Graphs.{graph_at}
use Rattle.gx_rules.specs.Coordinators.{Coord}
use Rattle.gx_coord.proofs.coord.Coord.graph.Goals as goal

pub returns : goal.returns
returns g c = IfOk-weaker c.graph.result _ _ (λ graph h. h ∙ ap (λ (k : Coord). graph_at k.locks) c.requires.holds) c.graph.ensures.graph
