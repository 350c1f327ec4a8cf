use Rattle.std.proofs.Common.{ap, ◌∙◌}
use Rattle.gx_rules.specs.Coordinators.{Coord}
use Rattle.gx_rules.specs.Rounds.{awaits_graph}
use Rattle.gx_coord.proofs.coord.Coord.awaits_graph.Goals as goal

pub returns : goal.returns
returns g c = c.awaits_graph.ensures ∙ ap (λ (k : Coord). awaits_graph k c.args.segment) c.requires.holds
