use Rattle.std.proofs.Common.{◌∙◌, ap}
use Rattle.gx_rules.specs.Coordinators.{with_state}
use Rattle.gx_coord.proofs.ends.close.Goals as goal

pub returns-clause-coord : goal.returns-clause-coord
returns-clause-coord c = c.set_state.ensures.coord ∙ ap (λ k. with_state k c.args.id c.args.state) c.forget_work.ensures.coord
