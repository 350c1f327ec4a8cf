use Rattle.std.proofs.Common.{ap, ◌∙◌}
use Rattle.gx_locks.specs.Locks.{next_ready}
use Rattle.gx_rules.specs.Coordinators.{Coord}
use Rattle.gx_coord.proofs.coord.Coord.ready.Goals as goal

pub returns : goal.returns
returns g c = c.ready.ensures.value ∙ ap (λ (k : Coord). next_ready k.locks) c.requires.holds
