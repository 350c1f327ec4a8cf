use Rattle.std.proofs.Common.{false}
use Rattle.gx_node.proofs.Later.{later-alike}
use Rattle.gx_rules.specs.AtCoordinator.{coord_rule}
use Rattle.gx_rules.specs.Coordinators.{Coord}
use Rattle.gx_coord.proofs.Gone.{has-stepped}
use Rattle.gx_coord.proofs.coord.Coord.step.Goals as goal

pub returns-in-Ok-clause-stepped : goal.returns-in-Ok-clause-stepped
returns-in-Ok-clause-stepped g c =
    has-stepped c.args.self.now c.step_on.new.coord c.args.event _ _ c.step_on.new.marks.items g.c (c.requires.1.1.0 c.if-self.false) (c.requires.1.1.1.0 c.if-self.false) c.in-Ok.ensures.gone

pub returns-in-Err-clause-item : goal.returns-in-Err-clause-item
returns-in-Err-clause-item g c =
    later-alike (λ (k : Coord). (coord_rule c.args.self.now.script.value k c.args.event false).item) (c.requires.1.1.0 c.if-self.false).holds c.step_on.ensures.later

pub returns-in-Ok-clause-item : goal.returns-in-Ok-clause-item
returns-in-Ok-clause-item g c =
    later-alike (λ (k : Coord). (coord_rule c.args.self.now.script.value k c.args.event false).item) (c.requires.1.1.0 c.if-self.false).holds c.step_on.ensures.later
