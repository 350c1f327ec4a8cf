use Rattle.gx_drive.proofs.Draws.{first-admitted, first-is, first-nothing}
use Rattle.gx_drive.proofs.turn.next_event.Goals as goal

pub returns-clause-first : goal.returns-clause-first
returns-clause-first c = first-is c.args.world.now.script c.args.world.now.run.steps c.first.result c.requires.unfinished c.first.ensures.first

pub returns-clause-admitted : goal.returns-clause-admitted
returns-clause-admitted c =
    first-admitted c.args.world.now.script c.args.world.now.run.steps c.requires.language.some_segments c.requires.reached c.first.result c.first.ensures.first

pub returns-clause-stuck : goal.returns-clause-stuck
returns-clause-stuck c = first-nothing c.args.world.now.script c.args.world.now.run.steps c.first.result c.first.ensures.first
