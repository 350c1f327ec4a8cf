use Rattle.gx_drive.proofs.Quieter.{delivered-first, resuming-first}
use Rattle.gx_drive.proofs.moves.first_move.Goals as goal

pub returns-in-Some-clause-first : goal.returns-in-Some-clause-first
returns-in-Some-clause-first c = delivered-first c.args.world.now.script c.args.world.now.run.steps c.in-Some.event c.in-Some.ensures.first

pub returns-in-None-clause-first : goal.returns-in-None-clause-first
returns-in-None-clause-first c = resuming-first c.args.world.now.script c.args.world.now.run.steps _ c.in-None.ensures.first c.first_there.ensures.first
