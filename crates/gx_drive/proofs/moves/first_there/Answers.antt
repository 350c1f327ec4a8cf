use Rattle.std.proofs.Common.{◌∙◌}
use Rattle.gx_drive.proofs.Quieter.{nobody-resumes}
use Rattle.gx_drive.proofs.moves.first_there.Goals as goal

pub returns-else-waiting-clause-first : goal.returns-else-waiting-clause-first
returns-else-waiting-clause-first c = c.first_to.ensures.first ∙ nobody-resumes c.args.world.now.script c.args.world.now.run.steps (c.requires.waiting c.if-waiting.false)
