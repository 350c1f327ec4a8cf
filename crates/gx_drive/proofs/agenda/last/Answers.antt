use Rattle.std.proofs.Common.{[], ◌∙◌}
use Rattle.gx_drive.proofs.Enabled.{end-first, past-ends}
use Rattle.gx_drive.proofs.agenda.last.Goals as goal

pub returns-in-Some-clause-first : goal.returns-in-Some-clause-first
returns-in-Some-clause-first c = end-first _ [] [] [] _ _ c.in-Some.ensures.first

pub returns-in-None-clause-first : goal.returns-in-None-clause-first
returns-in-None-clause-first c = c.next_round.ensures.first ∙ past-ends c.args.world.now.script c.args.world.now.run.steps _ c.in-None.ensures.first
