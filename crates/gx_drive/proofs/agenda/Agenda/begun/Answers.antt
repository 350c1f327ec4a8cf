use Rattle.std.proofs.Common.{[], ◌∙◌}
use Rattle.gx_drive.proofs.Enabled.{past-starts, start-first}
use Rattle.gx_drive.proofs.agenda.Agenda.begun.Goals as goal

pub returns-in-Some-clause-first : goal.returns-in-Some-clause-first
returns-in-Some-clause-first c = start-first _ [] [] _ _ _ (c.in-Some.ensures c.args.world.now.script c.args.world.now.run.steps c.requires.agreed.queue c.requires.agreed.slots)

pub returns-in-None-clause-first : goal.returns-in-None-clause-first
returns-in-None-clause-first c =
    c.last.ensures.first ∙ past-starts _ _ _ (c.in-None.ensures c.args.world.now.script c.args.world.now.run.steps c.requires.agreed.queue c.requires.agreed.slots)
