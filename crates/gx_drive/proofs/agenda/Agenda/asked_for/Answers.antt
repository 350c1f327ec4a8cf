use Rattle.std.proofs.Common.{[], ◌∙◌}
use Rattle.gx_drive.proofs.Asked.{resendable}
use Rattle.gx_drive.proofs.Draws.{again-due}
use Rattle.gx_drive.proofs.Enabled.{past-resends, resend-first}
use Rattle.gx_drive.proofs.agenda.Agenda.asked_for.Goals as goal

pub returns-in-Some-clause-first : goal.returns-in-Some-clause-first
returns-in-Some-clause-first c =
    resend-first _ [] _ _ _ _
    (c.in-Some.ensures c.args.world.now.script c.args.world.now.run.steps c.requires.agreed.asked
    (resendable c.args.world.now.script c.requires.language.some_segments c.args.world.now.run.steps c.requires.reached c.requires.none) c.first_graph.ensures)

pub returns-in-None-clause-first : goal.returns-in-None-clause-first
returns-in-None-clause-first c =
    c.begun.ensures.first
    ∙ past-resends _ _ _ _
    (c.in-None.ensures c.args.world.now.script c.args.world.now.run.steps c.requires.agreed.asked
    (resendable c.args.world.now.script c.requires.language.some_segments c.args.world.now.run.steps c.requires.reached c.requires.none) c.first_graph.ensures)

pub returns-in-Some-clause-due : goal.returns-in-Some-clause-due
returns-in-Some-clause-due c =
    again-due c.args.world.now.script c.args.world.now.run.steps _
    (c.in-Some.ensures c.args.world.now.script c.args.world.now.run.steps c.requires.agreed.asked
    (resendable c.args.world.now.script c.requires.language.some_segments c.args.world.now.run.steps c.requires.reached c.requires.none) c.first_graph.ensures)
