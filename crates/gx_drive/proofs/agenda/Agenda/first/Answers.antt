use Rattle.std.proofs.Common.{◌∙◌, ap, sym}
use Rattle.gx_store.specs.Schedule.{first_of}
use Rattle.gx_drive.proofs.Enabled.{move-first, past-moves}
use Rattle.gx_drive.proofs.Let.{let-parts}
use Rattle.gx_drive.proofs.agenda.Agenda.first.Goals as goal

pub returns-in-Some-clause-first : goal.returns-in-Some-clause-first
returns-in-Some-clause-first c = move-first _ _ _ _ _ _ c.in-Some.ensures.first ∙ sym (ap first_of (let-parts c.args.world.now.script c.args.world.now.run.steps))

pub returns-in-None-clause-first : goal.returns-in-None-clause-first
returns-in-None-clause-first c =
    c.asked_for.ensures.first ∙ past-moves _ _ _ _ _ c.in-None.ensures.first ∙ sym (ap first_of (let-parts c.args.world.now.script c.args.world.now.run.steps))
