use Rattle.std.proofs.Common.{ap, sym, ◌∙◌}
use Rattle.gx_store.specs.declared.event.Event.{Event}
use Rattle.gx_store.specs.Schedule.{asked_by, unless_answered}
use Rattle.gx_agenda.specs.Awaited.{told_in}
use Rattle.gx_agenda.proofs.asked.Asked.hear.Goals as goal

pub returns-then-not-is_asked_anew-clause-asked : goal.returns-then-not-is_asked_anew-clause-asked
returns-then-not-is_asked_anew-clause-asked c = λ steps told segment g was order is. (
  unless_answered steps segment g was c.event-event.result,
  c.received.ensures.asked steps (told ∙ ap (told_in steps) (sym c.event-event.ensures)) segment g was order is,
  ap (λ (e : Event). asked_by segment g (unless_answered steps segment g was e) c.args.step.now.marks) c.event-event.ensures,
)
