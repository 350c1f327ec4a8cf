use Rattle.std.proofs.Common.{subst, sym}
use Rattle.gx_agenda.specs.Slotted.{HasTaken}
use Rattle.gx_agenda.proofs.Unanswered.{by-slots}
use Rattle.gx_agenda.proofs.slots.note_slots.Goals as goal

pub returns-in-Some : goal.returns-in-Some
returns-in-Some c = λ steps was told gone queued.
    by-slots c.args.script.now steps c.args.step.now.marks was c.args.slots.now c.in-Some.slots _ c.in-Some.is told gone
    (λ w as_told taken. c.note.ensures steps c.args.step.now w (sym c.marks.ensures) as_told (subst (λ ms. HasTaken ms w c.in-Some.slots) (sym c.marks.ensures) taken) queued)
