use Rattle.std.specs.Prelude.{◌≡◌, drop}
use Rattle.gx_agenda.specs.Slotted.{noted}
use Rattle.gx_agenda.proofs.opening.note_answers.Given as goal

abbrev pub invariant-loop-mark : goal.invariant-loop-mark
invariant-loop-mark l = noted l.script.lines l.queue.standings.items l.outside.items (drop l.mark-index l.marks) ≡ noted l.script.lines l.queue.standings.items l.initial.outside.items l.marks
