use Rattle.std.proofs.Common.{arith}
use Rattle.gx_agenda.proofs.Unanswered.{told-unanswered}
use Rattle.gx_agenda.proofs.slots.Slots.note.Goals as goal

pub returns-else-self-gt0 : goal.returns-else-self-gt0
returns-else-self-gt0 c = λ steps step was same told taken queued.
    told-unanswered c.args.script.now steps step was c.args.self.now c.args.queue.now c.args.marks.now same told taken queued (omega (arith, c.if-self-gt0.false))
