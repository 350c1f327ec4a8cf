use Rattle.gx_agenda.proofs.Noting.{marks-all, marks-none, marks-step}
use Rattle.gx_agenda.proofs.TakenSlots.{leads-on, leads-there}
use Rattle.gx_agenda.proofs.lines.note_marks.Goals as goal

pub loop-mark-init : goal.loop-mark-init
loop-mark-init c = (λ lines started answered queued few few_answered. marks-none lines started answered c.args.marks.now c.args.queue.now queued, λ final gone. gone)

pub loop-mark-preserved : goal.loop-mark-preserved
loop-mark-preserved c = (
  λ lines started answered queued few few_answered.
      marks-step lines started answered c.args.marks.now c.loop-mark.mark-index c.mark-item.result c.loop-mark-test.true c.mark-item.is c.loop-mark.queue c.note_mark.new.queue few few_answered
      (c.loop-mark.invariant.0 lines started answered queued few few_answered) (c.in_ok-note_mark.ensures.queue lines),
  leads-on c.args.marks.now c.loop-mark.mark-index c.mark-item.result c.args.slots.now c.loop-mark.slots c.note_mark.new.slots c.loop-mark-test.true c.mark-item.is c.loop-mark.invariant.1 c.in_ok-note_mark.ensures.slots,
)

pub returns-clause-queue : goal.returns-clause-queue
returns-clause-queue c = λ lines started answered queued few few_answered. marks-all lines started answered c.args.marks.now c.loop-mark.mark-index c.loop-mark.queue c.loop-mark-test.false (c.loop-mark.invariant.0 lines started answered queued few few_answered)

pub returns-clause-slots : goal.returns-clause-slots
returns-clause-slots c = leads-there c.args.marks.now c.loop-mark.mark-index c.args.slots.now c.loop-mark.slots c.loop-mark-test.false c.loop-mark.invariant.1
