use Rattle.std.proofs.Common.{take, refl, sym, ap, ◌∙◌}
use Rattle.gx_store.specs.Waits.{waits_from}
use Rattle.gx_agenda.proofs.Noting.{marks-all, marks-none, marks-step}
use Rattle.gx_agenda.proofs.TakenSlots.{leads-on, leads-there}
use Rattle.gx_agenda.proofs.Waiting.{of_gxid, waits-next}
use Rattle.gx_agenda.proofs.marking.their_marks.Goals as goal

pub loop-mark-init : goal.loop-mark-init
loop-mark-init c = (
  λ lines started answered queued few few_answered. marks-none lines started answered c.args.marks.now c.args.queue.now queued,
  λ r. refl,
  λ standing were. were,
  λ index. index,
  λ final gone. gone,
)

pub loop-mark-preserved : goal.loop-mark-preserved
loop-mark-preserved c = (
  λ lines started answered queued few few_answered.
      marks-step lines started answered c.args.marks.now c.loop-mark.mark-index c.mark-item.result c.loop-mark-test.true c.mark-item.is c.loop-mark.queue c.their_mark.new.queue few few_answered
      (c.loop-mark.invariant.0 lines started answered queued few few_answered) (c.in_ok-their_mark.ensures.queue lines),
  λ r. c.in_ok-their_mark.ensures.awaited r ∙ c.loop-mark.invariant.1 r,
  λ standing were node g.
      c.in_ok-their_mark.ensures.waits (λ n. waits_from n (standing n) (take c.loop-mark.mark-index c.args.marks.now)) (c.loop-mark.invariant.2 standing were) node g
      ∙ ap (of_gxid g) (sym (waits-next node (standing node) c.args.marks.now c.loop-mark.mark-index c.mark-item.result c.loop-mark-test.true c.mark-item.is)),
  λ index. c.in_ok-their_mark.ensures.due (c.loop-mark.invariant.3 index),
  leads-on c.args.marks.now c.loop-mark.mark-index c.mark-item.result c.args.slots.now c.loop-mark.slots c.their_mark.new.slots c.loop-mark-test.true c.mark-item.is c.loop-mark.invariant.4 c.in_ok-their_mark.ensures.slots,
)

pub returns-clause-queue : goal.returns-clause-queue
returns-clause-queue c = λ lines started answered queued few few_answered. marks-all lines started answered c.args.marks.now c.loop-mark.mark-index c.loop-mark.queue c.loop-mark-test.false (c.loop-mark.invariant.0 lines started answered queued few few_answered)

pub returns-clause-slots : goal.returns-clause-slots
returns-clause-slots c = leads-there c.args.marks.now c.loop-mark.mark-index c.args.slots.now c.loop-mark.slots c.loop-mark-test.false c.loop-mark.invariant.4
