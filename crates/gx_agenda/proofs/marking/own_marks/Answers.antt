use Rattle.std.proofs.Common.{take, refl, sym, ap, arith, ◌∙◌}
use Rattle.std.specs.Prelude.{option_map}
use Rattle.gx_store.specs.Schedule.{asked_by}
use Rattle.gx_store.specs.Waits.{waits_from}
use Rattle.gx_agenda.specs.Expected.{expected_of}
use Rattle.gx_agenda.proofs.Noting.{marks-all, marks-none, marks-step}
use Rattle.gx_agenda.proofs.Quieter.{unsent-next}
use Rattle.gx_agenda.proofs.Steps.{asked_by-next}
use Rattle.gx_agenda.proofs.TakenSlots.{leads-on, leads-there}
use Rattle.gx_agenda.proofs.Waiting.{of_gxid, waits-next}
use Rattle.gx_agenda.proofs.marking.own_marks.Goals as goal

pub loop-mark-init : goal.loop-mark-init
loop-mark-init c = (
  refl,
  omega arith,
  λ segment low high. refl,
  λ lines started answered queued few few_answered. marks-none lines started answered c.args.marks.now c.args.queue.now queued,
  λ segment g was e. e,
  λ standing were. were,
  λ index. index,
  λ final gone. gone,
)

pub loop-mark-preserved : goal.loop-mark-preserved
loop-mark-preserved c = (
  c.own_mark.ensures.from ∙ c.loop-mark.invariant.0,
  omega (arith, c.own_mark.ensures.most, c.loop-mark.invariant.1),
  λ segment low high.
      unsent-next c.args.marks.now c.loop-mark.mark-index c.mark-item.result segment c.loop-mark-test.true c.mark-item.is
      (c.loop-mark.invariant.2 segment low (omega (arith, high, c.own_mark.ensures.most))) (c.own_mark.ensures.none segment low high),
  λ lines started answered queued few few_answered.
      marks-step lines started answered c.args.marks.now c.loop-mark.mark-index c.mark-item.result c.loop-mark-test.true c.mark-item.is c.loop-mark.queue c.own_mark.new.queue few few_answered
      (c.loop-mark.invariant.3 lines started answered queued few few_answered) (c.in_ok-own_mark.ensures.queue lines),
  λ segment g was e.
      c.in_ok-own_mark.ensures.asked segment g (asked_by segment g was (take c.loop-mark.mark-index c.args.marks.now)) (c.loop-mark.invariant.4 segment g was e)
      ∙ sym (ap (option_map expected_of) (asked_by-next segment g was c.args.marks.now c.loop-mark.mark-index c.mark-item.result c.loop-mark-test.true c.mark-item.is)),
  λ standing were node g.
      c.in_ok-own_mark.ensures.waits (λ n. waits_from n (standing n) (take c.loop-mark.mark-index c.args.marks.now)) (c.loop-mark.invariant.5 standing were) node g
      ∙ ap (of_gxid g) (sym (waits-next node (standing node) c.args.marks.now c.loop-mark.mark-index c.mark-item.result c.loop-mark-test.true c.mark-item.is)),
  λ index. c.in_ok-own_mark.ensures.due (c.loop-mark.invariant.6 index),
  leads-on c.args.marks.now c.loop-mark.mark-index c.mark-item.result c.args.slots.now c.loop-mark.slots c.own_mark.new.slots c.loop-mark-test.true c.mark-item.is c.loop-mark.invariant.7 c.in_ok-own_mark.ensures.slots,
)

pub returns-clause-queue : goal.returns-clause-queue
returns-clause-queue c = λ lines started answered queued few few_answered. marks-all lines started answered c.args.marks.now c.loop-mark.mark-index c.loop-mark.queue c.loop-mark-test.false (c.loop-mark.invariant.3 lines started answered queued few few_answered)

pub returns-clause-slots : goal.returns-clause-slots
returns-clause-slots c = leads-there c.args.marks.now c.loop-mark.mark-index c.args.slots.now c.loop-mark.slots c.loop-mark-test.false c.loop-mark.invariant.7
