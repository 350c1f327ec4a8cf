use Rattle.std.proofs.Common.{◌≡◌, ◌<◌, ◌≤◌, ◌∙◌, List, true, false, ap, subst, sym}
use Rattle.std.specs.Prelude.{OnOk, option_map}
use Rattle.gx_ids.specs.declared.ids.Node.{Node}
use Rattle.gx_ids.specs.declared.stamp.Stamp.{Stamp}
use Rattle.gx_store.specs.declared.mark.Mark.{Mark}
use Rattle.gx_store.specs.Ordered.{sent_count}
use Rattle.gx_store.specs.Schedule.{asked, asked_by}
use Rattle.gx_agenda.specs.Awaited.{waits_in}
use Rattle.gx_agenda.specs.Expected.{expected_of}
use Rattle.gx_agenda.proofs.Noting.{AreNoted, on-ok}
use Rattle.gx_agenda.proofs.Oks.{always-ok, on_ok-three}
use Rattle.gx_agenda.proofs.Quieter.{quiet-behind-coordinator, quiet-behind-segment}
use Rattle.gx_agenda.specs.Slotted.{HasGone}
use Rattle.gx_agenda.proofs.Stamps.{here}
use Rattle.gx_agenda.proofs.Steps.{asked-order, asked-other, asked-own}
use Rattle.gx_agenda.proofs.Waiting.{noted}
use Rattle.gx_agenda.proofs.marking.note_marks.Goals as goal

pub returns-then-eq-clause-quiet : goal.returns-then-eq-clause-quiet
returns-then-eq-clause-quiet c = on-ok c.own_marks.result c.own_marks.ensures.none (λ none script steps were.
    quiet-behind-coordinator script steps c.args.step.now c.args.quiet.now were c.own_marks.new.quiet
    (here c.args.step.now.stamp c.stamp.result true c.stamp.ensures (sym c.eq.ensures ∙ c.if-eq.true)) c.own_marks.ensures.from c.own_marks.ensures.most
    (subst (λ (ms : List Mark). (segment : Node) → 0 < segment.0 → segment.0 ≤ c.own_marks.new.quiet.to → sent_count segment ms ≡ 0) c.marks.ensures none))

pub returns-then-eq-clause-queue : goal.returns-then-eq-clause-queue
returns-then-eq-clause-queue c = subst (λ ms. OnOk c.own_marks.result (AreNoted c.args.queue.now c.own_marks.new.queue ms)) c.marks.ensures c.own_marks.ensures.queue

pub returns-then-eq-clause-asked : goal.returns-then-eq-clause-asked
returns-then-eq-clause-asked c = on_ok-three c.own_marks.result _ _ _ _ c.own_marks.ensures.asked c.own_marks.ensures.waits c.own_marks.ensures.due
    (λ asks waits due steps were told.
    let own = here c.args.step.now.stamp c.stamp.result true c.stamp.ensures (sym c.eq.ensures ∙ c.if-eq.true) in
    noted steps c.args.step.now c.args.asked.now c.own_marks.new.asked were
    (λ segment g.
    let heard = c.hear.ensures.asked steps (told own) segment g (asked steps segment g) (asked-order steps segment g) (were.answers segment g) in
    asks segment g heard.0 heard.1
    ∙ ap (λ ms. option_map expected_of (asked_by segment g heard.0 ms)) c.marks.ensures
    ∙ ap (option_map expected_of) heard.2
    ∙ sym (ap (option_map expected_of) (asked-own steps c.args.step.now segment g own)))
    c.marks.result.now c.marks.ensures
    (λ standing before. waits standing (λ n h. ap (λ m. waits_in m (record { segment = n; gxid = h })) c.hear.ensures.waiting ∙ before n h))
    (due (c.hear.ensures.due were.due)))

pub returns-else-eq-clause-quiet : goal.returns-else-eq-clause-quiet
returns-else-eq-clause-quiet c = always-ok c.their_marks.result (λ script steps were.
    quiet-behind-segment script steps c.args.step.now c.args.quiet.now were c.sent_by.new.self
    (here c.args.step.now.stamp c.stamp.result false c.stamp.ensures (sym c.eq.ensures ∙ c.if-eq.false)) c.sent_by.ensures.to c.sent_by.ensures.most
    (subst (λ (s : Stamp). 0 < s.node.0 → c.sent_by.new.self.from < s.node.0) c.stamp.ensures c.sent_by.ensures.before))

pub returns-else-eq-clause-queue : goal.returns-else-eq-clause-queue
returns-else-eq-clause-queue c = subst (λ ms. OnOk c.their_marks.result (AreNoted c.args.queue.now c.their_marks.new.queue ms)) c.marks-else-eq.ensures c.their_marks.ensures.queue

pub returns-else-eq-clause-asked : goal.returns-else-eq-clause-asked
returns-else-eq-clause-asked c = on_ok-three c.their_marks.result _ _ _ _ c.their_marks.ensures.awaited c.their_marks.ensures.waits c.their_marks.ensures.due
    (λ awaited waits due steps were told.
    noted steps c.args.step.now c.args.asked.now c.their_marks.new.asked were
    (λ segment g.
    awaited (record { segment = segment; gxid = g })
    ∙ were.answers segment g
    ∙ sym (ap (option_map expected_of) (asked-other steps c.args.step.now segment g (here c.args.step.now.stamp c.stamp.result false c.stamp.ensures (sym c.eq.ensures ∙ c.if-eq.false)))))
    c.marks-else-eq.result.now c.marks-else-eq.ensures waits (due were.due))

pub returns-then-eq-clause-slots : goal.returns-then-eq-clause-slots
returns-then-eq-clause-slots c = subst (λ ms. OnOk c.own_marks.result (HasGone ms c.args.slots.now c.own_marks.new.slots)) c.marks.ensures c.own_marks.ensures.slots

pub returns-else-eq-clause-slots : goal.returns-else-eq-clause-slots
returns-else-eq-clause-slots c = subst (λ ms. OnOk c.their_marks.result (HasGone ms c.args.slots.now c.their_marks.new.slots)) c.marks-else-eq.ensures c.their_marks.ensures.slots
