use Rattle.std.proofs.Common.{◌+◌, ◌∷◌, ◌∙◌, [], ap, refl, sym}
use Rattle.std.specs.Prelude.{option_map}
use Rattle.gx_store.specs.Marks.{answer_count}
use Rattle.gx_agenda.specs.Expected.{expected_of}
use Rattle.gx_agenda.specs.Moves.{more_for}
use Rattle.gx_agenda.proofs.Noting.{counts-same, few-same, mark-answers, answer-asks, answer-sends, answer-waits, mark-none, none-more, on-ok}
use Rattle.gx_agenda.proofs.Oks.{always-ok}
use Rattle.gx_agenda.proofs.TakenSlots.{gone-answered}
use Rattle.gx_agenda.proofs.Waiting.{of_gxid}
use Rattle.gx_agenda.proofs.marking.own_mark.Goals as goal

pub returns-in-Some-clause-queue : goal.returns-in-Some-clause-queue
returns-in-Some-clause-queue c =
    let session = c.in-Some.session in
    let mark = c.args.mark.now in
    let is = sym c.answered_session.ensures ∙ c.in-Some.is in
    on-ok c.count.result c.count.ensures (λ counted lines started answered queued few few_answered.
    counts-same lines (more_for session 0 started) (more_for session 1 answered) started (λ s. answered s + answer_count s (mark ∷ [])) c.count.new.self (none-more session started) (mark-answers mark session is answered)
    (counted lines started answered queued (few-same started (more_for session 0 started) (λ s. sym (none-more session started s)) few) (few-same (λ s. answered s + answer_count s (mark ∷ [])) (more_for session 1 answered) (λ s. sym (mark-answers mark session is answered s)) few_answered)))

pub returns-in-None-clause-queue : goal.returns-in-None-clause-queue
returns-in-None-clause-queue c = always-ok c.own_other.result (λ lines started answered queued few few_answered.
    counts-same lines started answered started (λ s. answered s + answer_count s (c.args.mark.now ∷ [])) c.args.queue.now (λ s. refl) (mark-none c.args.mark.now (sym c.answered_session.ensures ∙ c.in-None.is) answered) queued)

pub returns-in-Some-clause-none : goal.returns-in-Some-clause-none
returns-in-Some-clause-none c = λ segment low high. answer-sends c.args.mark.now c.in-Some.session (sym c.answered_session.ensures ∙ c.in-Some.is) segment

pub returns-in-Some-clause-asked : goal.returns-in-Some-clause-asked
returns-in-Some-clause-asked c = always-ok c.count.result (λ segment g was e.
    e ∙ sym (ap (option_map expected_of) (answer-asks c.args.mark.now c.in-Some.session (sym c.answered_session.ensures ∙ c.in-Some.is) segment g was)))

pub returns-in-Some-clause-waits : goal.returns-in-Some-clause-waits
returns-in-Some-clause-waits c = always-ok c.count.result (λ standing were node g.
    were node g ∙ sym (ap (of_gxid g) (answer-waits c.args.mark.now c.in-Some.session (sym c.answered_session.ensures ∙ c.in-Some.is) node (standing node))))

pub returns-in-Some-clause-slots : goal.returns-in-Some-clause-slots
returns-in-Some-clause-slots c = always-ok c.count.result (gone-answered c.args.mark.now c.in-Some.session (sym c.answered_session.ensures ∙ c.in-Some.is) c.args.slots.now c.note_answered.new.slots c.note_answered.ensures)
