use Rattle.std.proofs.Common.{◌+◌, ◌∷◌, ◌∙◌, [], refl, sym}
use Rattle.gx_store.specs.Marks.{answer_count}
use Rattle.gx_agenda.specs.Moves.{more_for}
use Rattle.gx_agenda.proofs.Noting.{counts-same, few-same, mark-answers, mark-none, none-more, on-ok}
use Rattle.gx_agenda.proofs.Oks.{always-ok}
use Rattle.gx_agenda.proofs.TakenSlots.{gone-answered, gone-untold}
use Rattle.gx_agenda.proofs.lines.note_mark.Goals as goal

pub returns-in-Some-clause-queue : goal.returns-in-Some-clause-queue
returns-in-Some-clause-queue c =
    let session = c.in-Some.session in
    let mark = c.args.mark.now in
    let is = sym c.answered_session.ensures ∙ c.in-Some.is in
    on-ok c.count.result c.count.ensures (λ counted lines started answered queued few few_answered.
    counts-same lines (more_for session 0 started) (more_for session 1 answered) started (λ s. answered s + answer_count s (mark ∷ [])) c.count.new.self (none-more session started) (mark-answers mark session is answered)
    (counted lines started answered queued (few-same started (more_for session 0 started) (λ s. sym (none-more session started s)) few) (few-same (λ s. answered s + answer_count s (mark ∷ [])) (more_for session 1 answered) (λ s. sym (mark-answers mark session is answered s)) few_answered)))

pub returns-in-Some-clause-slots : goal.returns-in-Some-clause-slots
returns-in-Some-clause-slots c = always-ok c.count.result (gone-answered c.args.mark.now c.in-Some.session (sym c.answered_session.ensures ∙ c.in-Some.is) c.args.slots.now c.note_answered.new.slots c.note_answered.ensures)

pub returns-then-is_told-clause-queue : goal.returns-then-is_told-clause-queue
returns-then-is_told-clause-queue c = always-ok c.note_told.result (λ lines started answered queued few few_answered.
    counts-same lines started answered started (λ s. answered s + answer_count s (c.args.mark.now ∷ [])) c.args.queue.now (λ s. refl) (mark-none c.args.mark.now (sym c.answered_session.ensures ∙ c.in-None.is) answered) queued)

pub returns-else-is_told-clause-queue : goal.returns-else-is_told-clause-queue
returns-else-is_told-clause-queue c = λ lines started answered queued few few_answered.
    counts-same lines started answered started (λ s. answered s + answer_count s (c.args.mark.now ∷ [])) c.args.queue.now (λ s. refl) (mark-none c.args.mark.now (sym c.answered_session.ensures ∙ c.in-None.is) answered) queued

pub returns-else-is_told-clause-slots : goal.returns-else-is_told-clause-slots
returns-else-is_told-clause-slots c = gone-untold c.args.mark.now (sym c.answered_session.ensures ∙ c.in-None.is) (sym c.is_told.ensures ∙ c.if-is_told.false) c.args.slots.now
