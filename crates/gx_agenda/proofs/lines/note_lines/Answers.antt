use Rattle.std.proofs.Common.{◌+◌, subst}
use Rattle.std.specs.Prelude.{OnOk}
use Rattle.gx_ids.specs.declared.ids.SessionId.{SessionId}
use Rattle.gx_store.specs.declared.event.Event.{Event}
use Rattle.gx_store.specs.Marks.{answer_count}
use Rattle.gx_store.specs.Points.{marks_in, starts_by, starts_in}
use Rattle.gx_agenda.specs.Moves.{AreFew}
use Rattle.gx_agenda.specs.Queued.{AreQueuedBy}
use Rattle.gx_agenda.proofs.Noting.{AreNoted, few-before, few-starts, on-ok, step-noted}
use Rattle.gx_agenda.proofs.lines.note_lines.Goals as goal

pub returns-clause-queue : goal.returns-clause-queue
returns-clause-queue c = on-ok c.note_marks.result (subst (λ ms. OnOk c.note_marks.result (AreNoted c.note_event.new.self c.note_marks.new.queue ms)) c.marks.ensures c.note_marks.ensures.queue) (λ marked script steps queued counted.
    let step = c.args.step.now in
    step-noted steps step script.lines c.note_event.new.self c.note_marks.new.queue counted marked
    (subst
    (λ (e : Event). AreFew (λ (s : SessionId). starts_in s steps + starts_by s e) → AreFew (λ (s : SessionId). answer_count s (marks_in steps))
    → AreQueuedBy script.lines (λ (s : SessionId). starts_in s steps + starts_by s e) (λ (s : SessionId). answer_count s (marks_in steps)) c.note_event.new.self)
    c.event.ensures
    (c.in_ok-note_event.ensures script.lines (λ s. starts_in s steps) (λ s. answer_count s (marks_in steps)) queued)
    (few-starts steps step counted)
    (few-before steps step counted)))
