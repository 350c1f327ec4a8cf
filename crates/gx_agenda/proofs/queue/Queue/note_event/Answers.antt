use Rattle.std.proofs.Common.{◌+◌, ◌∙◌, refl, sym}
use Rattle.gx_store.specs.Points.{starts_by}
use Rattle.gx_agenda.specs.Moves.{more_for}
use Rattle.gx_agenda.proofs.Noting.{counts-same, event-none, event-starts, few-same, none-more, on-ok}
use Rattle.gx_agenda.proofs.queue.Queue.note_event.Goals as goal

pub returns-in-Some : goal.returns-in-Some
returns-in-Some c =
    let session = c.in-Some.session in
    let is = sym c.started_session.ensures ∙ c.in-Some.is in
    on-ok c.count.result c.count.ensures (λ counted lines started answered queued few few_answered.
    counts-same lines (more_for session 1 started) (more_for session 0 answered) (λ s. started s + starts_by s c.args.event) answered c.count.new.self (event-starts c.args.event session is started) (none-more session answered)
    (counted lines started answered queued (few-same (λ s. started s + starts_by s c.args.event) (more_for session 1 started) (λ s. sym (event-starts c.args.event session is started s)) few) (few-same answered (more_for session 0 answered) (λ s. sym (none-more session answered s)) few_answered)))

pub returns-in-None : goal.returns-in-None
returns-in-None c = λ lines started answered queued few few_answered.
    counts-same lines started answered (λ s. started s + starts_by s c.args.event) answered c.args.self.now (event-none c.args.event (sym c.started_session.ensures ∙ c.in-None.is) started) (λ s. refl) queued
