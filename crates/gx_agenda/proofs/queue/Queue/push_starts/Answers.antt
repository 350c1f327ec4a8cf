use Rattle.std.proofs.Common.{◌∙◌, ◌++◌, ap}
use Rattle.gx_agenda.proofs.NextLines.{starts-listed}
use Rattle.gx_agenda.proofs.Oks.{on_ok}
use Rattle.gx_agenda.proofs.queue.Queue.push_starts.Goals as goal

pub returns : goal.returns
returns c = on_ok c.push_sessions.result _ _ c.push_sessions.ensures.all (λ all script steps queued. all ∙ ap (λ xs. c.args.events.now.items ++ xs) (starts-listed script steps c.args.self.now queued c.push_sessions.ensures.ordered))
