use Rattle.gx_agenda.proofs.FirstLines.{first-due, none-due}
use Rattle.gx_agenda.proofs.queue.Queue.first.Goals as goal

pub returns-in-Some : goal.returns-in-Some
returns-in-Some c = λ script steps queued. first-due script steps c.args.self.now queued c.in-Some.field-0-0 c.in-Some.session c.in-Some.ensures.found c.in-Some.ensures.least

pub returns-in-None : goal.returns-in-None
returns-in-None c = λ script steps queued. none-due script steps c.args.self.now queued c.in-None.ensures.none
