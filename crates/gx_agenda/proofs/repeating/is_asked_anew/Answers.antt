use Rattle.gx_agenda.proofs.Steps.{anew-received}
use Rattle.gx_agenda.proofs.repeating.is_asked_anew.Goals as goal

pub returns-in-Receive : goal.returns-in-Receive
returns-in-Receive c = λ anew steps told. anew-received steps c.args.event c.in-Receive.from _ _ _ c.args.marks.now c.in-Receive.is told (c.is_answer_made_up.ensures anew)
