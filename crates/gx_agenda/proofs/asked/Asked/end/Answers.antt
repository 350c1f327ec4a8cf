use Rattle.gx_agenda.proofs.Waiting.{none-waiting}
use Rattle.gx_agenda.proofs.asked.Asked.end.Goals as goal

pub returns-then-is_empty-clause-waits : goal.returns-then-is_empty-clause-waits
returns-then-is_empty-clause-waits c = none-waiting (record { segment = c.args.node; gxid = c.args.gxid.now }) (record { gxid = c.args.gxid.now; object = c.args.object.now; mode = c.args.mode.now }) c.args.self.now.waiting
    (c.is_empty.ensures.0 c.if-is_empty.true)
