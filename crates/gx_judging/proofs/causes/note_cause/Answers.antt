use Rattle.gx_detect.proofs.Counting.{gxid-other}
use Rattle.gx_judging.proofs.causes.note_cause.Goals as goal

pub returns-clause-elsewhere : goal.returns-clause-elsewhere
returns-clause-elsewhere c = λ g other. c.in_ok-insert.ensures.updates.2 g (gxid-other c.args.gxid g other)
