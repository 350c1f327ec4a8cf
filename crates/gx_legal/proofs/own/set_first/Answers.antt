use Rattle.gx_legal.proofs.OwnRows.{gxid-other}
use Rattle.gx_legal.proofs.own.set_first.Goals as goal

pub returns-clause-elsewhere : goal.returns-clause-elsewhere
returns-clause-elsewhere c = λ g other. c.in_ok-insert.ensures.updates.2 g (gxid-other c.args.gxid g other)
