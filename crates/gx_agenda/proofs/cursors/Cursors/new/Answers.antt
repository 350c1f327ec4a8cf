use Rattle.std.proofs.Common.{sym}
use Rattle.gx_agenda.proofs.Agreeing.{agree_fresh}
use Rattle.gx_agenda.proofs.cursors.Cursors.new.Goals as goal

pub returns : goal.returns
returns c = agree_fresh c.args.script.now (record { faults = c.in_ok-faults.faults; links = c.in_ok-links.links }) (c.in_ok-faults.ensures c.args.script.now (sym c.as_slice.ensures)) c.in_ok-links.ensures.whole c.in_ok-links.ensures.fresh
