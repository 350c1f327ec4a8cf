use Rattle.gx_dtx.specs.Table.{Table}
use Rattle.gx_dtx.proofs.Made.{IsWhole-tried}
use Rattle.gx_dtx.proofs.dtx.Dtx.enlist.Goals as goal

abbrev table : goal.After-enlist → Table
table c = record { next = c.self.inside.next; latest_ended = c.self.inside.latest_ended; txns = c.self.inside.txns }

pub invariant_of-self : goal.invariant_of-self
invariant_of-self c = IsWhole-tried (table c) c.args.gxid c.args.node c.enlist.new.self c.enlist.result c.enlist.ensures.ok c.enlist.ensures.err c.self.invariant
