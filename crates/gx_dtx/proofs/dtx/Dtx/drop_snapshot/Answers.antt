use Rattle.std.specs.Prelude.{None}
use Rattle.gx_dtx.specs.Table.{Table}
use Rattle.gx_dtx.proofs.Made.{IsWhole-live}
use Rattle.gx_dtx.proofs.dtx.Dtx.drop_snapshot.Goals as goal

abbrev table : goal.After-set_live → Table
table c = record { next = c.self.inside.next; latest_ended = c.self.inside.latest_ended; txns = c.self.inside.txns }

pub invariant_of-self : goal.invariant_of-self
invariant_of-self c = IsWhole-live (table c) c.args.gxid None c.set_live.new.self c.set_live.ensures c.self.invariant
