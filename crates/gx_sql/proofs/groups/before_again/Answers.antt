use Rattle.gx_sql.specs.Held.{named}
use Rattle.gx_sql.proofs.Members.{none-in-line}
use Rattle.gx_sql.proofs.groups.before_again.Goals as goal

pub insert_member-requires : goal.insert_member-requires
insert_member-requires c = none-in-line c.as_slice-name.result.now (named c.args.members.now.entries) (named c.loop-count.line.entries) c.stands.result c.stands.ensures c.if-stands.false
