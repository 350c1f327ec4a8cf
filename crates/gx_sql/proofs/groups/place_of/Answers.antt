use Rattle.std.proofs.Common.{sym, ◌∙◌}
use Rattle.gx_sql.proofs.Members.{place_among-named}
use Rattle.gx_sql.proofs.groups.place_of.Goals as goal

pub returns-in-Some : goal.returns-in-Some
returns-in-Some c = c.in-Some.ensures.value ∙ sym (place_among-named c.args.name.now c.args.members.now.entries)

pub returns-in-None : goal.returns-in-None
returns-in-None c = c.in-None.ensures.value ∙ sym (place_among-named c.args.name.now c.args.members.now.entries)
