use Rattle.std.proofs.Common.{◌∙◌, ap, is_some}
use Rattle.gx_sql.specs.Held.{named}
use Rattle.gx_sql.proofs.Members.{first-stands, second-stands}
use Rattle.gx_sql.proofs.groups.stands.Goals as goal

pub returns-then-is_some : goal.returns-then-is_some
returns-then-is_some c = first-stands c.args.name.now (named c.args.members.now.entries) (named c.args.line.now.entries) c.is_some.result (c.is_some.ensures ∙ ap is_some c.place_of.ensures) c.if-is_some.true

pub returns-else-is_some : goal.returns-else-is_some
returns-else-is_some c =
    second-stands c.args.name.now (named c.args.members.now.entries) (named c.args.line.now.entries) c.is_some.result c.is_some-else-is_some.result (c.is_some.ensures ∙ ap is_some c.place_of.ensures) c.if-is_some.false
    (c.is_some-else-is_some.ensures ∙ ap is_some c.place_of-else-is_some.ensures)
