use Rattle.std.proofs.Common.{◌∙◌, ap}
use Rattle.gx_groups.specs.Standings.{standing_at}
use Rattle.gx_groups.specs.Table.{Table, holds, is_holding}
use Rattle.gx_groups.proofs.Noted.{holds-noted}
use Rattle.gx_groups.proofs.groups.Groups.holds.Goals as goal

pub returns : goal.returns
returns c =
    c.is_holding.ensures
    ∙ ap is_holding (c.standing_of.ensures ∙ ap (λ standings. standing_at standings c.args.session) c.deref.ensures.value)
    ∙ holds-noted (record { groups = c.self.inside.groups.items; seats = c.self.inside.seats.items }) c.self.inside.standings.items c.args.session c.self.invariant.1
    ∙ ap (λ (t : Table). holds t c.args.session) c.self.view_is
