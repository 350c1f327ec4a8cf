use Rattle.std.proofs.Common.{◌∙◌, ap}
use Rattle.gx_groups.specs.Standings.{standing_at}
use Rattle.gx_groups.specs.Table.{Table, asks, is_asking}
use Rattle.gx_groups.proofs.Noted.{asks-noted}
use Rattle.gx_groups.proofs.groups.Groups.asks.Goals as goal

pub returns : goal.returns
returns c =
    c.is_asking.ensures
    ∙ ap is_asking (c.standing_of.ensures ∙ ap (λ standings. standing_at standings c.args.session) c.deref.ensures.value)
    ∙ asks-noted (record { groups = c.self.inside.groups.items; seats = c.self.inside.seats.items }) c.self.inside.standings.items c.args.session c.self.invariant.1
    ∙ ap (λ (t : Table). asks t c.args.session) c.self.view_is
