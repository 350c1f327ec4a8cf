use Rattle.std.proofs.Common.{◌≤◌, ◌∙◌, ap, length, sym, subst}
use Rattle.gx_sql.specs.Groups.{groups_by}
use Rattle.gx_sql.specs.Held.{named}
use Rattle.gx_sql.proofs.Grouping.{by-places, many-places}
use Rattle.gx_sql.proofs.groups.all_groups.Goals as goal

pub groups_by-requires : goal.groups_by-requires
groups_by-requires c =
    subst (λ n. n ≤ 64) (sym (ap length (c.as_slice.ensures.value ∙ c.in_ok-places.ensures) ∙ many-places (named c.args.members.now.entries) c.args.names.now)) c.requires

pub returns : goal.returns
returns c =
    c.in_ok-made.ensures
    ∙ ap (λ places. groups_by places 0 c.args.groups.now) (c.as_slice.ensures.value ∙ c.in_ok-places.ensures)
    ∙ by-places (named c.args.members.now.entries) c.args.names.now 0 c.args.groups.now
