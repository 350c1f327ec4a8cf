use Rattle.std.proofs.Common.{List, ℕ, ◌∷◌, [], ◌∙◌, ap, arith}
use Rattle.gx_sql.specs.Groups.{before_standing}
use Rattle.gx_sql.specs.Held.{named}
use Rattle.gx_sql.proofs.Grouping.{only-one}
use Rattle.gx_sql.proofs.groups.before_standing.Goals as goal

pub returns-in-len1 : goal.returns-in-len1
returns-in-len1 c =
    c.before_one.ensures c.args.place
    ∙ ap (λ (n : List ℕ). before_standing c.args.place (named c.args.members.now.entries) (n ∷ [])) c.as_slice.ensures
    ∙ ap (before_standing c.args.place (named c.args.members.now.entries))
    (only-one c.args.names.now c.name-item.result (omega (arith, c.in-len1.len_at_least)) (omega (arith, c.in-len1.len_below)) c.name-item.is)
