use Rattle.std.proofs.Common.{ℕ, List, ◌++◌, ◌∷◌, [], None, ◌≡◌, ◌∙◌, ap, subst, sym}
use Rattle.gx_sql.specs.Groups.{place_among}
use Rattle.gx_sql.specs.Held.{named}
use Rattle.gx_sql.specs.Progress.{counted}
use Rattle.gx_sql.proofs.Held.{named_insert}
use Rattle.gx_sql.proofs.Members.{counted-absent}
use Rattle.gx_sql.proofs.groups.insert_member.Goals as goal

pub returns : goal.returns
returns c =
    ap named c.in_ok-insert.ensures.entries ∙ named_insert c.args.members.now.entries c.in_ok-key.key c.args.place
    ∙ ap (λ (n : List ℕ). counted n c.args.place (named c.args.members.now.entries)) c.in_ok-key.ensures
    ∙ counted-absent c.args.name.now c.args.place (named c.args.members.now.entries) c.requires
