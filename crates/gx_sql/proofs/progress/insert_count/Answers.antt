use Rattle.std.proofs.Common.{ℕ, List, ◌∙◌, ap}
use Rattle.gx_sql.specs.Held.{named}
use Rattle.gx_sql.specs.Progress.{counted}
use Rattle.gx_sql.proofs.Held.{named_insert}
use Rattle.gx_sql.proofs.progress.insert_count.Goals as goal

pub returns-clause-counted : goal.returns-clause-counted
returns-clause-counted c =
    ap named c.in_ok-insert.ensures.entries ∙ named_insert c.args.sessions.now.entries c.in_ok-key.key c.args.count
    ∙ ap (λ (n : List ℕ). counted n c.args.count (named c.args.sessions.now.entries)) c.in_ok-key.ensures
