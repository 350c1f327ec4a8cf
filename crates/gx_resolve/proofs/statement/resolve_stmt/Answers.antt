use Rattle.std.specs.Option.{option_map}
use Rattle.gx_resolve.proofs.Promised.{stmt_promise}
use Rattle.gx_resolve.proofs.statement.resolve_stmt.Goals as goal

pub returns-clause-rules : goal.returns-clause-rules
returns-clause-rules c = stmt_promise (option_map (λ f. (f.0, f.1.now)) c.args.found) c.args.stmt.now c.resolved.result c.resolved.ensures
