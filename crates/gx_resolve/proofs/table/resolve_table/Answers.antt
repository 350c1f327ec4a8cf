use Rattle.gx_resolve.proofs.Promised.{table_promise}
use Rattle.gx_resolve.proofs.table.resolve_table.Goals as goal

pub returns-clause-rules : goal.returns-clause-rules
returns-clause-rules c = table_promise c.args.known c.args.table.now c.declared.result c.declared.ensures
