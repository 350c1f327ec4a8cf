use Rattle.std.proofs.Common.{rules}
use Rattle.gx_sql.proofs.Columns.{full_read, full_said, never}
use Rattle.gx_sql.proofs.count.is_full.Goals as goal

pub returns-in-Ok : goal.returns-in-Ok
returns-in-Ok c = full_read c.args.limits c.args.tokens.now (c.in-Ok._name, c.in-Ok.columns) c.len.result c.in-Ok.ensures (search rules)

pub returns-in-Err-Fault : goal.returns-in-Err-Fault
returns-in-Err-Fault c = never (full_said c.args.limits c.args.tokens.now c.in-Err-Fault.field-0 c.in-Err-Fault.field-0-0 c.in-Err-Fault.field-0-1 c.in-Err-Fault.field-0-is c.in-Err-Fault.ensures)
