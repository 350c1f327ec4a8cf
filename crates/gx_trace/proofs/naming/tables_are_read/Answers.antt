use Rattle.gx_trace.proofs.Names.{tables}
use Rattle.gx_trace.proofs.naming.tables_are_read.Goals as goal

pub returns : goal.returns
returns c = tables
