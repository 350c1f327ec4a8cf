use Rattle.gx_print.proofs.StmtWithin.{stmt_within}
use Rattle.gx_print.proofs.laws.read_is_within.Goals as goal

pub returns : goal.returns
returns c = stmt_within
