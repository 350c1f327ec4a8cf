use Rattle.gx_print.proofs.StmtSpelled.{stmt_spelled}
use Rattle.gx_print.proofs.laws.printed_is_spelled.Goals as goal

pub returns : goal.returns
returns c = stmt_spelled
