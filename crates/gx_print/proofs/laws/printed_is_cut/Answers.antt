use Rattle.gx_print.proofs.StmtCut.{stmt_cut}
use Rattle.gx_print.proofs.laws.printed_is_cut.Goals as goal

pub returns : goal.returns
returns c = stmt_cut
