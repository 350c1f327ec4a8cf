use Rattle.gx_print.specs.Written.{written}
use Rattle.gx_print.proofs.StmtWithin.{stmt_within}
use Rattle.gx_print.proofs.Printed.{text_again}
use Rattle.gx_print.proofs.StmtResolved.{read_again}
use Rattle.gx_print.proofs.laws.printed_reads_again.Goals as goal

pub returns : goal.returns
returns c d tables s x ts are spelled resolved size = let a = read_again d tables s x are (stmt_within d s ts spelled) size resolved in (text_again d (written tables x) a.clear a.within, a.again)
