use Rattle.gx_print.specs.Written.{written}
use Rattle.gx_print.proofs.Printed.{printed_again}
use Rattle.gx_print.proofs.stmts.print_stmt.Goals as goal

pub returns-clause-again : goal.returns-clause-again
returns-clause-again c d clear within = printed_again d (written c.args.tables.now c.args.stmt.now) c.print.result clear within c.print.ensures
