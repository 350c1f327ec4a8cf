use Rattle.gx_print.proofs.LineKept.{line_written}
use Rattle.gx_print.proofs.laws.read_lines_keep_the_limits.Goals as goal

pub returns : goal.returns
returns c = line_written
