use Rattle.gx_print.proofs.OneLine.{line_is_read}
use Rattle.gx_print.proofs.laws.one_line_is_read.Goals as goal

pub returns : goal.returns
returns c = line_is_read
