use Rattle.gx_print.proofs.Shallow.{expr_shallow}
use Rattle.gx_print.proofs.laws.read_is_shallow.Goals as goal

pub returns : goal.returns
returns c = expr_shallow
