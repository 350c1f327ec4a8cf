use Rattle.gx_gather.proofs.Dealing.{divided}
use Rattle.gx_gather.proofs.laws.dealt_rows_are_divided.Goals as goal

pub returns : goal.returns
returns c = λ owner n rows all. divided owner n rows all
