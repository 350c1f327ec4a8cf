use Rattle.gx_judging.proofs.Wholes.{three-parts}
use Rattle.gx_judging.proofs.laws.histories_have_three_parts.Goals as goal

pub returns : goal.returns
returns c = three-parts
