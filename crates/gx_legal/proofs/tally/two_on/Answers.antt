use Rattle.gx_legal.proofs.Tallying.{either-on}
use Rattle.gx_legal.proofs.tally.two_on.Goals as goal

pub returns : goal.returns
returns c = λ g below. either-on (c.one_on-next.ensures g) (c.one_on.ensures g below)
