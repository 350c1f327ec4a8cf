use Rattle.gx_world.proofs.Waits.{waits-here, waits-there}
use Rattle.gx_world.proofs.waiting.any_wait.Goals as goal

pub returns-then-any_wait_here : goal.returns-then-any_wait_here
returns-then-any_wait_here c = waits-here c.args.network.now c.requires.is c.any_wait_here.result c.any_wait_here.ensures c.if-any_wait_here.true

pub returns-else-any_wait_here : goal.returns-else-any_wait_here
returns-else-any_wait_here c = waits-there c.args.network.now c.requires.is c.any_wait_here.result c.any_wait_there.result c.any_wait_here.ensures c.if-any_wait_here.false c.any_wait_there.ensures
