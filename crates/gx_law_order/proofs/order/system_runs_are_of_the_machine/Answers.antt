use Rattle.gx_law_order.proofs.Machines.{system-led}
use Rattle.gx_law_order.proofs.order.system_runs_are_of_the_machine.Goals as goal

pub returns : goal.returns
returns c = λ script run is. system-led script run is
