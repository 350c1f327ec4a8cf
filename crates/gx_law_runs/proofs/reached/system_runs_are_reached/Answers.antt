use Rattle.gx_law_order.proofs.Machines.{system-led}
use Rattle.gx_law_runs.proofs.reached.system_runs_are_reached.Goals as goal

pub returns : goal.returns
returns c = λ script run system. let m = system-led script run system in record { events = m.events; is = m.is }
