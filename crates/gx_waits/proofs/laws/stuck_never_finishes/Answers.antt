use Rattle.gx_waits.proofs.StuckWaits as stuck
use Rattle.gx_waits.proofs.laws.stuck_never_finishes.Goals as goal

pub returns : goal.returns
returns c = stuck.stuck_never_finishes
