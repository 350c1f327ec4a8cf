use Rattle.std.proofs.Common.{[], refl}
use Rattle.gx_law_runs.proofs.reached.new_runs_are_reached.Goals as goal

pub returns : goal.returns
returns c = λ script. record { events = []; is = refl }
