use Rattle.gx_law_order.proofs.Legality.{sessions-stand}
use Rattle.gx_rules.specs.Machine.{world_of}
use Rattle.gx_law_runs.proofs.Sessions.{end-alike}
use Rattle.gx_law_runs.proofs.schedules.ends_are_admitted.Goals as goal

pub returns : goal.returns
returns c = λ script events session some. end-alike script session (world_of script events).steps (world_of script events).coord (sessions-stand script some events session)
