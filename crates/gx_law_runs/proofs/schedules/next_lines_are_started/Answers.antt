use Rattle.gx_law_order.proofs.Legality.{sessions-stand}
use Rattle.gx_rules.specs.Machine.{world_of}
use Rattle.gx_law_runs.proofs.Numbering.{next-is}
use Rattle.gx_law_runs.proofs.schedules.next_lines_are_started.Goals as goal

pub returns : goal.returns
returns c = λ script events line some numbered there next. next-is script (world_of script events).steps (world_of script events).coord line (sessions-stand script some events line.session) numbered there next
