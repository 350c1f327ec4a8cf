use Rattle.std.proofs.Common.{refl}
use Rattle.gx_law_order.proofs.Legality.{sessions-stand}
use Rattle.gx_rules.specs.Machine.{world_of}
use Rattle.gx_law_runs.proofs.Sessions.{next-alike}
use Rattle.gx_law_runs.proofs.schedules.next_lines_are_next.Goals as goal

pub returns : goal.returns
returns c = λ script events line some. next-alike script line.session (world_of script events).steps (world_of script events).coord (sessions-stand script some events line.session) line refl
