use Rattle.std.proofs.Common.{◌∙◌}
use Rattle.gx_groups.specs.Calls.{fresh_table}
use Rattle.gx_groups.proofs.Fresh.{nobody-asks, whole-fresh}
use Rattle.gx_groups.proofs.Runs.{in-order}
use Rattle.gx_groups.proofs.laws.slots_are_taken_in_order.Goals as goal

pub returns : goal.returns
returns c = λ limits of calls place within run. in-order (fresh_table limits of) calls place run (whole-fresh of limits within) ∙ nobody-asks of 0 limits place _
