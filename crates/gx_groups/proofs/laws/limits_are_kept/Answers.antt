use Rattle.gx_groups.specs.Calls.{fresh_table}
use Rattle.gx_groups.proofs.Fresh.{whole-fresh}
use Rattle.gx_groups.proofs.Runs.{whole-after}
use Rattle.gx_groups.proofs.laws.limits_are_kept.Goals as goal

pub returns : goal.returns
returns c = λ limits of calls within run. (whole-after (fresh_table limits of) calls run (whole-fresh of limits within)).limits
