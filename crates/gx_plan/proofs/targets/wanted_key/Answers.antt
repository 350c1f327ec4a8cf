use Rattle.std.proofs.Common.{sym}
use Rattle.std.specs.Option.{option_copied}
use Rattle.gx_plan.proofs.Outside.{denied}
use Rattle.gx_plan.proofs.targets.wanted_key.Goals as goal

pub returns-clause-denied : goal.returns-clause-denied
returns-clause-denied c = denied c.args.column c.args.cond.now (option_copied c.key.result) (sym c.key.ensures)
