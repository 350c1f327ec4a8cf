use Rattle.std.proofs.Common.{arith}
use Rattle.std.proofs.lemmas.Grind.{common_steps}
use Rattle.gx_agenda.proofs.Deliveries.{known_faults}
use Rattle.gx_agenda.proofs.faults.Faults.new.Goals as goal

pub returns : goal.returns
returns c = known_faults c.args.faults.now c.loop-fault.known (λ link number. grind (arith, common_steps, c.loop-fault.invariant.lost link number)) (λ link number. grind (arith, common_steps, c.loop-fault.invariant.repeated link number))
