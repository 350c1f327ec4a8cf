use Rattle.std.proofs.Common.{ap, not}
use Rattle.gx_agenda.proofs.Adding.{added_there}
use Rattle.gx_agenda.proofs.faults.Faults.add.Goals as goal

pub returns-in_ok-insert-clause-repeated : goal.returns-in_ok-insert-clause-repeated
returns-in_ok-insert-clause-repeated c = λ link number. added_there _ _ c.faulty_link.result c.args.fault.number link number _ _ (c.in_ok-insert.ensures.updates.0 (record { link = link; number = number })) c.faulty_link.ensures c.if-fault.true

pub returns-in_ok-insert-2-clause-lost : goal.returns-in_ok-insert-2-clause-lost
returns-in_ok-insert-2-clause-lost c = λ link number. added_there _ _ c.faulty_link.result c.args.fault.number link number _ _ (c.in_ok-insert-2.ensures.updates.0 (record { link = link; number = number })) c.faulty_link.ensures (ap not c.if-fault.false)
