use Rattle.gx_legal.proofs.acting.may.Goals as goal

pub returns-in-Skip : goal.returns-in-Skip
returns-in-Skip c = rw c.in-Skip.is c.is_skip_of.ensures

pub returns-in-Fault : goal.returns-in-Fault
returns-in-Fault c = rw c.in-Fault.is c.may_fault.ensures

pub returns-in-LateWrite : goal.returns-in-LateWrite
returns-in-LateWrite c = rw c.in-LateWrite.is c.is_late_write_of.ensures
