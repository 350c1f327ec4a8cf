use Rattle.gx_legal.proofs.refusals.is_cause.Goals as goal

pub returns-in-Serialization : goal.returns-in-Serialization
returns-in-Serialization c = rw c.in-Serialization.is c.is_overtaken.ensures

pub returns-in-Overflow : goal.returns-in-Overflow
returns-in-Overflow c = rw c.in-Overflow.is c.has_faulted.ensures

pub returns-in-DivisionByZero : goal.returns-in-DivisionByZero
returns-in-DivisionByZero c = rw c.in-DivisionByZero.is c.has_faulted-in-DivisionByZero.ensures
