use Rattle.gx_legal.proofs.parts.is_legal_refusal.Goals as goal

pub returns-in-Fault : goal.returns-in-Fault
returns-in-Fault c = rw c.in-Fault.is c.is_legal_fault.ensures

pub returns-in-Answer : goal.returns-in-Answer
returns-in-Answer c = rw c.in-Answer.is c.is_answer_refused.ensures
