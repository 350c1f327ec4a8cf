use Rattle.gx_legal.proofs.parts.is_legal_beside.Goals as goal

pub returns-in-Answer : goal.returns-in-Answer
returns-in-Answer c = rw c.in-Answer.is c.is_answer_beside.ensures
