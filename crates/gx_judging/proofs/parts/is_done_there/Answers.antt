use Rattle.gx_judging.proofs.parts.is_done_there.Goals as goal

pub returns-in-Answer : goal.returns-in-Answer
returns-in-Answer c = rw c.in-Answer.is c.has_returned_for.ensures
