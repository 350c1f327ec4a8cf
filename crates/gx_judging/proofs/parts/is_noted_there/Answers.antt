use Rattle.gx_judging.proofs.parts.is_noted_there.Goals as goal

pub returns-in-Answer : goal.returns-in-Answer
returns-in-Answer c = rw c.in-Answer.is c.has_cause_for.ensures
