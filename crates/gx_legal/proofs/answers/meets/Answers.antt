use Rattle.gx_legal.proofs.answers.meets.Goals as goal

pub returns-in-Done : goal.returns-in-Done
returns-in-Done c = rw c.in-Done.is c.has_succeeded.ensures
