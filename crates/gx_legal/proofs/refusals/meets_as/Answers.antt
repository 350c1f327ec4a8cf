use Rattle.gx_legal.proofs.refusals.meets_as.Goals as goal

pub returns-in-Refused : goal.returns-in-Refused
returns-in-Refused c = rw c.in-Refused.is c.is_refused_for.ensures
