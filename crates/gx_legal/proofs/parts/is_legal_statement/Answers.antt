use Rattle.gx_legal.proofs.parts.is_legal_statement.Goals as goal

pub returns-in-Snap : goal.returns-in-Snap
returns-in-Snap c = rw c.in-Snap.is c.is_legal_snap.ensures

pub returns-in-Answer : goal.returns-in-Answer
returns-in-Answer c = rw c.in-Answer.is c.is_legal_reply.ensures
