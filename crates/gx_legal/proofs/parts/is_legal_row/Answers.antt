use Rattle.gx_legal.proofs.parts.is_legal_row.Goals as goal

pub returns-in-Write : goal.returns-in-Write
returns-in-Write c = rw c.in-Write.is c.is_legal_write.ensures

pub returns-in-Skip : goal.returns-in-Skip
returns-in-Skip c = rw c.in-Skip.is c.is_legal_skip.ensures
