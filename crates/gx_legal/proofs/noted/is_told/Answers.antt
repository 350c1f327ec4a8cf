use Rattle.gx_legal.proofs.noted.is_told.Goals as goal

pub returns-then-noted : goal.returns-then-noted
returns-then-noted c = rw c.if-noted.true c.is_word.ensures

pub returns-else-noted : goal.returns-else-noted
returns-else-noted c = rw c.if-noted.false c.is_said.ensures
