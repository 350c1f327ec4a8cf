use Rattle.gx_links.proofs.Steps.{looks, pops}
use Rattle.gx_links.proofs.look.take_first.Goals as goal

pub pop_as-requires-clause-rule : goal.pop_as-requires-clause-rule
pop_as-requires-clause-rule g c = (pops _ _ c.requires.role.role, looks _ _ c.requires.role.role)
