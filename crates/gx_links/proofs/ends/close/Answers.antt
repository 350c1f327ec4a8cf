use Rattle.gx_links.proofs.Steps.{merges}
use Rattle.gx_links.proofs.ends.close.Goals as goal

pub absorb-requires-clause-rule : goal.absorb-requires-clause-rule
absorb-requires-clause-rule g c = merges _ _ _ _ c.out.invariant.1.role c.inward.invariant.1.role
