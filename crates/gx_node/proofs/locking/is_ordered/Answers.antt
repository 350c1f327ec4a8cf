use Rattle.gx_node.proofs.locking.is_ordered.Goals as goal

pub returns : goal.returns
returns g c = g.met.T.Ord.total
