use Rattle.gx_locks.proofs.Edges.{are_edges}
use Rattle.gx_locks.proofs.laws.graph_has_the_edges.Goals as goal

pub returns : goal.returns
returns c = are_edges
