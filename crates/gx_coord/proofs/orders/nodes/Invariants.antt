use Rattle.std.proofs.Common.{◌≡◌, take}
use Rattle.gx_rules.specs.AtCoordinator.{nodes_in}
use Rattle.gx_coord.proofs.orders.nodes.Given as goal

abbrev pub invariant-loop-piece : goal.invariant-loop-piece
invariant-loop-piece l = l.nodes.items ≡ nodes_in (take l.piece-index l.pieces)
