use Rattle.std.proofs.Common.{◌≡◌}
use Rattle.gx_legal.specs.Told.{is_held_below}
use Rattle.gx_legal.proofs.held.is_held_below.Given as goal

abbrev pub invariant-loop-node : goal.invariant-loop-node
invariant-loop-node l = l.held ≡ is_held_below l.marks l.wanted l.node
