use Rattle.std.proofs.Common.{◌≡◌}
use Rattle.std.specs.Prelude.{map}
use Rattle.gx_meaning.specs.Plan.{piece, nodes_from}
use Rattle.gx_plan.proofs.sending.copies.Given as goal

abbrev pub invariant-loop-number : goal.invariant-loop-number
invariant-loop-number l = l.found.items ≡ map (piece l.slice) (nodes_from 1 l.number)
