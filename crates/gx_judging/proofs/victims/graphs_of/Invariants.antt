use Rattle.std.proofs.Common.{◌≡◌, ◌∷◌}
use Rattle.gx_judging.specs.Victims.{reports_of}
use Rattle.gx_judging.proofs.victims.graphs_of.Given as goal

abbrev pub invariant-loop-number : goal.invariant-loop-number
invariant-loop-number l = l.graphs.items ≡ l.own ∷ reports_of l.marks l.round l.number
