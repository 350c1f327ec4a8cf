use Rattle.std.proofs.Common.{◌≡◌, ◌+◌, ◌≤◌, drop}
use Rattle.gx_store.specs.Points.{starts_in}
use Rattle.gx_legal.proofs.counts.start_count_of.Given as goal

abbrev pub invariant-loop-step : goal.invariant-loop-step
invariant-loop-step l = record {
  is : l.count + starts_in l.session (drop l.step-index l.steps) ≡ starts_in l.session l.steps;
  room : l.count ≤ l.step-index;
}
