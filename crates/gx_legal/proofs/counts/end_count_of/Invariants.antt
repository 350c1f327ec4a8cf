use Rattle.std.proofs.Common.{◌≡◌, ◌+◌, ◌≤◌, drop}
use Rattle.gx_store.specs.Points.{ends_in}
use Rattle.gx_legal.proofs.counts.end_count_of.Given as goal

abbrev pub invariant-loop-step : goal.invariant-loop-step
invariant-loop-step l = record {
  is : l.count + ends_in l.session (drop l.step-index l.steps) ≡ ends_in l.session l.steps;
  room : l.count ≤ l.step-index;
}
