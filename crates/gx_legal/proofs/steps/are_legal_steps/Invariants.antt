use Rattle.std.proofs.Common.{◌≡◌, ◌↔◌, [], drop, length, take}
use Rattle.gx_store.specs.Legal.{AreLegalSteps}
use Rattle.gx_store.specs.Points.{marks_in}
use Rattle.gx_legal.specs.Tallies.{IsTally}
use Rattle.gx_legal.proofs.steps.are_legal_steps.Given as goal

abbrev pub invariant-loop-number : goal.invariant-loop-number
invariant-loop-number l = record {
  begins : l.start ≡ length (marks_in (take l.number l.steps));
  legal : AreLegalSteps l.script (take l.number l.steps) (drop l.number l.steps) ↔ AreLegalSteps l.script [] l.steps;
  told : IsTally l.script (take l.number l.steps) (marks_in (take l.number l.steps)) l.tally;
}
