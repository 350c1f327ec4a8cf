use Rattle.std.proofs.Common.{◌≡◌, ◌↔◌, [], drop, length, take}
use Rattle.gx_judging.specs.Parts.{AreLegalIn}
use Rattle.gx_store.specs.Points.{marks_in}
use Rattle.gx_legal.specs.Tallies.{IsTally}
use Rattle.gx_judging.proofs.parts.are_legal_in.Given as goal

abbrev pub invariant-loop-number : goal.invariant-loop-number
invariant-loop-number l = record {
  begins : l.start ≡ length (marks_in (take l.number l.steps));
  legal : AreLegalIn l.part l.script (take l.number l.steps) (drop l.number l.steps) ↔ AreLegalIn l.part l.script [] l.steps;
  told : IsTally l.script (take l.number l.steps) (marks_in (take l.number l.steps)) l.tally;
}
