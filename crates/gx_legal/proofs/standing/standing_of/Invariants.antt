use Rattle.std.proofs.Common.{◌≤◌, take}
use Rattle.gx_legal.specs.Standings.{IsMoved, commands_in}
use Rattle.gx_legal.proofs.standing.standing_of.Given as goal

abbrev pub invariant-loop-mark : goal.invariant-loop-mark
invariant-loop-mark l = record {
  is : IsMoved l.script l.session l.initial.standing (take l.mark-index l.marks) l.standing;
  answers : l.standing.answered ≤ l.mark-index;
  commands : commands_in l.standing.block ≤ l.mark-index;
}
