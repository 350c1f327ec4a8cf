use Rattle.std.proofs.Common.{◌↔◌, [], drop, take}
use Rattle.gx_judging.specs.Standing.{AreLocks}
use Rattle.gx_judging.specs.Victims.{NameRightly}
use Rattle.gx_judging.proofs.victims.name_rightly.Given as goal

abbrev pub invariant-loop-number : goal.invariant-loop-number
invariant-loop-number l = record {
  locks : AreLocks (take l.number l.marks) l.locks;
  named : NameRightly l.script (take l.number l.marks) (drop l.number l.marks) ↔ NameRightly l.script [] l.marks;
}
