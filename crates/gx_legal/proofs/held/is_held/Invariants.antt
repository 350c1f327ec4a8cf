use Rattle.std.proofs.Common.{◌≡◌, false, take}
use Rattle.gx_legal.specs.Told.{held_from}
use Rattle.gx_legal.proofs.held.is_held.Given as goal

abbrev pub invariant-loop-place : goal.invariant-loop-place
invariant-loop-place l = held_from l.node l.wanted false (take l.place l.marks) ≡ held_from l.node l.wanted false l.marks
