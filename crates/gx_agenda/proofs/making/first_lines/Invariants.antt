use Rattle.std.proofs.Common.{take}
use Rattle.gx_agenda.specs.Queued.{AreFirst}
use Rattle.gx_agenda.proofs.making.first_lines.Given as goal

abbrev pub invariant-loop-place : goal.invariant-loop-place
invariant-loop-place l = AreFirst (take l.place l.lines) l.next
