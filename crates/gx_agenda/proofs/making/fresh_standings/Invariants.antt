use Rattle.std.proofs.Common.{take}
use Rattle.gx_agenda.specs.FreshQueue.{AreFresh}
use Rattle.gx_agenda.proofs.making.fresh_standings.Given as goal

abbrev pub invariant-loop-place : goal.invariant-loop-place
invariant-loop-place l = AreFresh (take l.place l.lines) l.sessions l.standings.items
