use Rattle.std.proofs.Common.{◌≡◌}
use Rattle.gx_agenda.specs.Quiet.{AreQuiet}
use Rattle.gx_drive.proofs.links.first_from.Given as goal

abbrev pub invariant-loop-number : goal.invariant-loop-number
invariant-loop-number l = AreQuiet l.world.script l.world.run.steps l.quiet × (l.quiet.from ≡ l.number)
