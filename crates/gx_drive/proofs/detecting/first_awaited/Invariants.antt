use Rattle.gx_agenda.specs.Awaited.{AreNoGraphsBefore}
use Rattle.gx_drive.proofs.detecting.first_awaited.Given as goal

abbrev pub invariant-loop-number : goal.invariant-loop-number
invariant-loop-number l = AreNoGraphsBefore l.world.script l.world.run.steps l.number
