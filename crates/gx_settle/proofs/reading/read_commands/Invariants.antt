use Rattle.std.proofs.Common.{◌≤◌, ◌+◌, length}
use Rattle.std.specs.Prelude.{All}
use Rattle.gx_settle.specs.Commands.{IsDrawn}
use Rattle.gx_settle.proofs.Behind.{IsReading}
use Rattle.gx_settle.proofs.reading.read_commands.Given as goal

abbrev pub invariant-loop-line : goal.invariant-loop-line
invariant-loop-line l = record {
  reading : IsReading l.bytes l.rest l.commands.items;
  drawn : All IsDrawn l.commands.items;
  room : length l.commands.items + length l.rest ≤ length l.bytes;
}

abbrev pub decreases-loop-line : goal.decreases-loop-line
decreases-loop-line l = length l.rest
