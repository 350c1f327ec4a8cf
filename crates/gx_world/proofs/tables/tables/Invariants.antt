use Rattle.std.proofs.Common.{◌≡◌, length}
use Rattle.gx_law_reads.specs.Sights.{AreRowsOfAll}
use Rattle.gx_law_runs.specs.Replays.{world_behind}
use Rattle.gx_world.proofs.tables.tables.Given as goal

abbrev pub invariant-loop-number : goal.invariant-loop-number
invariant-loop-number l = record {
  count : length l.tables.items ≡ l.number;
  are : AreRowsOfAll 0 (world_behind l.network.script.value l.network.run.steps) l.tables.items;
}
