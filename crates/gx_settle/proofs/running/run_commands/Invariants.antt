use Rattle.std.proofs.Common.{◌≡◌, ◌*◌, ◌≤◌, drop}
use Rattle.gx_decide.specs.Disk.{ReachesTo}
use Rattle.gx_decide.specs.Kept.{Knows}
use Rattle.gx_decide.specs.Log.{slots_of}
use Rattle.gx_settle.proofs.Runs.{IsUnderWay}
use Rattle.gx_settle.proofs.running.run_commands.Given as goal

abbrev pub invariant-loop-command : goal.invariant-loop-command
invariant-loop-command g l = record {
  known : Knows l.decider (g.D.Disk.state l.disk);
  way : IsUnderWay l.commands (drop l.command-index l.commands) (g.D.Disk.state l.fn.disk) (g.D.Disk.state l.disk) l.text.items;
  later : g.D.Disk.fault_count l.fn.disk ≤ g.D.Disk.fault_count l.disk;
  size : (g.D.Disk.state l.disk).size ≡ (g.D.Disk.state l.fn.disk).size;
  reach : ReachesTo (16 * slots_of (g.D.Disk.state l.fn.disk).size) (g.D.Disk.reach l.fn.disk) (g.D.Disk.reach l.disk);
}
