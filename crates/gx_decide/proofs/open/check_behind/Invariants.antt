use Rattle.std.proofs.Common.{◌≡◌, ◌≢◌, ◌≤◌, ◌<◌, ◌*◌, ℕ}
use Rattle.gx_decide.specs.Disk.{ReachesTo}
use Rattle.gx_decide.specs.Log.{gate_at}
use Rattle.gx_decide.proofs.open.check_behind.Given as goal

abbrev pub invariant-loop-place : goal.invariant-loop-place
invariant-loop-place g l = record {
  none : (slot : ℕ) → l.end < slot → slot < l.place → gate_at (g.D.Disk.state l.fn.disk).seen slot ≢ 1;
  later : g.D.Disk.fault_count l.fn.disk ≤ g.D.Disk.fault_count l.disk;
  reach : ReachesTo (16 * l.slots) (g.D.Disk.reach l.fn.disk) (g.D.Disk.reach l.disk);
  state : g.D.Disk.state l.disk ≡ g.D.Disk.state l.fn.disk;
}
