use Rattle.std.proofs.Common.{◌≡◌, ◌≤◌, ◌<◌, ◌*◌, ℕ}
use Rattle.std.specs.Ordering.{nat_cmp}
use Rattle.std.specs.BTreeMap.{get}
use Rattle.gx_decide.specs.Disk.{ReachesTo}
use Rattle.gx_decide.specs.Log.{IsSound, gate_at, pairs_before, verdict_in}
use Rattle.gx_decide.proofs.open.read_front.Given as goal

abbrev pub invariant-loop-end : goal.invariant-loop-end
invariant-loop-end g l = record {
  gates : (slot : ℕ) → slot < l.end → gate_at (g.D.Disk.state l.fn.disk).seen slot ≡ 1;
  sound : (slot : ℕ) → slot < l.end → IsSound (g.D.Disk.state l.fn.disk).seen slot;
  verdicts : (gxid : ℕ) → get nat_cmp l.verdicts gxid ≡ verdict_in (pairs_before (g.D.Disk.state l.fn.disk).seen l.end) gxid;
  later : g.D.Disk.fault_count l.fn.disk ≤ g.D.Disk.fault_count l.disk;
  reach : ReachesTo (16 * l.slots) (g.D.Disk.reach l.fn.disk) (g.D.Disk.reach l.disk);
  state : g.D.Disk.state l.disk ≡ g.D.Disk.state l.fn.disk;
}
