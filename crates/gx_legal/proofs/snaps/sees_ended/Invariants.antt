use Rattle.std.proofs.Common.{◌≡◌, ◌<◌, ◌≤◌, true}
use Rattle.gx_dsnap.specs.Snapshot.{sees}
use Rattle.gx_ids.specs.declared.ids.Gxid.{Gxid}
use Rattle.gx_store.specs.Marks.{is_ended}
use Rattle.gx_legal.proofs.snaps.sees_ended.Given as goal

abbrev pub invariant-loop-number : goal.invariant-loop-number
invariant-loop-number l = (h : Gxid) → 1 ≤ h.0 → h.0 < l.number → sees l.snapshot h ≡ true → is_ended l.moment.before.now h ≡ true
