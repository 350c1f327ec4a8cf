use Rattle.std.proofs.Common.{◌∙◌, ap}
use Rattle.gx_locks.specs.Locks.{Locks}
use Rattle.gx_waits.specs.Claims.{is_free}
use Rattle.gx_slices.specs.Stopping.{row_locks}
use Rattle.gx_slices.proofs.RowLocks.{taken-end}
use Rattle.gx_slices.proofs.changing_row.wait_at.Goals as goal

pub wait_for-requires-clause-taken : goal.wait_for-requires-clause-taken
wait_for-requires-clause-taken c =
    let locks = c.args.locks.now in
    ap (λ (l : Locks). is_free l.holds c.end_lock.result) c.in_ok-ask_for_row.ensures.locks
    ∙ ap (is_free (row_locks c.args.gxid c.args.rid locks).holds) c.end_lock.ensures
    ∙ taken-end c.args.gxid c.args.rid locks c.args.writer c.requires.awaited
