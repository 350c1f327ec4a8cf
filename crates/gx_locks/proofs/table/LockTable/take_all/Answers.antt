use Rattle.std.proofs.Common.{◌∙◌, ap}
use Rattle.gx_locks.specs.Locks.{Locks}
use Rattle.gx_locks.proofs.Whole.{IsWhole-emptied}
use Rattle.gx_locks.proofs.table.LockTable.take_all.Goals as goal

pub invariant_of-self : goal.invariant_of-self
invariant_of-self c =
    let e = c.release_all.ensures in
    IsWhole-emptied c.args.gxid c.self.inside.book c.release_all.new.self c.self.inside.waits.items c.args.self.now.waits c.self.invariant (ap (λ (locks : Locks). locks.waits) (c.self.view_is ∙ c.drop_wait.ensures)) e.filed e.claims e.places e.none e.room e.tidy
