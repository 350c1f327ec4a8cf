use Rattle.std.proofs.Common.{◌∙◌, not}
use Rattle.gx_waits.specs.declared.claim.Claim.{Claim}
use Rattle.gx_waits.specs.Claim.{same_claim}
use Rattle.gx_locks.proofs.Whole.{IsWhole-fewer}
use Rattle.gx_locks.proofs.table.LockTable.release.Goals as goal

pub invariant_of-self : goal.invariant_of-self
invariant_of-self c =
    let one : Claim = record { gxid = c.args.gxid; object = c.args.object; mode = c.args.mode } in
    let e = c.release.ensures in
    IsWhole-fewer (λ other. not (same_claim one other)) c.self.inside.book c.release.new.self c.self.inside.waits.items c.self.invariant e.filed e.claims e.places.ledger (λ k. e.places.index k ∙ c.self.invariant.room k) e.tidy
