use Rattle.std.proofs.Common.{◌≡◌, ◌∙◌, sym, subst, true}
use Rattle.gx_waits.specs.declared.claim.Claim.{Claim}
use Rattle.gx_waits.specs.Claims.{is_free}
use Rattle.gx_locks.specs.Book.{claims_in}
use Rattle.gx_locks.specs.Locks.{Locks}
use Rattle.gx_locks.proofs.Whole.{IsWhole-added}
use Rattle.gx_locks.proofs.table.LockTable.take.Goals as goal

pub invariant_of-self : goal.invariant_of-self
invariant_of-self c =
    let claim : Claim = record { gxid = c.args.gxid; object = c.args.object; mode = c.args.mode } in
    let free : is_free (claims_in c.self.inside.book) claim ≡ true = subst (λ (locks : Locks). is_free locks.holds claim ≡ true) (sym c.self.view_is) c.requires in
    let e = c.in_ok-add.ensures in
    IsWhole-added c.self.inside.book c.add.new.self c.self.inside.waits.items claim c.self.invariant free (sym c.is_held.ensures ∙ c.if-not-is_held.true) e.filed e.ok e.places e.tidy
