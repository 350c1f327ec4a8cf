use Rattle.std.proofs.Common.{◌∙◌, ap, sym, not, ◌&&◌}
use Rattle.gx_locks.specs.declared.key.Key.TheVariants.{On}
use Rattle.gx_waits.specs.Claim.{is_ahead}
use Rattle.gx_locks.specs.Book.{claims_in}
use Rattle.gx_locks.proofs.Found.{own-filed}
use Rattle.gx_locks.proofs.book.Book.holds_up.Goals as goal

pub returns-then-is_met : goal.returns-then-is_met
returns-then-is_met c =
    ap not (c.is_any_own.ensures ∙ own-filed c.args.wait.now c.args.self.now.ledger.holds c.on.result.now (c.on.ensures ∙ c.requires (On c.args.wait.now.object)) c.args.claim.now.gxid)
    ∙ ap (λ b. b && is_ahead (claims_in c.args.self.now) c.args.claim.now c.args.wait.now) (sym c.if-is_met.true ∙ c.is_met.ensures)
