use Rattle.std.proofs.Common.{◌∙◌, ap, not}
use Rattle.gx_locks.specs.declared.key.Key.TheVariants.{On}
use Rattle.gx_locks.proofs.Found.{meets-filed}
use Rattle.gx_locks.proofs.book.Book.is_free.Goals as goal

pub returns : goal.returns
returns c =
    ap not (c.is_any_met.ensures ∙ meets-filed c.args.claim.now c.args.self.now.ledger.holds c.on.result.now (c.on.ensures ∙ c.requires (On c.args.claim.now.object)))
