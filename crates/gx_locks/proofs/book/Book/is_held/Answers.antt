use Rattle.std.proofs.Common.{◌∙◌}
use Rattle.gx_locks.specs.declared.key.Key.TheVariants.{On}
use Rattle.gx_locks.proofs.Found.{same-filed}
use Rattle.gx_locks.proofs.book.Book.is_held.Goals as goal

pub returns : goal.returns
returns c =
    c.is_any_same.ensures ∙ same-filed c.args.claim.now c.args.self.now.ledger.holds c.on.result.now (c.on.ensures ∙ c.requires (On c.args.claim.now.object))
