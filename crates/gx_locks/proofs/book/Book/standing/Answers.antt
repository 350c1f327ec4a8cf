use Rattle.std.proofs.Common.{◌∙◌, ap, not}
use Rattle.gx_locks.specs.declared.key.Key.TheVariants.{On}
use Rattle.gx_locks.proofs.Found.{meets-filed, same-filed}
use Rattle.gx_locks.proofs.book.Book.standing.Goals as goal

pub returns-clause-free : goal.returns-clause-free
returns-clause-free c =
    ap not (c.is_any_met.ensures ∙ meets-filed c.args.claim.now c.args.self.now.ledger.holds c.on-holds.result.now (c.on-holds.ensures ∙ c.requires (On c.args.claim.now.object)))

pub returns-clause-held : goal.returns-clause-held
returns-clause-held c =
    c.is_any_same.ensures ∙ same-filed c.args.claim.now c.args.self.now.ledger.holds c.on-holds.result.now (c.on-holds.ensures ∙ c.requires (On c.args.claim.now.object))
