use Rattle.std.proofs.Common.{◌∙◌, ◌≡◌, List, subst}
use Rattle.std.specs.Prelude.{IfOk}
use Rattle.gx_waits.specs.declared.claim.Claim.{Claim}
use Rattle.gx_locks.specs.declared.key.Key.TheVariants.{Of}
use Rattle.gx_locks.proofs.Found.{of-filed}
use Rattle.gx_locks.proofs.book.Book.claims_of.Goals as goal

pub returns : goal.returns
returns c =
    subst (λ (all : List Claim). IfOk c.copy_claims.result (λ claims. claims.items ≡ all))
    (of-filed c.args.gxid c.args.self.now.ledger.holds c.at.result.now (c.at.ensures ∙ c.requires (Of c.args.gxid)))
    c.copy_claims.ensures
