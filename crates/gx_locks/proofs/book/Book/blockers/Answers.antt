use Rattle.std.specs.Prelude.{IfOk}
use Rattle.std.proofs.Common.{List, subst}
use Rattle.gx_ids.specs.declared.ids.Gxid.{Gxid}
use Rattle.gx_locks.specs.declared.key.Key.TheVariants.{On}
use Rattle.std.proofs.Common.{◌≡◌, ◌∙◌}
use Rattle.gx_locks.proofs.Found.{blockers-filed}
use Rattle.gx_locks.proofs.book.Book.blockers.Goals as goal

pub returns : goal.returns
returns c =
    subst
    (λ (all : List Gxid). IfOk c.all_blockers.result (λ gxids. gxids.items ≡ all))
    (blockers-filed c.args.claim.now c.args.self.now.ledger.holds c.on.result.now (c.on.ensures ∙ c.requires (On c.args.claim.now.object)))
    c.all_blockers.ensures
