use Rattle.std.proofs.Common.{◌∙◌, sym, ap, not}
use Rattle.gx_locks.specs.declared.key.Key.TheVariants.{On}
use Rattle.gx_waits.specs.Claim.{same_claim}
use Rattle.gx_locks.specs.Holds.{claims_of}
use Rattle.gx_locks.specs.Index.{holds_at}
use Rattle.gx_locks.proofs.Filed.{claims-released, claims_of-filter, filter-unfound}
use Rattle.gx_locks.proofs.Found.{find-filed, filed-struck}
use Rattle.gx_locks.proofs.book.Book.release.Goals as goal

pub returns-in-Some-clause-filed : goal.returns-in-Some-clause-filed
returns-in-Some-clause-filed c =
    filed-struck c.in-Some.hold (holds_at c.args.self.now.index) (holds_at c.unfile.new.self) c.args.self.now.ledger.holds c.strike.new.self.holds c.requires.filed c.strike.ensures.holds c.unfile.ensures.there c.unfile.ensures.elsewhere

pub returns-in-Some-clause-claims : goal.returns-in-Some-clause-claims
returns-in-Some-clause-claims c =
    let among = find-filed c.args.claim.now c.args.self.now.ledger.holds c.on.result.now (c.on.ensures ∙ c.requires.filed (On c.args.claim.now.object)) in
    ap claims_of c.strike.ensures.holds ∙ claims-released c.args.claim.now c.args.self.now.ledger.holds c.in-Some.hold c.requires.once (sym among ∙ sym c.in-Some.ensures)

pub returns-in_default-clause-claims : goal.returns-in_default-clause-claims
returns-in_default-clause-claims c =
    let hs = c.args.self.now.ledger.holds in
    let among = find-filed c.args.claim.now hs c.on.result.now (c.on.ensures ∙ c.requires.filed (On c.args.claim.now.object)) in
    sym (sym (claims_of-filter (λ d. not (same_claim c.args.claim.now d)) hs) ∙ ap claims_of (filter-unfound (λ h. same_claim c.args.claim.now h.claim) hs (sym among ∙ sym c.in_default.ensures)))
