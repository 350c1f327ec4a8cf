use Rattle.std.proofs.Common.{◌∙◌, ap, List}
use Rattle.std.specs.List.{list_any}
use Rattle.gx_waits.specs.Claim.{same_claim}
use Rattle.gx_waits.specs.declared.claim.Claim.{Claim}
use Rattle.gx_node.proofs.Looking.{same_claim-of}
use Rattle.gx_node.proofs.locking.is_held.Goals as goal

pub returns : goal.returns
returns c =
    c.is_among.ensures
    ∙ ap (λ (claims : List Claim). list_any (same_claim c.args.claim.now) claims) (c.as_slice.ensures.value ∙ c.in_ok-holds.ensures)
    ∙ same_claim-of c.args.claim.now c.args.locks.now.holds
