use Rattle.std.proofs.Common.{◌∙◌, ap, sym}
use Rattle.std.specs.Ordering.{is_gt}
use Rattle.gx_locks.specs.Holds.{claims_of}
use Rattle.gx_node.proofs.Claims.{two_kept, two_turned}
use Rattle.gx_node.proofs.locking.sort_two.Goals as goal

pub returns-then-is_gt : goal.returns-then-is_gt
returns-then-is_gt c =
    ap claims_of c.new.ensures ∙ two_turned c.args.pair.now c.parts.result.0 c.parts.result.1 c.parts.ensures (sym (c.is_gt.ensures ∙ ap is_gt c.compare_claims.ensures) ∙ c.if-is_gt.true)

pub returns-else-is_gt : goal.returns-else-is_gt
returns-else-is_gt c =
    two_kept c.args.pair.now c.parts.result.0 c.parts.result.1 c.parts.ensures (sym (c.is_gt.ensures ∙ ap is_gt c.compare_claims.ensures) ∙ c.if-is_gt.false)
