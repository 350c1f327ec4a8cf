use Rattle.std.proofs.Common.{Bool, false, cond, ap, ◌∙◌}
use Rattle.std.specs.BTreeSet.{contains}
use Rattle.gx_dsnap.specs.Gxids.{gxid_cmp}
use Rattle.gx_segment.proofs.Gxids.{is_at-gxid}
use Rattle.gx_segment.proofs.ordering.leave.Goals as goal

pub returns : goal.returns
returns c = λ g. c.remove.ensures.updates.0 g ∙ ap (λ (b : Bool). cond b false (contains gxid_cmp c.args.holders.now g)) (is_at-gxid c.args.gxid g)
