use Rattle.std.proofs.Common.{map}
use Rattle.gx_law_merge.proofs.Histories.{are-apart}
use Rattle.gx_law_merge.proofs.Merging.{merge-reached}
use Rattle.gx_merge.proofs.merging.merge.Goals as goal

pub merged-requires : goal.merged-requires
merged-requires c = are-apart c.args.script.now (map (λ h. h.steps) c.args.histories.now) c.requires.fit

pub returns-clause-reached : goal.returns-clause-reached
returns-clause-reached c = merge-reached c.args.script.now c.requires.segments (map (λ h. h.steps) c.args.histories.now) c.requires.fit c.in_ok-steps.steps c.in_ok-steps.ensures
