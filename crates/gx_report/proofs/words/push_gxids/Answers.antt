use Rattle.std.proofs.Common.{rules}
use Rattle.gx_report.specs.Words.{gxid_text}
use Rattle.gx_report.proofs.Adding.{added-next}
use Rattle.gx_report.proofs.words.push_gxids.Goals as goal

pub loop-gxid-preserved : goal.loop-gxid-preserved
loop-gxid-preserved c =
    added-next gxid_text c.args.gxids.now c.loop-gxid.gxid-index _ _ _ _ c.loop-gxid-test.true (search rules) c.loop-gxid.invariant c.in_ok-push_number.ensures
