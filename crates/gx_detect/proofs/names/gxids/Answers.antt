use Rattle.std.proofs.lemmas.List.{get_or_default}
use Rattle.gx_detect.proofs.CoreNames.{gxid_of}
use Rattle.gx_detect.proofs.Gathered.{mapped}
use Rattle.gx_detect.proofs.names.gxids.Goals as goal

pub loop-number-preserved : goal.loop-number-preserved
loop-number-preserved c =
    let l = c.loop-number in
    mapped gxid_of c.args.numbers.now l.number-index _ c.loop-number-test.true (get_or_default _ _ _ _ c.loop-number-test.true)
    l.gxids.items c.push.new.self.items l.invariant c.in_ok-push.ensures.items
