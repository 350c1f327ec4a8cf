use Rattle.gx_detect.specs.declared.place.Aim.TheVariants.{Core}
use Rattle.gx_detect.specs.Settled.{left_in}
use Rattle.gx_detect.specs.Tally.{count_at}
use Rattle.gx_detect.proofs.CoreNames.{named_tested}
use Rattle.gx_detect.proofs.Following.{done_backed}
use Rattle.gx_detect.proofs.reduced.Reduced.is_named.Goals as goal

pub returns : goal.returns
returns c =
    let self = c.args.self.now in
    named_tested (left_in self) (done_backed Core self.edges.items self.rest c.requires.counted c.requires.done) (count_at self.rest.tally) c.requires.counted.counts
    c.args.gxid c.waits.result c.waits.ensures
