use Rattle.gx_store.specs.Legal.{IsCancelled}
use Rattle.gx_legal.proofs.Oks.{all-is}
use Rattle.gx_legal.specs.Moments.{point_of}
use Rattle.gx_legal.proofs.verdicts.are_cancelled.Goals as goal

pub returns : goal.returns
returns c = all-is (IsCancelled (point_of c.args.moment.now) c.args.round) c.args.victims.now c.each_is_cancelled-are.result c.each_is_cancelled-are.ensures
