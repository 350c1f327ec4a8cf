use Rattle.gx_store.specs.Refusals.{the_coordinator}
use Rattle.gx_legal.proofs.Causes.{failed-told}
use Rattle.gx_legal.proofs.noted.hears_cause.Goals as goal

pub returns : goal.returns
returns c = let m = c.args.moment.now in failed-told c.args.gxid c.args.segment the_coordinator m.steps.now m.event c.delivers.result c.args.cid c.args.reason c.delivers.ensures
