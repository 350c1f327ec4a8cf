use Rattle.gx_store.specs.Refusals.{the_coordinator}
use Rattle.gx_legal.proofs.Causes.{fault-told}
use Rattle.gx_legal.proofs.journals.is_told.Goals as goal

pub returns : goal.returns
returns c = fault-told c.args.gxid c.args.node the_coordinator c.args.moment.now.steps.now c.args.moment.now.event c.delivers.result c.delivers.ensures
