use Rattle.gx_slices.proofs.Gxids.{at_other}
use Rattle.gx_slices.proofs.entries.set_holder.Goals as goal

pub returns-in_ok-insert-clause-others : goal.returns-in_ok-insert-clause-others
returns-in_ok-insert-clause-others c = λ h other. c.in_ok-insert.ensures.updates.2 h (at_other c.args.gxid h other)

pub returns-else-holds-clause-others : goal.returns-else-holds-clause-others
returns-else-holds-clause-others c = λ h other. c.remove.ensures.updates.2 h (at_other c.args.gxid h other)
