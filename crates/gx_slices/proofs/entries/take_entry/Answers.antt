use Rattle.gx_slices.proofs.Gxids.{at_other}
use Rattle.gx_slices.proofs.entries.take_entry.Goals as goal

pub returns-in-Some-clause-others : goal.returns-in-Some-clause-others
returns-in-Some-clause-others c = λ h other. c.remove.ensures.updates.2 h (at_other c.args.gxid h other)
