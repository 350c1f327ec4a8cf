use Rattle.gx_slices.proofs.Gxids.{at_other}
use Rattle.gx_slices.proofs.entries.put_entry.Goals as goal

pub returns-clause-others : goal.returns-clause-others
returns-clause-others c = λ h other. c.in_ok-insert.ensures.updates.2 h (at_other c.args.gxid h other)
