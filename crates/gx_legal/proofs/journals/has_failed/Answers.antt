use Rattle.gx_store.specs.declared.mark.Mark.TheVariants.{JournalFailed}
use Rattle.gx_legal.proofs.Causes.{stands-is}
use Rattle.gx_legal.proofs.journals.has_failed.Goals as goal

pub returns : goal.returns
returns c = stands-is c.args.marks.now (JournalFailed c.args.node c.args.gxid) c.is_failure_among-is.result c.is_failure_among-is.ensures
