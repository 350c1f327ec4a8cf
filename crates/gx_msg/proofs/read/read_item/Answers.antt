use Rattle.gx_msg.proofs.Laws.{verdict_said, only_said}
use Rattle.gx_msg.proofs.read.read_item.Goals as goal

pub returns-clause-verdict : goal.returns-clause-verdict
returns-clause-verdict c = verdict_said c.args.bytes.now c.read.result c.read.ensures

pub returns-clause-only : goal.returns-clause-only
returns-clause-only c i is w = only_said c.args.bytes.now i c.read.result c.read.ensures is w
