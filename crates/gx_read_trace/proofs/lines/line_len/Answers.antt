use Rattle.gx_read_trace.proofs.Feeds.{to-end, to-feed}
use Rattle.gx_read_trace.proofs.lines.line_len.Goals as goal

pub returns-in-Some-clause-value : goal.returns-in-Some-clause-value
returns-in-Some-clause-value c = to-feed c.args.bytes.now c.in-Some.len c.in-Some.ensures

pub returns-in-None-clause-value : goal.returns-in-None-clause-value
returns-in-None-clause-value c = to-end c.args.bytes.now c.in-None.ensures
