use Rattle.gx_sql.proofs.Feeds.{to_feed, to_end}
use Rattle.gx_sql.proofs.split.line_len.Goals as goal

pub returns-in-Some-clause-value : goal.returns-in-Some-clause-value
returns-in-Some-clause-value c = to_feed c.args.bytes.now c.in-Some.len c.in-Some.ensures

pub returns-in-None-clause-value : goal.returns-in-None-clause-value
returns-in-None-clause-value c = to_end c.args.bytes.now c.in-None.ensures
