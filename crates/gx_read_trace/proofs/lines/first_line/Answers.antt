use Rattle.gx_read_trace.proofs.Feeds.{first, no-first}
use Rattle.gx_read_trace.proofs.lines.first_line.Goals as goal

pub returns-in-Some : goal.returns-in-Some
returns-in-Some c =
    first c.args.bytes.now c.split_at.result.0.now c.split_at.result.1.now c.line_len.result c.line_len.ensures.value c.split_at.ensures.front c.split_at.ensures.back c.split_at.ensures.front_len
    c.in-Some._feed.now c.in-Some.rest.now c.in-Some.ensures.cases.0

pub returns-in-None : goal.returns-in-None
returns-in-None c =
    no-first c.args.bytes.now c.split_at.result.0.now c.split_at.result.1.now c.line_len.result c.line_len.ensures.value c.split_at.ensures.front c.split_at.ensures.back c.split_at.ensures.front_len
    c.in-None.ensures.cases
