use Rattle.std.proofs.Common.{rules}
use Rattle.gx_settle.proofs.Cut.{first-cut, last-cut}
use Rattle.gx_settle.proofs.reading.first_line.Goals as goal

pub returns-in-None-clause-cases : goal.returns-in-None-clause-cases
returns-in-None-clause-cases c = last-cut c.args.bytes.now c.split_at.result.0.now c.split_at.result.1.now c.line_len.result c.line_len.ensures.value c.split_at.ensures.front c.split_at.ensures.back c.in-None.ensures.cases (search rules)

pub returns-in-Some-clause-cases : goal.returns-in-Some-clause-cases
returns-in-Some-clause-cases c = first-cut c.args.bytes.now c.split_at.result.0.now c.split_at.result.1.now c.line_len.result c.line_len.ensures.value c.split_at.ensures.front c.split_at.ensures.back c.in-Some._feed.now c.in-Some.rest.now c.in-Some.ensures.cases.0
