use Rattle.gx_grammar.proofs.Good.{Always}
use Rattle.gx_grammar.proofs.Lines.{judged, placed, only}
use Rattle.gx_lines.specs.Heads.{segments, segments_at}
use Rattle.gx_lines.proofs.HeadGood.{segments_good}
use Rattle.gx_lines.proofs.lines.read_segments_line.Goals as goal

pub returns-clause-verdict : goal.returns-clause-verdict
returns-clause-verdict c = judged segments Always segments_at segments_good tt c.args.limits c.args.tokens.now c.whole_segments.result c.whole_segments.ensures.says

pub returns-clause-place : goal.returns-clause-place
returns-clause-place c = placed segments Always segments_at segments_good tt c.args.limits c.args.tokens.now c.whole_segments.result c.whole_segments.ensures.says c.whole_segments.ensures.left

pub returns-clause-only : goal.returns-clause-only
returns-clause-only c x h = only segments Always segments_at segments_good tt c.args.limits c.args.tokens.now c.whole_segments.result x h c.whole_segments.ensures.says
