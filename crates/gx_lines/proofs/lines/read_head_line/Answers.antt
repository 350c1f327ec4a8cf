use Rattle.gx_grammar.proofs.Lines.{judged, placed, only}
use Rattle.gx_lines.specs.Heads.{head_line, head_at}
use Rattle.gx_lines.proofs.HeadGood.{Nothing, head_good}
use Rattle.gx_lines.proofs.lines.read_head_line.Goals as goal

pub returns-clause-verdict : goal.returns-clause-verdict
returns-clause-verdict c = judged (head_line c.args.segments) Nothing (head_at c.args.segments) (head_good c.args.segments c.requires) tt c.args.limits c.args.tokens.now c.whole_head.result c.whole_head.ensures.says

pub returns-clause-place : goal.returns-clause-place
returns-clause-place c = placed (head_line c.args.segments) Nothing (head_at c.args.segments) (head_good c.args.segments c.requires) tt c.args.limits c.args.tokens.now c.whole_head.result c.whole_head.ensures.says c.whole_head.ensures.left

pub returns-clause-only : goal.returns-clause-only
returns-clause-only c x h = only (head_line c.args.segments) Nothing (head_at c.args.segments) (head_good c.args.segments c.requires) tt c.args.limits c.args.tokens.now c.whole_head.result x h c.whole_head.ensures.says
