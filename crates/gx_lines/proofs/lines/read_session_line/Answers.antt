use Rattle.gx_grammar.proofs.Lines.{judged, placed, only}
use Rattle.gx_lines.specs.Heads.{session_line, session_at}
use Rattle.gx_lines.proofs.HeadGood.{Nothing, session_good}
use Rattle.gx_lines.proofs.lines.read_session_line.Goals as goal

pub returns-clause-verdict : goal.returns-clause-verdict
returns-clause-verdict c = judged session_line Nothing session_at session_good tt c.args.limits c.args.tokens.now c.whole_session.result c.whole_session.ensures.says

pub returns-clause-place : goal.returns-clause-place
returns-clause-place c = placed session_line Nothing session_at session_good tt c.args.limits c.args.tokens.now c.whole_session.result c.whole_session.ensures.says c.whole_session.ensures.left

pub returns-clause-only : goal.returns-clause-only
returns-clause-only c x h = only session_line Nothing session_at session_good tt c.args.limits c.args.tokens.now c.whole_session.result x h c.whole_session.ensures.says
