use Rattle.gx_lex.proofs.Answered.{cut_ok, only_ok}
use Rattle.gx_lex.proofs.cut.cut_line.Goals as goal

pub returns-clause-cut : goal.returns-clause-cut
returns-clause-cut c = cut_ok c.args.line.now c.cut.new.tokens.items c.cut.result c.cut.ensures

pub returns-clause-only : goal.returns-clause-only
returns-clause-only c ts h = only_ok c.args.line.now c.cut.new.tokens.items ts c.cut.result h c.cut.ensures
