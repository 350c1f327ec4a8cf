use Rattle.gx_grammar.specs.Grammar.{expr}
use Rattle.gx_grammar.specs.Machine.{expr_at}
use Rattle.gx_grammar.proofs.Complete.{Ends}
use Rattle.gx_grammar.proofs.ExprGood.{expr_good}
use Rattle.gx_grammar.proofs.Lines.{judged, only}
use Rattle.gx_grammar.proofs.whole.read_expr.Goals as goal

pub returns-clause-verdict : goal.returns-clause-verdict
returns-clause-verdict c = judged expr Ends expr_at expr_good tt c.args.limits c.args.tokens.now c.whole.result c.whole.ensures

pub returns-clause-only : goal.returns-clause-only
returns-clause-only c t h = only expr Ends expr_at expr_good tt c.args.limits c.args.tokens.now c.whole.result t h c.whole.ensures
