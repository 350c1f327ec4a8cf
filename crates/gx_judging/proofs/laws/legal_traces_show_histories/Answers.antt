use Rattle.gx_judging.specs.Filled.{filled}
use Rattle.gx_judging.proofs.Wholes.{three-parts}
use Rattle.gx_judging.proofs.laws.legal_traces_show_histories.Goals as goal

pub returns-clause-history : goal.returns-clause-history
returns-clause-history c = λ script shown legal. (three-parts script (filled shown)).1 (legal.0, legal.1.statements, legal.2)

pub returns-clause-order : goal.returns-clause-order
returns-clause-order c = λ script shown legal. legal.3
