use Rattle.gx_explain.proofs.Bytes.{greater-alone, greater-other, greater-equal}
use Rattle.gx_explain.proofs.tails.behind_greater.Goals as goal

pub returns-in-None-clause-value : goal.returns-in-None-clause-value
returns-in-None-clause-value c = greater-alone c.args.behind.now c.in-None.ensures.cases

pub returns-then-next-eq61-clause-value : goal.returns-then-next-eq61-clause-value
returns-then-next-eq61-clause-value c = greater-equal c.args.behind.now c.in-Some.rest.now c.in-Some.next.now c.in-Some.ensures.cases.0 c.if-next-eq61.true

pub returns-else-next-eq61-clause-value : goal.returns-else-next-eq61-clause-value
returns-else-next-eq61-clause-value c = greater-other c.args.behind.now c.in-Some.rest.now c.in-Some.next.now c.in-Some.ensures.cases.0 c.if-next-eq61.false
