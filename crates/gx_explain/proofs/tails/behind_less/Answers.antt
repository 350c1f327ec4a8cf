use Rattle.gx_explain.proofs.Bytes.{less-alone, less-other, less-equal, less-greater}
use Rattle.gx_explain.proofs.tails.behind_less.Goals as goal

pub returns-in-None-clause-value : goal.returns-in-None-clause-value
returns-in-None-clause-value c = less-alone c.args.behind.now c.in-None.ensures.cases

pub returns-then-next-eq61-clause-value : goal.returns-then-next-eq61-clause-value
returns-then-next-eq61-clause-value c = less-equal c.args.behind.now c.in-Some.rest.now c.in-Some.next.now c.in-Some.ensures.cases.0 c.if-next-eq61.true

pub returns-then-next-eq62-clause-value : goal.returns-then-next-eq62-clause-value
returns-then-next-eq62-clause-value c = less-greater c.args.behind.now c.in-Some.rest.now c.in-Some.next.now c.in-Some.ensures.cases.0 c.if-next-eq62.true

pub returns-else-next-eq62-clause-value : goal.returns-else-next-eq62-clause-value
returns-else-next-eq62-clause-value c = less-other c.args.behind.now c.in-Some.rest.now c.in-Some.next.now c.in-Some.ensures.cases.0 c.if-next-eq61.false c.if-next-eq62.false
