use Rattle.gx_judging.proofs.checking.meets.Goals as goal

pub returns-in-Rows : goal.returns-in-Rows
returns-in-Rows c = rw c.in-Rows.is c.are_legal.ensures

pub returns-in-Statements : goal.returns-in-Statements
returns-in-Statements c = rw c.in-Statements.is c.are_statements.ensures

pub returns-in-Refusals : goal.returns-in-Refusals
returns-in-Refusals c = rw c.in-Refusals.is c.are_legal-in-Refusals.ensures

pub returns-in-Order : goal.returns-in-Order
returns-in-Order c = rw c.in-Order.is c.are_in_order.ensures

pub returns-in-Victims : goal.returns-in-Victims
returns-in-Victims c = rw c.in-Victims.is c.do_name_rightly.ensures
