use Rattle.gx_judging.proofs.parts.is_legal_in.Goals as goal

pub returns-in-Rows : goal.returns-in-Rows
returns-in-Rows c = rw c.in-Rows.is c.is_legal_row.ensures

pub returns-in-Statements : goal.returns-in-Statements
returns-in-Statements c = rw c.in-Statements.is c.is_statement.ensures

pub returns-in-Refusals : goal.returns-in-Refusals
returns-in-Refusals c = rw c.in-Refusals.is c.is_refusal.ensures
