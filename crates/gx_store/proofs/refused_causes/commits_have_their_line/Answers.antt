use Rattle.gx_store.proofs.RefusedCauses.{causes-before-commit, causes-before-done, causes-half-sent}
use Rattle.gx_store.proofs.refused_causes.commits_have_their_line.Goals as goal

pub returns-clause-early : goal.returns-clause-early
returns-clause-early c = λ script table one other s row more. causes-before-commit script table one other s row more

pub returns-clause-undone : goal.returns-clause-undone
returns-clause-undone c = λ script table one other s row more. causes-before-done script table one other s row more

pub returns-clause-unsent : goal.returns-clause-unsent
returns-clause-unsent c = λ script table assigns s rid row. causes-half-sent script table assigns s rid row
