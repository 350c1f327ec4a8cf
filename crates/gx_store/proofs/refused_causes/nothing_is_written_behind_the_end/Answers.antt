use Rattle.gx_store.proofs.RefusedCauses.{causes-behind-commit, causes-behind-decision}
use Rattle.gx_store.proofs.refused_causes.nothing_is_written_behind_the_end.Goals as goal

pub returns-clause-commit : goal.returns-clause-commit
returns-clause-commit c = λ script table tuple s row late. causes-behind-commit script table tuple s row late

pub returns-clause-decision : goal.returns-clause-decision
returns-clause-decision c = λ script table one other s row more late. causes-behind-decision script table one other s row more late
