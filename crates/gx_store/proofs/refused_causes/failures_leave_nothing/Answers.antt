use Rattle.gx_store.proofs.RefusedCauses.{causes-committed, causes-decided}
use Rattle.gx_store.proofs.refused_causes.failures_leave_nothing.Goals as goal

pub returns-clause-decided : goal.returns-clause-decided
returns-clause-decided c = λ script table one other s row more. causes-decided script table one other s row more

pub returns-clause-committed : goal.returns-clause-committed
returns-clause-committed c = λ script table tuple s row. causes-committed script table tuple s row
