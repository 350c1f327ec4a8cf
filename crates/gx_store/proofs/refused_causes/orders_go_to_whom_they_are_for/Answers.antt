use Rattle.gx_store.proofs.RefusedCauses.{causes-alone, causes-asked, causes-at-once, causes-early}
use Rattle.gx_store.proofs.refused_causes.orders_go_to_whom_they_are_for.Goals as goal

pub returns-clause-unwritten : goal.returns-clause-unwritten
returns-clause-unwritten c = λ script. causes-asked script

pub returns-clause-at_once : goal.returns-clause-at_once
returns-clause-at_once c = λ script table one other s row more. causes-at-once script table one other s row more

pub returns-clause-early : goal.returns-clause-early
returns-clause-early c = λ script table one other s row more. causes-early script table one other s row more

pub returns-clause-alone : goal.returns-clause-alone
returns-clause-alone c = λ script table tuple s row. causes-alone script table tuple s row
