use Rattle.gx_store.proofs.RefusedCauses.{causes-done, causes-failed, causes-faulted, causes-skipped}
use Rattle.gx_store.proofs.refused_causes.commands_are_received_first.Goals as goal

pub returns-clause-done : goal.returns-clause-done
returns-clause-done c = λ script table assigns cond s. causes-done script table assigns cond s

pub returns-clause-failed : goal.returns-clause-failed
returns-clause-failed c = λ script table assigns cond s cause. causes-failed script table assigns cond s cause

pub returns-clause-skipped : goal.returns-clause-skipped
returns-clause-skipped c = λ script table assigns cond s rid. causes-skipped script table assigns cond s rid

pub returns-clause-faulted : goal.returns-clause-faulted
returns-clause-faulted c = λ script table assigns cond s rid image. causes-faulted script table assigns cond s rid image
