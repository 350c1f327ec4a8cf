use Rattle.gx_store.proofs.RefusedCauses.{causes-aborted, causes-forgotten}
use Rattle.gx_store.proofs.refused_causes.ends_are_told_in_answer.Goals as goal

pub returns-clause-aborted : goal.returns-clause-aborted
returns-clause-aborted c = λ script. causes-aborted script

pub returns-clause-forgotten : goal.returns-clause-forgotten
returns-clause-forgotten c = λ script. causes-forgotten script
