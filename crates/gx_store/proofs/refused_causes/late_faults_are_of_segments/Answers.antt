use Rattle.gx_store.proofs.RefusedCauses.{causes-faulted-late}
use Rattle.gx_store.proofs.refused_causes.late_faults_are_of_segments.Goals as goal

pub returns : goal.returns
returns c = λ script table assigns cond s rid row. causes-faulted-late script table assigns cond s rid row
