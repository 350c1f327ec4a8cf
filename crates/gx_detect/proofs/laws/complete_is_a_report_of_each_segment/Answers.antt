use Rattle.gx_detect.proofs.Complete.{complete_tells, is_complete_if}
use Rattle.gx_detect.proofs.laws.complete_is_a_report_of_each_segment.Goals as goal

pub returns : goal.returns
returns c = λ segments calls. (complete_tells segments calls, is_complete_if segments calls)
