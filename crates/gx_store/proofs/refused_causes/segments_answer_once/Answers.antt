use Rattle.gx_store.proofs.RefusedCauses.{causes-done-and-failed, causes-failed-twice}
use Rattle.gx_store.proofs.refused_causes.segments_answer_once.Goals as goal

pub returns-clause-done : goal.returns-clause-done
returns-clause-done c = λ script table assigns cond snapshot wrote count part cause. causes-done-and-failed script table assigns cond snapshot wrote count part cause

pub returns-clause-failed : goal.returns-clause-failed
returns-clause-failed c = λ script table assigns cond snapshot cause another apart. causes-failed-twice script table assigns cond snapshot cause another apart
