use Rattle.gx_store.proofs.RefusedLate.{no-history-faulted-late, no-history-sent-first}
use Rattle.gx_store.proofs.refused_histories.constants_fault_before_anything_is_sent.Goals as goal

pub returns-clause-sent : goal.returns-clause-sent
returns-clause-sent c = λ script table tuple snapshot slice. no-history-sent-first script table tuple snapshot slice

pub returns-clause-late : goal.returns-clause-late
returns-clause-late c = λ script table tuple graph snapshot slice. no-history-faulted-late script table tuple graph snapshot slice
