use Rattle.gx_store.proofs.RefusedLate.{no-history-imageless, no-history-misplaced, no-history-other-table}
use Rattle.gx_store.proofs.refused_histories.late_writes_are_at_their_place.Goals as goal

pub returns-clause-place : goal.returns-clause-place
returns-clause-place c = λ script table tuple graph snapshot slice row. no-history-misplaced script table tuple graph snapshot slice row

pub returns-clause-image : goal.returns-clause-image
returns-clause-image c = λ script table tuple graph snapshot slice. no-history-imageless script table tuple graph snapshot slice

pub returns-clause-table : goal.returns-clause-table
returns-clause-table c = λ script tuple assigns cond graph s t old new. no-history-other-table script tuple assigns cond graph s t old new
