use Rattle.gx_store.proofs.RefusedHistories.{no-history-by-another, no-history-told-another, no-history-untold}
use Rattle.gx_store.proofs.refused_histories.faults_are_told.Goals as goal

pub returns-clause-untold : goal.returns-clause-untold
returns-clause-untold c = λ script table tuple query s t row. no-history-untold script table tuple query s t row

pub returns-clause-told_another : goal.returns-clause-told_another
returns-clause-told_another c = λ script table tuple query s t row. no-history-told-another script table tuple query s t row

pub returns-clause-by_another : goal.returns-clause-by_another
returns-clause-by_another c = λ script table tuple query s t row. no-history-by-another script table tuple query s t row
