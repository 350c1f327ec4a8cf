use Rattle.gx_store.proofs.RefusedHistories.{no-history-elsewhere, no-history-nothing}
use Rattle.gx_store.proofs.refused_histories.inserts_write_their_own_rows.Goals as goal

pub returns-clause-elsewhere : goal.returns-clause-elsewhere
returns-clause-elsewhere c = λ script table annas berts s row. no-history-elsewhere script table annas berts s row

pub returns-clause-nothing : goal.returns-clause-nothing
returns-clause-nothing c = λ script table tuple s. no-history-nothing script table tuple s
