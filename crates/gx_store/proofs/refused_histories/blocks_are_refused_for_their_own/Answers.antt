use Rattle.gx_store.proofs.RefusedHistories.{no-history-cancelled, no-history-journal}
use Rattle.gx_store.proofs.refused_histories.blocks_are_refused_for_their_own.Goals as goal

pub returns-clause-cancelled : goal.returns-clause-cancelled
returns-clause-cancelled c = λ script graph. no-history-cancelled script graph

pub returns-clause-journal : goal.returns-clause-journal
returns-clause-journal c = λ script query. no-history-journal script query
