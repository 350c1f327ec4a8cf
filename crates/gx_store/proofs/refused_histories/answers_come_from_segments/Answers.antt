use Rattle.gx_store.proofs.RefusedHistories.{no-history-sent}
use Rattle.gx_store.proofs.refused_histories.answers_come_from_segments.Goals as goal

pub returns : goal.returns
returns c = λ script query snapshot. no-history-sent script query snapshot
