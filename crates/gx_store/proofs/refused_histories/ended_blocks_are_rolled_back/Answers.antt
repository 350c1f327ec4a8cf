use Rattle.gx_store.proofs.RefusedLate.{no-history-open}
use Rattle.gx_store.proofs.refused_histories.ended_blocks_are_rolled_back.Goals as goal

pub returns : goal.returns
returns c = λ script. no-history-open script
