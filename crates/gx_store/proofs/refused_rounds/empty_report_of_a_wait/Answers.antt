use Rattle.gx_store.proofs.NothingReported.{no-rounds}
use Rattle.gx_store.proofs.refused_rounds.empty_report_of_a_wait.Goals as goal

pub returns : goal.returns
returns c = λ script. no-rounds script
