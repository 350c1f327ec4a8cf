use Rattle.gx_store.proofs.RefusedCommits.{protocol-nobody, protocol-unwritten}
use Rattle.gx_store.proofs.refused_commits.writers_promise.Goals as goal

pub returns-clause-nobody : goal.returns-clause-nobody
returns-clause-nobody c = λ script. protocol-nobody script

pub returns-clause-unwritten : goal.returns-clause-unwritten
returns-clause-unwritten c = λ script. protocol-unwritten script
