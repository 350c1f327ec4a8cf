use Rattle.gx_store.proofs.RefusedCommits.{protocol-written}
use Rattle.gx_store.proofs.refused_commits.promises_are_of_all_rows.Goals as goal

pub returns : goal.returns
returns c = λ script table one other s row more late. protocol-written script table one other s row more late
