use Rattle.gx_store.proofs.RefusedCommits.{protocol-early}
use Rattle.gx_store.proofs.refused_commits.commits_follow_the_decision.Goals as goal

pub returns : goal.returns
returns c = λ script table one other s row more. protocol-early script table one other s row more
