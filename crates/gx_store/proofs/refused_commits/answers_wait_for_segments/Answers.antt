use Rattle.gx_store.proofs.RefusedCommits.{protocol-at-once}
use Rattle.gx_store.proofs.refused_commits.answers_wait_for_segments.Goals as goal

pub returns : goal.returns
returns c = λ script query snapshot. protocol-at-once script query snapshot
