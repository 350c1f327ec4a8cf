use Rattle.gx_store.proofs.RefusedCommits.{protocol-late, protocol-twice}
use Rattle.gx_store.proofs.refused_commits.decisions_come_once.Goals as goal

pub returns-clause-twice : goal.returns-clause-twice
returns-clause-twice c = λ script table one other s row more. protocol-twice script table one other s row more

pub returns-clause-late : goal.returns-clause-late
returns-clause-late c = λ script table one other s row more. protocol-late script table one other s row more
