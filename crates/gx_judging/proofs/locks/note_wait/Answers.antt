use Rattle.gx_waits.specs.Claims.{with_claim, without_claim}
use Rattle.gx_judging.proofs.Waits.{at_node}
use Rattle.gx_judging.proofs.locks.note_wait.Goals as goal

pub returns-clause-waits : goal.returns-clause-waits
returns-clause-waits c = λ n. at_node _ _ c.args.node.0 n (with_claim c.args.claim) c.in_ok-add.ensures.here (c.in_ok-add.ensures.others n)
