use Rattle.gx_waits.specs.Claims.{with_claim, without_claim}
use Rattle.gx_judging.proofs.Waits.{at_node}
use Rattle.gx_judging.proofs.locks.note_release.Goals as goal

pub returns-clause-holds : goal.returns-clause-holds
returns-clause-holds c = λ n. at_node _ _ c.args.node.0 n (without_claim c.args.claim) c.in_ok-take_out.ensures.here (c.in_ok-take_out.ensures.others n)

pub returns-clause-waits : goal.returns-clause-waits
returns-clause-waits c = λ n. at_node _ _ c.args.node.0 n (without_claim c.args.claim) c.in_ok-take_out-2.ensures.here (c.in_ok-take_out-2.ensures.others n)
