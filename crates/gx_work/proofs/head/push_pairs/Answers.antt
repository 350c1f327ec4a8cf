use Rattle.std.proofs.Common.{rules}
use Rattle.gx_work.proofs.Nexts.{pairs-end, pairs-next, pairs-start}
use Rattle.gx_work.proofs.head.push_pairs.Goals as goal

pub loop-account-init : goal.loop-account-init
loop-account-init c = pairs-start _ _ _

pub loop-account-preserved : goal.loop-account-preserved
loop-account-preserved c = pairs-next c.loop-account.account c.args.accounts _ _ _ (search rules) (search rules) c.loop-account.invariant

pub returns : goal.returns
returns c = pairs-end _ _ _ _ (search rules) c.loop-account.invariant
