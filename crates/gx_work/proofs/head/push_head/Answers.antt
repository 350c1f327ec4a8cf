use Rattle.gx_work.proofs.Nexts.{headed}
use Rattle.gx_work.proofs.head.push_head.Goals as goal

pub returns : goal.returns
returns c = headed _ _ _ c.in_ok-push_bytes.ensures c.in_ok-push_load.ensures
