use Rattle.gx_sweep.proofs.Inserted.{rising_one}
use Rattle.gx_sweep.proofs.rids.list.Goals as goal

pub returns-in_ok-list-in-One-clause-rising : goal.returns-in_ok-list-in-One-clause-rising
returns-in_ok-list-in-One-clause-rising c = rising_one c.in-One.rid c.in_ok-list-in-One.list.items c.in_ok-list-in-One.ensures
