use Rattle.gx_sweep.proofs.Inserted.{rising_nothing}
use Rattle.gx_sweep.proofs.index.KeyIndex.find.Goals as goal

pub returns-clause-rising : goal.returns-clause-rising
returns-clause-rising c = rising_nothing c.new.result.items c.new.ensures.items
