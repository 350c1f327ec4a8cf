use Rattle.gx_slices.proofs.Shown.{AreRising-nil}
use Rattle.gx_slices.proofs.reading.rows_in.Goals as goal

pub returns-in-None-clause-rising : goal.returns-in-None-clause-rising
returns-in-None-clause-rising c = AreRising-nil c.new.result.items c.new.ensures.items
