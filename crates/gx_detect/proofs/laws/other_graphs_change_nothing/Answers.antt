use Rattle.gx_detect.proofs.Complete.{late_or_early, no_round, repeated}
use Rattle.gx_detect.proofs.laws.other_graphs_change_nothing.Goals as goal

pub returns-clause-no_round : goal.returns-clause-no_round
returns-clause-no_round c = no_round

pub returns-clause-late_or_early : goal.returns-clause-late_or_early
returns-clause-late_or_early c = late_or_early

pub returns-clause-repeated : goal.returns-clause-repeated
returns-clause-repeated c = repeated
