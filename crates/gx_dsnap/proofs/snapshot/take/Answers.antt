use Rattle.std.proofs.Common.{◌∙◌}
use Rattle.gx_dsnap.proofs.Below.{IsRising-below, All-below}
use Rattle.gx_dsnap.proofs.snapshot.take.Goals as goal

pub invariant_of-result-clause-rising : goal.invariant_of-result-clause-rising
invariant_of-result-clause-rising c = IsRising-below _ _ _ (c.in_ok-running.ensures ∙ c.from_vec.ensures ∙ c.in_ok-below.ensures) c.requires.rising

pub invariant_of-result-clause-below : goal.invariant_of-result-clause-below
invariant_of-result-clause-below c = All-below _ _ _ (c.in_ok-running.ensures ∙ c.from_vec.ensures ∙ c.in_ok-below.ensures)
