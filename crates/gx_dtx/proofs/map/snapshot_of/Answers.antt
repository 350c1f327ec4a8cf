use Rattle.std.proofs.Common.{◌∙◌}
use Rattle.gx_dsnap.proofs.Below.{IsRising-below, All-below}
use Rattle.gx_dsnap.specs.Gxids.{gxid_cmp}
use Rattle.gx_dtx.specs.Table.{is_running}
use Rattle.gx_dtx.proofs.Rising.{IsStrictlySortedBy-keys_filter}
use Rattle.gx_dtx.proofs.map.snapshot_of.Goals as goal

pub invariant_of-result-clause-rising : goal.invariant_of-result-clause-rising
invariant_of-result-clause-rising c =
    IsRising-below _ _ _ (c.in_ok-running.ensures ∙ c.from_vec.ensures ∙ c.in_ok-below.ensures.whole) (IsStrictlySortedBy-keys_filter gxid_cmp (λ e. is_running e.1.phase) c.args.txns.now.entries c.running_below.ensures.ordered)

pub invariant_of-result-clause-below : goal.invariant_of-result-clause-below
invariant_of-result-clause-below c = All-below _ _ _ (c.in_ok-running.ensures ∙ c.from_vec.ensures ∙ c.in_ok-below.ensures.whole)
