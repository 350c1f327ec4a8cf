use Rattle.std.proofs.Common.{refl}
use Rattle.gx_rules.specs.QueueRuns.{CancelsThroughQueue, WaitsBehindExclusive, WaitsBehindShare, behind_share_run}

pub waits_behind_exclusive : WaitsBehindExclusive
waits_behind_exclusive = record { story = refl; resumed = refl; first = refl; second = refl }

pub waits_behind_share : WaitsBehindShare behind_share_run
waits_behind_share = record { story = refl }

pub cancels_through_queue : CancelsThroughQueue
cancels_through_queue = record { decided = refl; answers = refl }
