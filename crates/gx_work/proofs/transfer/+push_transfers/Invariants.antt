use Rattle.std.proofs.Common.{length}
use Rattle.gx_work.proofs.transfer.+push_transfers.Given as goal

abbrev pub decreases-push_transfers : goal.decreases-push_transfers
decreases-push_transfers l = length l.words.now
