use Rattle.gx_store.proofs.Exclusive.{exclusive-at}
use Rattle.gx_store.proofs.refused_waits.locks_are_exclusive.Goals as goal

pub returns : goal.returns
returns c = exclusive-at
