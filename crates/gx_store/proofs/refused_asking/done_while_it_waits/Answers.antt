use Rattle.gx_store.proofs.RefusedAsking.{not-silent}
use Rattle.gx_store.proofs.refused_asking.done_while_it_waits.Goals as goal

pub returns : goal.returns
returns c = λ query snapshot. not-silent query snapshot
