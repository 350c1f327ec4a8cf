use Rattle.gx_store.proofs.RefusedAsking.{not-done}
use Rattle.gx_store.proofs.refused_asking.waited_for_behind_done.Goals as goal

pub returns : goal.returns
returns c = λ script query snapshot. not-done script query snapshot
