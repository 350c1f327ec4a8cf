use Rattle.gx_store.proofs.RefusedAsking.{not-weak}
use Rattle.gx_store.proofs.refused_asking.granted_in_too_weak_a_mode.Goals as goal

pub returns : goal.returns
returns c = λ script assigns cond snapshot. not-weak script assigns cond snapshot
