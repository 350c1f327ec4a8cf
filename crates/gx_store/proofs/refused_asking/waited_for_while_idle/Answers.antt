use Rattle.gx_store.proofs.RefusedAsking.{not-idle}
use Rattle.gx_store.proofs.refused_asking.waited_for_while_idle.Goals as goal

pub returns : goal.returns
returns c = λ script. not-idle script
