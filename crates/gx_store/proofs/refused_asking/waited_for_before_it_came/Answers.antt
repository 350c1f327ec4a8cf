use Rattle.gx_store.proofs.RefusedAsking.{not-elsewhere}
use Rattle.gx_store.proofs.refused_asking.waited_for_before_it_came.Goals as goal

pub returns : goal.returns
returns c = λ script query snapshot. not-elsewhere script query snapshot
