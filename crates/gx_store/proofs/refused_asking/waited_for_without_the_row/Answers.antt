use Rattle.gx_store.proofs.RefusedAsking.{not-without-lock}
use Rattle.gx_store.proofs.refused_asking.waited_for_without_the_row.Goals as goal

pub returns : goal.returns
returns c = λ script rows image changed assigns cond tuples snapshot later. not-without-lock script rows image changed assigns cond tuples snapshot later
