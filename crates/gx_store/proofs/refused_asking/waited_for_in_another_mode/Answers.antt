use Rattle.gx_store.proofs.RefusedAsking.{not-more, not-more-here}
use Rattle.gx_store.proofs.refused_asking.waited_for_in_another_mode.Goals as goal

pub returns-clause-there : goal.returns-clause-there
returns-clause-there c = λ script query snapshot. not-more script query snapshot

pub returns-clause-here : goal.returns-clause-here
returns-clause-here c = λ script query. not-more-here script query
