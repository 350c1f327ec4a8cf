use Rattle.gx_store.proofs.RefusedAsking.{not-for-a-reader, not-itself}
use Rattle.gx_store.proofs.refused_asking.asked_for_without_need.Goals as goal

pub returns-clause-reader : goal.returns-clause-reader
returns-clause-reader c = λ script assigns cond snapshot. not-for-a-reader script assigns cond snapshot

pub returns-clause-itself : goal.returns-clause-itself
returns-clause-itself c = λ script assigns cond snapshot. not-itself script assigns cond snapshot
