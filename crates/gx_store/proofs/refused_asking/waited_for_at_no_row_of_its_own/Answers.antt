use Rattle.gx_store.proofs.RefusedAsking.{not-for-the-ended, not-unselected}
use Rattle.gx_store.proofs.refused_asking.waited_for_at_no_row_of_its_own.Goals as goal

pub returns-clause-unselected : goal.returns-clause-unselected
returns-clause-unselected c = λ script rows image assigns cond tuples snapshot. not-unselected script rows image assigns cond tuples snapshot

pub returns-clause-ended : goal.returns-clause-ended
returns-clause-ended c = λ script rows image assigns cond tuples snapshot. not-for-the-ended script rows image assigns cond tuples snapshot
