use Rattle.gx_store.proofs.RefusedCauses.{causes-unasked, causes-undecided}
use Rattle.gx_store.proofs.refused_causes.journals_fail_at_their_items.Goals as goal

pub returns-clause-unasked : goal.returns-clause-unasked
returns-clause-unasked c = λ script. causes-unasked script

pub returns-clause-undecided : goal.returns-clause-undecided
returns-clause-undecided c = λ script. causes-undecided script
