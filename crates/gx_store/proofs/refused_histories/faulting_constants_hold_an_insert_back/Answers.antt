use Rattle.gx_store.proofs.RefusedLate.{not-whole}
use Rattle.gx_store.proofs.refused_histories.faulting_constants_hold_an_insert_back.Goals as goal

pub returns : goal.returns
returns c = λ script table one other fault snapshot slice faults h. not-whole script table one other fault snapshot slice faults h
