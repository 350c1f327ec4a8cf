use Rattle.gx_law_writes.proofs.Changes.{new-turns-true}
use Rattle.gx_law_writes.proofs.laws.turns_of_new_changes_are_true.Goals as goal

pub returns : goal.returns
returns c = λ script events some numbered. new-turns-true script some numbered events
