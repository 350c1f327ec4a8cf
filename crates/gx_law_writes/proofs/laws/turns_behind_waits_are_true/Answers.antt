use Rattle.gx_law_writes.proofs.Changes.{later-turns-true}
use Rattle.gx_law_writes.proofs.laws.turns_behind_waits_are_true.Goals as goal

pub returns : goal.returns
returns c = λ script events some numbered. later-turns-true script some numbered events
