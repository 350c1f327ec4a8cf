use Rattle.gx_law_runs.proofs.StoredKinds.{world-stored}
use Rattle.gx_law_runs.proofs.stored.stored_rows_have_their_kinds.Goals as goal

pub returns : goal.returns
returns c = λ script events some. world-stored script events some
