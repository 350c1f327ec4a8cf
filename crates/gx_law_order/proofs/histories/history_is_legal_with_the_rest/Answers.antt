use Rattle.gx_law_order.proofs.Legality.{legal-with-rest}
use Rattle.gx_law_order.proofs.histories.history_is_legal_with_the_rest.Goals as goal

pub returns : goal.returns
returns c = λ script events some rest. legal-with-rest script some events rest
