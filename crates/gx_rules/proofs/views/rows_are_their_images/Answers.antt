use Rattle.gx_rules.proofs.ShownRows.{rows-same}
use Rattle.gx_rules.proofs.views.rows_are_their_images.Goals as goal

pub returns : goal.returns
returns c = λ xs ys rx ry same. rows-same xs ys rx ry same
