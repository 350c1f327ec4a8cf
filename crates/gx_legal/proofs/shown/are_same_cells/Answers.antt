use Rattle.std.proofs.Common.{rules}
use Rattle.std.proofs.lemmas.Slice.Eq.{slice_eq-Decides}
use Rattle.gx_legal.proofs.Equal.{decided-same}
use Rattle.gx_legal.proofs.Answering.{cells-decided}
use Rattle.gx_legal.proofs.shown.are_same_cells.Goals as goal

pub returns : goal.returns
returns c = decided-same c.eq.result _ _ (slice_eq-Decides (λ a b. search rules) _ _ c.eq.result c.eq.ensures) (cells-decided c.args.cells.now c.args.others.now)
