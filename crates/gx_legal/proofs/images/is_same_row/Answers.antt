use Rattle.std.proofs.Common.{rules}
use Rattle.std.proofs.lemmas.Slice.Eq.{slice_eq-Decides}
use Rattle.gx_legal.proofs.Equal.{decided-same, rows-decided}
use Rattle.gx_legal.proofs.images.is_same_row.Goals as goal

pub returns : goal.returns
returns c = decided-same c.eq.result _ _ (slice_eq-Decides (λ a b. search rules) _ _ c.eq.result c.eq.ensures) (rows-decided c.args.a.now c.args.b.now)
