use Rattle.std.proofs.Common.{◌≡◌, [], ◌∷◌}
use Rattle.gx_meaning.specs.Aggregates.{aggregate}
use Rattle.gx_gather.proofs.Tallied.{still}
use Rattle.gx_gather.proofs.tally.add_to_each.Given as goal

abbrev pub invariant-loop-place : goal.invariant-loop-place
invariant-loop-place l = still (aggregate (l.row ∷ [])) l.place l.items l.cells.items ≡ still (aggregate (l.row ∷ [])) 0 l.items l.initial.cells.items
