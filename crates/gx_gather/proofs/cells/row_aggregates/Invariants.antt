use Rattle.std.proofs.Common.{◌≡◌, map, [], ◌∷◌, take}
use Rattle.gx_meaning.specs.Aggregates.{aggregate}
use Rattle.gx_gather.proofs.cells.row_aggregates.Given as goal

abbrev pub invariant-loop-item : goal.invariant-loop-item
invariant-loop-item l = l.cells.items ≡ map (aggregate (l.row ∷ [])) (take l.item-index l.items)
