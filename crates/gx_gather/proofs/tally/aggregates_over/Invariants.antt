use Rattle.std.proofs.Common.{◌≡◌, map, take}
use Rattle.gx_meaning.specs.Aggregates.{aggregate}
use Rattle.gx_gather.proofs.tally.aggregates_over.Given as goal

abbrev pub invariant-loop-item : goal.invariant-loop-item
invariant-loop-item l = l.cells.items ≡ map (aggregate l.rows) (take l.item-index l.items)
