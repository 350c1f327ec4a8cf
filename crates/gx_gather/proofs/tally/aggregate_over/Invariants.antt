use Rattle.std.proofs.Common.{◌≡◌, take}
use Rattle.gx_meaning.specs.Aggregates.{aggregate}
use Rattle.gx_gather.proofs.tally.aggregate_over.Given as goal

abbrev pub invariant-loop-row : goal.invariant-loop-row
invariant-loop-row l = l.cell ≡ aggregate (take l.row-index l.rows) l.item
