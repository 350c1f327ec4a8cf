use Rattle.std.proofs.Common.{◌≡◌, drop}
use Rattle.std.specs.List.{list_any}
use Rattle.gx_resolve.specs.Selecting.{is_aggregate}
use Rattle.gx_resolve.proofs.select.any_aggregate.Given as goal

abbrev pub invariant-loop-item : goal.invariant-loop-item
invariant-loop-item l = list_any is_aggregate (drop l.item-index l.items) ≡ list_any is_aggregate l.items
