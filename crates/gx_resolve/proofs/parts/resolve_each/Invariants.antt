use Rattle.std.proofs.Common.{◌≡◌, drop}
use Rattle.gx_resolve.specs.Results.{each}
use Rattle.gx_resolve.proofs.Each.{onto}
use Rattle.gx_resolve.proofs.parts.resolve_each.Given as goal

abbrev pub invariant-loop-item : goal.invariant-loop-item
invariant-loop-item g l = onto l.all (each (g.T.Written.means l.columns) (drop l.item-index l.items)) ≡ each (g.T.Written.means l.columns) l.items
