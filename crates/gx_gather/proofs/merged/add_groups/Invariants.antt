use Rattle.std.proofs.Common.{◌≡◌, List, drop}
use Rattle.std.specs.BTreeMap.{get}
use Rattle.gx_tree.specs.declared.value.Value.{Value}
use Rattle.gx_meaning.specs.Order.{rising}
use Rattle.gx_meaning.specs.Tallies.{tally}
use Rattle.gx_gather.proofs.merged.add_groups.Given as goal

abbrev pub invariant-loop-group : goal.invariant-loop-group
invariant-loop-group l = (q : List Value) → tally l.items q (get rising l.groups q) (drop l.group-index l.more) ≡ tally l.items q (get rising l.initial.groups q) l.more
