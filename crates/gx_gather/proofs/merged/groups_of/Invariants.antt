use Rattle.std.proofs.Common.{◌≡◌, List, [], drop}
use Rattle.std.specs.BTreeMap.{get}
use Rattle.gx_tree.specs.declared.value.Value.{Value}
use Rattle.gx_meaning.specs.Order.{rising}
use Rattle.std.specs.List.{flat_map}
use Rattle.gx_meaning.specs.Answer.{groups_in}
use Rattle.gx_meaning.specs.Tallies.{tally, total_at}
use Rattle.gx_gather.proofs.merged.groups_of.Given as goal

abbrev pub invariant-loop-part : goal.invariant-loop-part
invariant-loop-part l = (q : List Value) → tally l.query.items q (get rising l.groups q) (flat_map groups_in (drop l.part-index l.parts)) ≡ tally l.query.items q (total_at l.query [] q) (flat_map groups_in l.parts)
