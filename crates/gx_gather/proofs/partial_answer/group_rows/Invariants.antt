use Rattle.std.proofs.Common.{◌≡◌, List, [], map, drop}
use Rattle.std.specs.BTreeMap.{get}
use Rattle.gx_tree.specs.declared.value.Value.{Value}
use Rattle.gx_meaning.specs.Order.{rising}
use Rattle.gx_meaning.specs.Tallies.{row_group, tally, total_at}
use Rattle.gx_gather.proofs.partial_answer.group_rows.Given as goal

abbrev pub invariant-loop-row : goal.invariant-loop-row
invariant-loop-row l = (q : List Value) → tally l.query.items q (get rising l.groups q) (map (row_group l.query) (drop l.row-index l.rows)) ≡ tally l.query.items q (total_at l.query [] q) (map (row_group l.query) l.rows)
