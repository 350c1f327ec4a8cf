use Rattle.std.proofs.Common.{◌≡◌, ◌++◌, map}
use Rattle.std.specs.Vec.Iter.{into_iter_items}
use Rattle.gx_meaning.specs.Tallies.{entry_group}
use Rattle.gx_gather.proofs.groups.groups_from.Given as goal

abbrev pub invariant-loop-entry : goal.invariant-loop-entry
invariant-loop-entry l =
    goal.iterator-loop-entry.can_next l.entry-iterator ×
    goal.iterator-loop-entry.is_finite l.entry-iterator ×
    (l.list.items ++ map entry_group (into_iter_items l.entry-iterator) ≡ map entry_group l.fn.entries.items)
