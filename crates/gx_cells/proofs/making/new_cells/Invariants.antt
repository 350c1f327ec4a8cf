use Rattle.std.proofs.Common.{◌≡◌, ◌++◌}
use Rattle.std.specs.Prelude.{map}
use Rattle.std.specs.Vec.Iter.{into_iter_items}
use Rattle.gx_cells.proofs.MadeCells.{AreMade}
use Rattle.gx_cells.proofs.making.new_cells.Given as goal

abbrev pub invariant-loop-own : goal.invariant-loop-own
invariant-loop-own g l =
    (goal.iterator-loop-own g).can_next l.own-iterator
    × (goal.iterator-loop-own g).is_finite l.own-iterator
    × (l.fn.journals.items ≡ l.yielded ++ into_iter_items l.own-iterator)
    × AreMade l.script.value (map g.J.Journal.shelf l.yielded) l.outs.items l.inboxes.items l.segments.items
