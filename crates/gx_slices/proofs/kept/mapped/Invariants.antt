use Rattle.std.proofs.Common.{◌≡◌, []}
use Rattle.std.specs.Vec.Iter.{into_iter_items}
use Rattle.gx_slices.specs.Kept.{listed, put_all}
use Rattle.gx_slices.proofs.kept.mapped.Given as goal

abbrev pub invariant-loop-rid : goal.invariant-loop-rid
invariant-loop-rid l =
    goal.iterator-loop-rid.can_next l.rid-iterator ×
    goal.iterator-loop-rid.is_finite l.rid-iterator ×
    (put_all (listed l.rows.entries) (into_iter_items l.rid-iterator) ≡ put_all [] l.fn.list.items)
