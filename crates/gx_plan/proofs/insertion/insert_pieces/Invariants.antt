use Rattle.std.proofs.Common.{◌≡◌, ◌++◌, length}
use Rattle.std.specs.Vec.Iter.{into_iter_items}
use Rattle.gx_meaning.specs.Plan.{bucket_pieces}
use Rattle.gx_plan.proofs.insertion.insert_pieces.Given as goal

abbrev pub invariant-loop-rows : goal.invariant-loop-rows
invariant-loop-rows l =
    (goal.iterator-loop-rows).can_next l.rows-iterator ×
    (goal.iterator-loop-rows).is_finite l.rows-iterator ×
    (l.fn.buckets.items ≡ l.yielded ++ into_iter_items l.rows-iterator) ×
    (l.number ≡ length l.yielded) ×
    (l.pieces.items ≡ bucket_pieces l.table 1 l.yielded)
