use Rattle.std.proofs.Common.{◌≡◌, ◌++◌, Some, filter}
use Rattle.std.specs.List.{AllByRecursion}
use Rattle.std.specs.Vec.Iter.{into_iter_items}
use Rattle.gx_meaning.specs.Answer.{keeps}
use Rattle.gx_rules.specs.Slices.{first_fault}
use Rattle.gx_slices.specs.Picked.{IsTypedOn}
use Rattle.gx_slices.proofs.picking.pick_by.Given as goal

abbrev pub invariant-loop-row : goal.invariant-loop-row
invariant-loop-row l =
    goal.iterator-loop-row.can_next l.row-iterator ×
    goal.iterator-loop-row.is_finite l.row-iterator ×
    (first_fault (Some l.cond) (into_iter_items l.row-iterator) ≡ first_fault (Some l.cond) l.fn.rows.items) ×
    (l.kept.items ++ filter (keeps (Some l.cond)) (into_iter_items l.row-iterator) ≡ filter (keeps (Some l.cond)) l.fn.rows.items) ×
    AllByRecursion (IsTypedOn l.cond) (into_iter_items l.row-iterator)
