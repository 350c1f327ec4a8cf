use Rattle.std.proofs.Common.{◌≡◌, ◌∙◌, ap, length, subst}
use Rattle.std.specs.Prelude.{map}
use Rattle.gx_threads.specs.Sets.{AreInOrder, coord_id, segment_id}
use Rattle.gx_threads.proofs.Closing.{closes-again, opens}
use Rattle.gx_threads.proofs.threads.work_on.Goals as goal

pub opened-requires-clause-segments : goal.opened-requires-clause-segments
opened-requires-clause-segments g c κs within = opens c.into_cells-coord.result.0 c.into_cells-coord.result.1.items c.into_cells-coord.ensures.closed

pub of-requires : goal.of-requires
of-requires g c =
    let count = subst (λ xs. length xs ≡ c.len-count.result) c.as_slice.ensures.value (c.are_in_order.ensures.count c.if-are_in_order.true) ∙ c.len-count.ensures ∙ c.into_cells-coord.result.1.ok.0 in
    let order = subst AreInOrder c.as_slice.ensures.value (c.are_in_order.ensures.order c.if-are_in_order.true) in
    (closes-again c.in_ok-coord.coord c.into_cells-coord.result.0 c.in_ok-coord.segments.items c.into_cells-coord.result.1.items c.into_cells-coord.ensures.closed
    c.in_ok-coord.ensures.coordinator c.in_ok-coord.ensures.segments count order).0

pub returns-then-are_in_order : goal.returns-then-are_in_order
returns-then-are_in_order g c =
    let count = subst (λ xs. length xs ≡ c.len-count.result) c.as_slice.ensures.value (c.are_in_order.ensures.count c.if-are_in_order.true) ∙ c.len-count.ensures ∙ c.into_cells-coord.result.1.ok.0 in
    let order = subst AreInOrder c.as_slice.ensures.value (c.are_in_order.ensures.order c.if-are_in_order.true) in
    let same = (closes-again c.in_ok-coord.coord c.into_cells-coord.result.0 c.in_ok-coord.segments.items c.into_cells-coord.result.1.items c.into_cells-coord.ensures.closed
    c.in_ok-coord.ensures.coordinator c.in_ok-coord.ensures.segments count order).1 in
    record {
      coordinator = ap coord_id c.of.ensures.coord ∙ same.coordinator ∙ ap coord_id c.into_cells-coord.ensures.coord;
      segments = ap (map segment_id) c.of.ensures.segments ∙ same.segments ∙ ap (map segment_id) c.into_cells-coord.ensures.segments;
    }
