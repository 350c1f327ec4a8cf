use Rattle.std.proofs.Common.{None, ap, map-id, refl, rules, sym, ◌∙◌}
use Rattle.std.proofs.lemmas.Iterator.{YieldsList-from_map, items_from_drains}
use Rattle.std.proofs.lemmas.Iterator.Adapters.{YieldsList-from_vec}
use Rattle.std.specs.Map.{update_all}
use Rattle.std.specs.Ordering.{eq_by_cmp}
use Rattle.gx_meaning.specs.Order.{rid_order}
use Rattle.gx_tables.proofs.Gathered.{updated-last}
use Rattle.gx_tables.proofs.rows.by_rid.Goals as goal

pub returns : goal.returns
returns c = λ q.
    let all = YieldsList-from_vec c.args.rows.items (search rules) (search rules) in
    let chain = YieldsList-from_map _ (λ r. (r.rid, r.row)) all refl (λ x r q k. search rules) in
    let ran = c.in_ok-rows.ensures.ran in
    ran.2.0 q ∙ ap (λ pairs. update_all (eq_by_cmp rid_order) (λ _. None) pairs q) (sym (map-id ran.0) ∙ items_from_drains ran.0 ran.1 chain) ∙ updated-last c.args.rows.items q
