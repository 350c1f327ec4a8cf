use Rattle.std.proofs.Common.{◌∙◌, List, ap}
use Rattle.std.proofs.lemmas.Result.{IfOk-weaker}
use Rattle.std.specs.List.{flat_map}
use Rattle.gx_tree.specs.declared.row.KeyedRow.{KeyedRow}
use Rattle.gx_meaning.specs.Answer.{limited, row_keys, rows_in}
use Rattle.gx_meaning.specs.Order.{in_order, row_order}
use Rattle.gx_meaning.specs.declared.sort_key.SortKey.{SortKey}
use Rattle.gx_gather.proofs.merging.ordered_rows.Goals as goal

pub returns : goal.returns
returns c =
    let limit = c.args.query.now.limit in
    IfOk-weaker c.rows_in_order.result _ _ (λ found made.
    made ∙ ap (λ (rows : List KeyedRow). limited limit (in_order (row_order c.as_slice-2.result.now) rows)) c.in_ok-rows.ensures
    ∙ ap (λ (keys : List SortKey). limited limit (in_order (row_order keys) (flat_map rows_in c.args.parts.now))) (c.as_slice-2.ensures.value ∙ c.in_ok-places.ensures ∙ ap row_keys c.as_slice.ensures)) c.rows_in_order.ensures
