use Rattle.std.proofs.Common.{◌∙◌, Bor, ap, map}
use Rattle.std.proofs.lemmas.Result.{IfOk-weaker}
use Rattle.gx_tree.specs.declared.row.KeyedRow.{KeyedRow}
use Rattle.gx_meaning.specs.Answer.{limited}
use Rattle.gx_meaning.specs.Order.{in_order, row_order}
use Rattle.gx_gather.proofs.Merges.{first_ordered}
use Rattle.gx_gather.proofs.merging.rows_in_order.Goals as goal

pub returns-in-Some : goal.returns-in-Some
returns-in-Some c =
    let keys = c.args.keys.now in
    IfOk-weaker c.first_rows.result _ _ (λ found made.
    first_ordered (λ (row : Bor KeyedRow). row.now) (row_order keys) c.args.limit c.in-Some.limit c.as_slice.result.now found.items c.in-Some.ensures made
    ∙ ap (λ rows. limited c.args.limit (in_order (row_order keys) (map (λ (row : Bor KeyedRow). row.now) rows))) c.as_slice.ensures.value) c.first_rows.ensures
