use Rattle.std.proofs.Common.{◌∙◌, Bor, ap, map}
use Rattle.std.proofs.lemmas.Result.{IfOk-weaker}
use Rattle.std.specs.List.{flat_map}
use Rattle.gx_tree.specs.declared.row.KeyedRow.{KeyedRow}
use Rattle.gx_meaning.specs.Answer.{row_cell, rows_in}
use Rattle.gx_gather.proofs.Merges.{rows_answered}
use Rattle.gx_gather.proofs.merging.merge_rows.Goals as goal

pub returns : goal.returns
returns c =
    IfOk-weaker c.rows_out.result _ _ (λ out made.
    made ∙ ap (λ items. map (λ (row : Bor KeyedRow). map (row_cell row.now) items) c.as_slice-2.result.now) c.as_slice.ensures
    ∙ ap (map (λ (row : Bor KeyedRow). map (row_cell row.now) c.args.query.now.items)) c.as_slice-2.ensures.value
    ∙ rows_answered (λ (row : Bor KeyedRow). row.now) c.args.query.now (flat_map rows_in c.args.parts.now) c.in_ok-rows.rows.items c.in_ok-rows.ensures) c.rows_out.ensures
