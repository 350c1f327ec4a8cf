use Rattle.std.proofs.Common.{◌∙◌, sym, ap, map}
use Rattle.gx_legal.proofs.Views.{view-same}
use Rattle.gx_trace.specs.ShownText.{row_of}
use Rattle.gx_judging.proofs.tables.is_table_shown.Goals as goal

pub returns : goal.returns
returns c =
    let ms = c.args.marks.now in
    let rows = c.in_ok-rows.ensures in
    let same = c.as_slice.ensures.value in (
      λ t. record { rows = c.in_ok-rows.rows.items; view = rows.view; same = ap (map row_of) (sym same) ∙ c.are_rows-are.ensures.0 t },
      λ is. c.are_rows-are.ensures.1 (ap (map row_of) (same ∙ rows.rows ∙ sym (view-same ms ms _ c.args.table is.rows is.view)) ∙ is.same),
    )
