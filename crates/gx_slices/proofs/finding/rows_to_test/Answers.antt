use Rattle.std.proofs.Common.{◌∙◌, List, slice_get, sym, ap}
use Rattle.std.proofs.lemmas.Result.{IfOk-weaker}
use Rattle.gx_tree.specs.declared.schema.Dist.{Dist}
use Rattle.gx_slices.specs.Keyed.{key_column}
use Rattle.gx_slices.proofs.Keyed.{shown_all}
use Rattle.gx_slices.proofs.finding.rows_to_test.Goals as goal

pub rows_by_column-requires : goal.rows_by_column-requires
rows_by_column-requires g c = (c.requires.1, sym (ap (λ (l : List Dist). key_column (slice_get l c.args.table.0)) c.requires.0) ∙ sym c.key_column.ensures ∙ c.in-Some.is)

pub returns-in-None-clause-images : goal.returns-in-None-clause-images
returns-in-None-clause-images g c =
    IfOk-weaker
    c.rows_in.result
    _
    _
    (λ rows whole. shown_all g.all c.args.index.now c.args.tables.now.entries c.args.xids.now c.requires.1 c.args.table c.args.snap.now c.args.own c.args.cid c.args.cond.now rows.items whole)
    c.rows_in.ensures.whole
