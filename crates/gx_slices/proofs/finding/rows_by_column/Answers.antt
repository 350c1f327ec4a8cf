use Rattle.std.proofs.lemmas.Result.{IfOk-weaker}
use Rattle.gx_slices.proofs.Keyed.{shown_all, shown_with}
use Rattle.gx_slices.proofs.finding.rows_by_column.Goals as goal

pub returns-in-Some-clause-images : goal.returns-in-Some-clause-images
returns-in-Some-clause-images g c =
    IfOk-weaker
    c.rows_under_key.result
    _
    _
    (λ rows whole.
    shown_with g.dists c.args.index.now c.args.tables.now.entries c.args.xids.now c.requires.0 c.args.table c.args.snap.now c.args.own c.args.cid c.args.cond.now rows.items c.args.column c.requires.1 c.in-Some.value.now c.in-Some.ensures whole)
    c.rows_under_key.ensures.whole

pub returns-in-None-clause-images : goal.returns-in-None-clause-images
returns-in-None-clause-images g c =
    IfOk-weaker
    c.rows_in.result
    _
    _
    (λ rows whole. shown_all g.dists c.args.index.now c.args.tables.now.entries c.args.xids.now c.requires.0 c.args.table c.args.snap.now c.args.own c.args.cid c.args.cond.now rows.items whole)
    c.rows_in.ensures.whole
