use Rattle.std.proofs.Common.{◌+◌, List, Err, sym, subst}
use Rattle.std.proofs.lemmas.Result.{err_from_is_err_and}
use Rattle.gx_tree.specs.declared.schema.Column.{Column}
use Rattle.gx_tree.specs.declared.value.Value.{Value}
use Rattle.gx_trace_lines.specs.Tables.{table_row}
use Rattle.gx_read_trace.specs.Machine.{all_of}
use Rattle.gx_read_trace.specs.Rests.{IsReadAs, Takes}
use Rattle.gx_read_trace.specs.declared.fault.TraceFault.{TraceFault}
use Rattle.gx_read_trace.proofs.Onward.{TableSoFar, table_row_fails, table_row_more, table_row_of}
use Rattle.gx_read_trace.proofs.table_rows.read_table.Goals as goal

pub returns-in_err-row : goal.returns-in_err-row
returns-in_err-row c =
    let f : TraceFault = c.in_err-row.field-0.0 in
    let is : Takes (table_row_of c.args.table.now) c.loop-row.lines c.take_table_row.new.lines (Err f)
    = subst (λ (columns : List Column). Takes (λ line. all_of (table_row columns line)) c.loop-row.lines c.take_table_row.new.lines (Err f)) c.as_slice-in-loop-row.ensures c.in_err-row.ensures in
    let p = err_from_is_err_and c.from_residual-in_err-row.result c.from_residual-in_err-row.ensures.1 in
    rw (p.1, p.2) (table_row_fails c.args.table.now c.args.lines.now c.in_ok-count.count c.loop-row._row c.loop-row.lines c.take_table_row.new.lines c.loop-row.rows f c.loop-row-test.true c.loop-row.invariant is)

pub loop-row-preserved : goal.loop-row-preserved
loop-row-preserved c =
    let row : List Value = c.in_ok-row.row in
    let is : IsReadAs (table_row_of c.args.table.now) c.loop-row.lines c.take_table_row.new.lines row
    = subst (λ (columns : List Column). IsReadAs (λ line. all_of (table_row columns line)) c.loop-row.lines c.take_table_row.new.lines row) c.as_slice-in-loop-row.ensures c.in_ok-row.ensures in
    subst (λ (rows : List (List Value)). TableSoFar c.args.table.now c.args.lines.now c.in_ok-count.count (c.loop-row._row + 1) c.take_table_row.new.lines rows) (sym c.in_ok-push.ensures.ok)
    (table_row_more c.args.table.now c.args.lines.now c.in_ok-count.count c.loop-row._row c.loop-row.lines c.take_table_row.new.lines c.loop-row.rows row c.loop-row-test.true c.loop-row.invariant is)
